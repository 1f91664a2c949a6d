use Rattle.cd_languages.specs.Languages.{first_record}
use Rattle.cd_matches.proofs.Loops.Filling.{Filling}
use Rattle.cd_matches.proofs.included_records.Given as goal

abbrev pub invariant-loop-k : goal.invariant-loop-k
invariant-loop-k l = Filling (first_record l.t) l.included l.initial.out l.out l.k
