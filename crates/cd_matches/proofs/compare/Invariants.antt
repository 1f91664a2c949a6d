use mathlib.Core.Path.{◌≡◌}
use lib.ListN.{length}
use Rattle.base.specs.Limits.{LANGUAGE_LETTERS}
use Rattle.cd_best.proofs.Loops.Walking.{Walking}
use Rattle.cd_matches.specs.Matches.{scores_of}
use Rattle.cd_matches.proofs.compare.Given as goal

abbrev pub invariant-loop-record : goal.invariant-loop-record
invariant-loop-record l = Walking l.threshold l.initial.s l.records (scores_of l.languages l.order l.records) l.s l.record-index × (length l.letters ≡ LANGUAGE_LETTERS)
