use Rattle.cd_meaning.proofs.Laws.Reading.{Reading}
use Rattle.cd.proofs.reading.read_layers.Given as goal

abbrev pub invariant-loop-k : goal.invariant-loop-k
invariant-loop-k l = Reading l.threshold l.small l.classes l.languages l.included l.slots l.initial.work l.count l.work l.s l.k
