use Rattle.md_rest.specs.Inner.Whole.{Valued}
use Rattle.md_rest.proofs.whole.all_valued.Given as goal

abbrev pub invariant-loop-i : goal.invariant-loop-i
invariant-loop-i l = Valued l.all l.text l.from l.i
