use Rattle.md_rest.specs.Inner.Rest.{Builtin}
use Rattle.md_rest.proofs.rest.all_builtin.Given as goal

abbrev pub invariant-loop-i : goal.invariant-loop-i
invariant-loop-i l = Builtin l.all l.text l.from l.i
