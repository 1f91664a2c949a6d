use Rattle.md_rest.specs.Inner.Rest.{Past}
use Rattle.md_rest.proofs.rest.past_within.Given as goal

abbrev pub invariant-loop-i : goal.invariant-loop-i
invariant-loop-i l = Past l.text l.low l.high l.from l.end l.i
