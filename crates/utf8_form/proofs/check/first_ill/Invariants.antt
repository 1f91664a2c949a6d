use mathlib.Core.Path.{◌≡◌}
use mathlib.Core.Bool.{not}
use lib.ListN.{length, get_or}
use Rattle.base.specs.Inner.First.{first_from}
use Rattle.base.specs.Tests.{scalar}
use Rattle.utf8_write_meaning.specs.Answer.{ill_at}
use Rattle.utf8_form.proofs.check.first_ill.Given as goal

abbrev pub invariant-loop-i : goal.invariant-loop-i
invariant-loop-i l = first_from (λ j. not (scalar (get_or l.text j 0))) (length l.text) l.i ≡ ill_at l.text
