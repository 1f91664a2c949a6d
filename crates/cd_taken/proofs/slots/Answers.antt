-- The length and the count of U+0130 are the definition's. Assumes nothing.
use native.Mathlib.Omega.{arith}
use Rattle.cd_letters.proofs.Laws.Letters.{count_few}
use Rattle.cd_taken_meaning.specs.Taken.{CAPITAL_I_WITH_DOT}
use Rattle.cd_taken.proofs.slots.Goals as goal

pub overflow_add-result : goal.overflow_add-result
overflow_add-result c =
    omega (arith, c.size.ensures, count_few CAPITAL_I_WITH_DOT c.args.text.now, c.requires)

pub returns : goal.returns
returns c = rw c.size.ensures
