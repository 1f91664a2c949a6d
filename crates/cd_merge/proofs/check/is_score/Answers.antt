-- Bits that are no NaN are those of a number, which is compared as the definition does. Assumes nothing.
use mathlib.Core.Path.{refl, sym}
use Rattle.cd_merge_meaning.specs.Answer.{is_score}
use Rattle.cd_merge_meaning.proofs.Laws.Check.{nan_score, number_bits}
use Rattle.cd_merge.proofs.check.is_score.Goals as goal

pub returns-then-bits-gt-INFINITY_BITS : goal.returns-then-bits-gt-INFINITY_BITS
returns-then-bits-gt-INFINITY_BITS c = sym (nan_score _ c.if-bits-gt-INFINITY_BITS.true)

pub float_from_bits-x : goal.float_from_bits-x
float_from_bits-x c = number_bits _ c.if-bits-gt-INFINITY_BITS.false

pub returns : goal.returns
unfolding is_score
returns c = refl
