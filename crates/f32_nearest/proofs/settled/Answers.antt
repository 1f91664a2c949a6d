-- Below a half the number stays, above a half it is the next one, and at a half the even one of the two: the cases of `nearest`.
-- Assumes nothing.
use Rattle.f32_nearest.proofs.Laws.Halves.{half_less, half_more, half_even, half_odd}
use Rattle.f32_nearest.proofs.settled.Goals as goal

pub returns-then-r-lt-HALF : goal.returns-then-r-lt-HALF
returns-then-r-lt-HALF c = half_less _ _ c.if-r-lt-HALF.true

pub returns-then-r-gt-HALF : goal.returns-then-r-gt-HALF
returns-then-r-gt-HALF c = half_more _ _ c.if-r-gt-HALF.true

pub returns-then-q-eq0 : goal.returns-then-q-eq0
returns-then-q-eq0 c = half_even _ _ c.if-r-lt-HALF.false c.if-r-gt-HALF.false c.if-q-eq0.true

pub returns : goal.returns
returns c = half_odd _ _ c.if-r-lt-HALF.false c.if-r-gt-HALF.false c.if-q-eq0.false
