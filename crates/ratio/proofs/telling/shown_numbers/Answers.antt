-- Each mark is what `one` ensures of it. Assumes nothing.
use Rattle.ratio.specs.Shown.{shown_numbers, numbers_of}
use Rattle.ratio.proofs.telling.shown_numbers.Goals as goal

pub returns : goal.returns
unfolding shown_numbers numbers_of
returns c =
    simp (
      c.one-8.ensures.is,
      c.one-7.ensures.is,
      c.one-6.ensures.is,
      c.one-5.ensures.is,
      c.one-4.ensures.is,
      c.one-3.ensures.is,
      c.one-2.ensures.is,
      c.one.ensures.is,
    )
