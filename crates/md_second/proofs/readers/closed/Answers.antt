-- Each count is the definition's, by what the three tests of the word answer; the sums fit, since the counts have room. Assumes nothing.
use Rattle.md_second.specs.Inner.Reading.{closed}
use Rattle.md_second.proofs.readers.closed.Goals as goal

pub returns : goal.returns
unfolding closed
returns c =
    simp (
      c.pick.ensures.is,
      c.one-3.ensures.is,
      c.one-2.ensures.is,
      c.one.ensures.is,
      c.is_accented.ensures,
      c.is_long-long.ensures,
      c.ends_high-high.ensures,
    )
