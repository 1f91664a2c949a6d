-- Each of the eight places is its definition's. Assumes nothing.
use Rattle.md_growth.specs.Growth.{grown_after}
use Rattle.md_growth.proofs.grown_after.Goals as goal

pub returns : goal.returns
unfolding grown_after
returns c =
    simp (
      c.grown_to.ensures,
      c.grown_to-2.ensures,
      c.grown_to-3.ensures,
      c.grown_to-4.ensures,
      c.grown_to-5.ensures,
      c.grown_to-6.ensures,
      c.grown_to-7.ensures,
      c.grown_to-8.ensures,
    )
