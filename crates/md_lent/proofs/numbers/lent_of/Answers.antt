-- The definition's record, each mark being 1 or 0. Assumes nothing.
use Rattle.md_lent_meaning.specs.Lent.{lent_of}
use Rattle.md_lent.proofs.numbers.lent_of.Goals as goal

pub returns : goal.returns
unfolding lent_of
returns c =
    simp (c.one.ensures.is, c.one-2.ensures.is, c.one-3.ensures.is, c.one-4.ensures.is, c.one-5.ensures.is, c.one-6.ensures.is)
