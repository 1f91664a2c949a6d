-- One test of a bit for each flag that the definition names. Assumes nothing.
use Rattle.md_words.specs.ArchaicUpperLower.{separates}
use Rattle.md_second.proofs.readers.parts_case.Goals as goal

pub returns : goal.returns
unfolding separates
returns c = simp (c.is_set-2.ensures, c.is_set.ensures)
