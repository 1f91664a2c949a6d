-- Both texts are scored, and the verdict is on the two answers. Assumes nothing.
use Rattle.md_chooser_meaning.specs.Choose.{verdict_of}
use Rattle.md_chooser.proofs.verdict.Goals as goal

pub returns : goal.returns
unfolding verdict_of
returns c = cc
