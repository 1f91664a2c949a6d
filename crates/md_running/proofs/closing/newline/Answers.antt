-- The class that the built-in table gives. Assumes nothing.
use Rattle.md_running_meaning.proofs.Laws.Closing.{newline_is}
use Rattle.md_running.proofs.closing.newline.Goals as goal

pub returns : goal.returns
returns c = newline_is
