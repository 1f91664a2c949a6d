-- The eight are fed the newline's class. Assumes nothing.
use mathlib.Core.Path.{◌∙◌}
use Rattle.md_running_meaning.specs.Closing.{ended}
use Rattle.md_running_meaning.proofs.Laws.Bounds.{sound_room}
use Rattle.md_running.proofs.closing.ended.Goals as goal

pub fed_watched-requires : goal.fed_watched-requires
fed_watched-requires c = sound_room _ c.requires

pub returns : goal.returns
unfolding ended
returns c = c.fed_watched.ensures ∙ rw c.newline.ensures
