-- The watched step and the checkpoint are the definition's. Assumes nothing.
use Rattle.md_growth.specs.Growth.{watch}
use Rattle.md_growth.specs.Text.{watched_next}
use Rattle.md_running_meaning.specs.Feeding.{stops_at, fed_on}
use Rattle.md_running_meaning.proofs.Laws.Bounds.{sound_watchable, fed_countable}
use Rattle.md_running.proofs.step.fed_on.Goals as goal

pub watch-watched-requires : goal.watch-watched-requires
watch-watched-requires c = sound_watchable _ c.requires.sound _ _

pub over_at-stopped-requires : goal.over_at-stopped-requires
unfolding watch
over_at-stopped-requires c =
    rw c.watch-watched.ensures (fed_countable _ c.requires.sound _ _)

pub returns : goal.returns
unfolding fed_on stops_at watched_next
returns c =
    simp (c.over_at-stopped.ensures, c.watch-watched.ensures, c.is_suspicious-suspicious.ensures, c.last_range.ensures)
