-- The class is the one that the scan feeds, and one watched step is the definition's. Assumes nothing.
use mathlib.Core.Path.{sym}
use Rattle.md_growth.specs.Text.{watched_next}
use Rattle.md_reason.proofs.Laws.Steps.{fed_range, watched_range, fed_watchable, watched_next_lem}
use Rattle.md_reason.proofs.growing.watched_after.Goals as goal

pub is_suspicious-suspicious-requires : goal.is_suspicious-suspicious-requires
is_suspicious-suspicious-requires c = (
  c.requires.0.tables.fits,
  rw (c.last_range.ensures, c.requires.2) (watched_range _ _ _ c.requires.0.tables.good _),
  rw c.fed_class-c.ensures (fed_range _ _ c.requires.0.tables.good _),
)

pub watch-requires : goal.watch-requires
watch-requires c =
    rw c.requires.2 (fed_watchable _ _ _ c.requires.0.short _ c.requires.1 _ _)

pub returns : goal.returns
unfolding watched_next
returns c =
    simp (c.watch.ensures, c.is_suspicious-suspicious.ensures, c.last_range.ensures, c.fed_class-c.ensures, c.requires.2) (sym (watched_next_lem _ _ _ _))
