-- One of the causes before the characters, or the characters themselves. Assumes nothing.
use mathlib.Core.Path.{sym, ◌∙◌}
use Rattle.md_running_meaning.proofs.Laws.Chunk.{chunk_refused, chunk_on, chunk_room}
use Rattle.md_running.proofs.feed_chunk.Goals as goal

pub feed_each-requires : goal.feed_each-requires
feed_each-requires c = chunk_room _ _ _ _ (sym c.check_feed.ensures ∙ c.in-Ok.is)

pub returns-in-Err : goal.returns-in-Err
returns-in-Err c =
    c.unfed.ensures ∙ chunk_refused _ _ _ _ _ (sym c.check_feed.ensures ∙ c.in-Err.is)

pub returns-in-Ok : goal.returns-in-Ok
returns-in-Ok c =
    c.feed_each.ensures ∙ chunk_on _ _ _ _ (sym c.check_feed.ensures ∙ c.in-Ok.is)
