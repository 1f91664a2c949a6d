-- One of the causes before the character, or the character itself. Assumes nothing.
use mathlib.Core.Path.{sym, ◌∙◌}
use Rattle.md_running_meaning.proofs.Laws.Feeding.{free_call, one_room, feed_refused, feed_on}
use Rattle.md_running.proofs.feed_line.Goals as goal

pub feed_checked-requires : goal.feed_checked-requires
feed_checked-requires c =
    let passed = free_call _ _ _ _ (sym c.check_feed.ensures ∙ c.in-Ok.is) in
    (passed.sound, one_room _ _ _ passed, passed.tables)

pub returns-in-Err : goal.returns-in-Err
returns-in-Err c =
    c.unfed.ensures ∙ feed_refused _ _ _ _ _ (sym c.check_feed.ensures ∙ c.in-Err.is)

pub returns-in-Ok : goal.returns-in-Ok
returns-in-Ok c =
    c.feed_checked.ensures ∙ feed_on _ _ _ _ (sym c.check_feed.ensures ∙ c.in-Ok.is)
