-- What is no letter adds 0 to either count (`added`). Assumes nothing.
use Rattle.md_counts.proofs.Laws.TooManyAccentuated.{added}
use Rattle.md_counts.proofs.too_many_accentuated.TooManyAccentuated.feed_run.Goals as goal

pub returns : goal.returns
returns c =
    rw (c.pick.ensures.is, c.pick-2.ensures.is, c.is_set-letter.ensures, c.is_set.ensures) (added _ _ _)
