-- By the length. Assumes nothing.
use mathlib.Core.Path.{◌∙◌}
use Rattle.md_compact.proofs.Laws.Either.{burst_long, burst_fits}
use Rattle.md_compact.proofs.first.first_of_burst.Goals as goal

pub returns-then-bytes-gt-LONGEST_BURST : goal.returns-then-bytes-gt-LONGEST_BURST
returns-then-bytes-gt-LONGEST_BURST c = c.refuse.ensures ∙ burst_long _ _ c.if-bytes-gt-LONGEST_BURST.true

pub returns : goal.returns
returns c = c.first_of_threshold.ensures ∙ burst_fits _ _ c.if-bytes-gt-LONGEST_BURST.false
