-- A character is a run of one. Assumes nothing.
use mathlib.Core.Path.{◌∙◌}
use Rattle.md_counts.proofs.Laws.TooManyAccentuated.{run_one}
use Rattle.md_counts.proofs.too_many_accentuated.TooManyAccentuated.feed.Goals as goal

pub returns : goal.returns
returns c = c.feed_run.ensures ∙ run_one _ _
