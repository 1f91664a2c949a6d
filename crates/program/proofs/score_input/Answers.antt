-- It is the call's own answer, and the pair table is the definition's. Assumes nothing.
use mathlib.Core.Path.{ap, ◌∙◌}
use Rattle.md_utf8_meaning.specs.ScoreUtf8.{mess_ratio_utf8}
use Rattle.program.proofs.score_input.Goals as goal

pub returns : goal.returns
returns c = c.mess_ratio_utf8.ensures ∙ ap (mess_ratio_utf8 _ _ _) c.no_pairs-pairs.ensures
