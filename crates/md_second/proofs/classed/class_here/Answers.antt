-- What the lookup found, or nothing but the character itself. Assumes nothing.
use mathlib.Core.Path.{◌∙◌}
use Rattle.md_second.proofs.Loops.Lists.{here_found}
use Rattle.md_second.proofs.classed.class_here.Goals as goal

pub returns : goal.returns
returns c = c.unwrap_or.ensures ∙ here_found _ _ _ _ _ c.point_here-point.ensures c.look_up_in.ensures
