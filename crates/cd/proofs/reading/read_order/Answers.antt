-- The accents are those of the letters in order. Assumes nothing.
use mathlib.Core.Path.{◌∙◌}
use Rattle.cd_meaning.specs.Inner.After.{order_after}
use Rattle.cd.proofs.reading.read_order.Goals as goal

pub returns : goal.returns
unfolding order_after
returns c = c.read_matches.ensures ∙ rw c.some_accented-accented.ensures
