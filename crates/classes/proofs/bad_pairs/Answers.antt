-- Each return is the cause there or not. Assumes nothing.
use mathlib.Core.Path.{sym, ◌∙◌}
use Rattle.classes.proofs.Laws.Tables.{pairs_refused, fit_free}
use Rattle.classes.proofs.bad_pairs.Goals as goal

pub returns-then-pairs-ne-PAIR_BYTES : goal.returns-then-pairs-ne-PAIR_BYTES
returns-then-pairs-ne-PAIR_BYTES c = c.refuse.ensures ∙ sym (pairs_refused _ c.if-pairs-ne-PAIR_BYTES.true)

pub returns : goal.returns
returns c = sym (fit_free _ c.if-pairs-ne-PAIR_BYTES.false)
