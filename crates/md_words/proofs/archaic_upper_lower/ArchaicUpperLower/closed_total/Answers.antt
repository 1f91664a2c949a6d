-- Without a run nothing is added; the sum has room. Assumes nothing.
use Rattle.md_words.specs.Inner.ArchaicUpperLower.{closed_total}
use Rattle.md_words.proofs.Laws.ArchaicUpperLower.{cond_alike}
use native.Mathlib.Nat.{add-zero}
use Rattle.md_words.proofs.archaic_upper_lower.ArchaicUpperLower.closed_total.Goals as goal

pub returns-then-self-eq0 : goal.returns-then-self-eq0
unfolding closed_total
returns-then-self-eq0 c = simp (c.if-self-eq0.true, cond_alike, add-zero)

pub returns : goal.returns
unfolding closed_total
returns c = simp (c.pick.ensures.is, c.counted.ensures)
