-- Away from a checkpoint the definition's test is false, and at one it is the comparison. Assumes nothing.
use mathlib.Core.Path.{sym, ◌∙◌}
use Rattle.md_meaning.specs.Scan.{sum_of}
use Rattle.md_second.specs.Inner.Listed.{stops_there}
use Rattle.md_second.proofs.Laws.After.{eight_small}
use Rattle.md_second.proofs.scan.stops_after.Goals as goal

pub ratios-requires : goal.ratios-requires
ratios-requires c =
    rw c.eight_after-counts.ensures (eight_small _ _ _ _ _ _ c.requires)

pub returns-then-is_compared : goal.returns-then-is_compared
unfolding stops_there sum_of
returns-then-is_compared c =
    simp (sym c.is_compared.ensures ∙ c.if-is_compared.true, c.sum.ensures, c.ratios.ensures, c.eight_after-counts.ensures)

pub returns : goal.returns
unfolding stops_there
returns c = simp (sym c.is_compared.ensures ∙ c.if-is_compared.false)
