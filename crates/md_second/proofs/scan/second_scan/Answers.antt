-- A character without a class is refused first; else the score by the lists is the scan's. Assumes nothing.
use mathlib.Core.Path.{◌∙◌}
use Rattle.md_second.proofs.Laws.Same.{list_same, listed_all, scan_classless, scan_classed}
use Rattle.md_second.proofs.scan.second_scan.Goals as goal

pub returns-then-bad-text : goal.returns-then-bad-text
returns-then-bad-text c = c.refuse.ensures ∙ scan_classless _ _ _ _ _ c.first_classless-bad.ensures c.if-bad-text.true

pub compare_all-requires : goal.compare_all-requires
compare_all-requires c =
    listed_all _ _ _ _ _ _ _ c.points_of-points.ensures c.flags_of-flags.ensures c.ranges_of-ranges.ensures c.bases_of-bases.ensures
    c.requires.0 c.requires.1

pub returns : goal.returns
returns c =
    c.compare_all.ensures ∙ list_same _ _ _ _ _ _ _ c.points_of-points.ensures c.flags_of-flags.ensures c.ranges_of-ranges.ensures
    c.bases_of-bases.ensures _ ∙ scan_classed _ _ _ _ _ c.first_classless-bad.ensures c.if-bad-text.false
