-- The records stand in the first places of the array, and are compared one after the other.
-- Assumes nothing.
use mathlib.Core.Path.{◌∙◌}
use Rattle.cd_matches.specs.Inner.Put.{put_count, put_room}
use Rattle.cd_matches.proofs.Laws.Matches.{front_below, front_few, front_read}
use Rattle.cd_matches.proofs.read_matches.Goals as goal

pub slice_bounds-records-end : goal.slice_bounds-records-end
slice_bounds-records-end c = put_room c.match_records-n.ensures

pub slice_bounds-compare-end : goal.slice_bounds-compare-end
slice_bounds-compare-end c = put_count c.match_records-n.ensures

pub compare-requires : goal.compare-requires
compare-requires c = (
  c.requires.0,
  front_below _ _ _ _ c.requires.0 c.requires.1 c.match_records-n.ensures,
  front_few _ _ _ _ c.requires.0 c.requires.1 c.match_records-n.ensures,
  c.requires.2,
  c.requires.3,
)

pub returns : goal.returns
returns c =
    c.compare.ensures ∙ front_read _ _ _ _ c.requires.0 c.requires.1 c.match_records-n.ensures _ _
