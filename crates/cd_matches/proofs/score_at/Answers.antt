-- The letters read are what stands in the first places.
-- Assumes nothing.
use mathlib.Core.Path.{ap, ◌∙◌}
use Rattle.cd_matches.proofs.Laws.Records.{read_front, read_count, read_most, read_room}
use Rattle.cd_jaro_meaning.specs.Similarity as jaro
use Rattle.cd_matches.proofs.score_at.Goals as goal

pub slice_bounds-similarity-end : goal.slice_bounds-similarity-end
slice_bounds-similarity-end c =
    read_room _ c.requires.0 _ c.requires.1 _ _ _ c.read_letters-n.ensures

pub slice_bounds-similarity-end-2 : goal.slice_bounds-similarity-end-2
slice_bounds-similarity-end-2 c =
    read_count _ c.requires.0 _ c.requires.1 _ _ _ c.read_letters-n.ensures

pub similarity-requires : goal.similarity-requires
similarity-requires c =
    (c.requires.2, read_most _ c.requires.0 _ c.requires.1 _ _ _ c.read_letters-n.ensures)

pub returns : goal.returns
returns c =
    c.similarity.ensures ∙ ap (jaro.similarity c.args.order.now) (read_front _ c.requires.0 _ c.requires.1 _ _ _ c.read_letters-n.ensures)
