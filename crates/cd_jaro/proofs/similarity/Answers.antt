-- The measure is one that `nearest_f32` takes (`jaro_narrowable`), and its answer the definition.
-- Assumes nothing.
use mathlib.Core.Path.{ap, ◌∙◌}
use Rattle.f32_nearest.specs.Nearest.{nearest_f32}
use Rattle.cd_jaro_meaning.specs.Similarity.{similarity}
use Rattle.cd_jaro_meaning.proofs.Laws.Similarity.{jaro_narrowable}
use Rattle.cd_jaro.proofs.similarity.Goals as goal

pub nearest_f32-requires : goal.nearest_f32-requires
nearest_f32-requires c = rw c.jaro.ensures (jaro_narrowable _ _ c.requires.0 c.requires.1)

pub returns : goal.returns
unfolding similarity
returns c = c.nearest_f32.ensures ∙ ap nearest_f32 c.jaro.ensures
