-- How alike a layer's letters and a language's are (01: the Jaro measure "in f64, left to right, then nearest f32, ties to even"). In
-- cd.rs it is `jaro(..) as f32`, the answer of characters_popularity_compare.
-- Assumes nothing.
use Rattle.std.specs.Prelude.{ℕ, List, Float}
use Rattle.f32_nearest.specs.Nearest.{nearest_f32}
use Rattle.cd_jaro_meaning.specs.Jaro.{jaro}

unfoldable pub similarity : List ℕ → List ℕ → Float
similarity layer language = nearest_f32 (jaro layer language)
