-- What is known of a match, and so of what stays: its record is of the table t and the first with its number, and its score is a similarity.
-- Assumes nothing.
use Rattle.std.specs.Prelude.{ℕ, ◌<◌, ◌≡◌, List, Float}
use Rattle.cd_jaro_meaning.specs.Inner.Similarity.{Good}
use Rattle.cd_languages.specs.Languages.{languages, number_of, first_record}

abbrev pub Known : List ℕ → ℕ → Float → Type 0
Known t r x = (r < languages t) × Good x × (first_record t (number_of t r) ≡ r)
