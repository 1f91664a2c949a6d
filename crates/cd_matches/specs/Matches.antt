-- The matches of one layer (01, Layers and rankings): "Included numbers replace the alphabet search; the single number 0 means pure Latin languages
-- only; an empty list searches all. Alphabet search: distinct shared letters over distinct alphabet letters, at least 1/5; a layer with an
-- ACCENTUATED lowered letter skips languages without accents; falling ratio, ties in table order. Each record found is a match of its own, but the
-- letters compared are always those of the first record with its number .. so too for an included number." A match is told by that first record.
-- `t` is the language table, `order` the layer's distinct letters by popularity, `accented` whether a lowered letter of the layer is ACCENTUATED.
-- Not here: the layers and their letters, the share and the score themselves, and what becomes of the matches kept.
-- Assumes nothing.
use Rattle.std.specs.Prelude.{ℕ, Bool, cond, ◌&&◌, ◌||◌, List, map, length, eqb, Float}
use Rattle.base.specs.Tests.{implies}
use Rattle.ratio.specs.declared.Fraction.{Fraction}
use Rattle.cd_jaro_meaning.specs.Similarity.{similarity}
use Rattle.cd_languages.specs.Languages.{languages, number_of, has_accents, pure_latin, first_record}
use Rattle.cd_languages.specs.Letters.{letters_of}
use Rattle.cd_languages.specs.Included.{lone_zero}
use Rattle.cd_alphabet.specs.Alphabet.{alphabet_share, is_candidate}
use Rattle.cd_alphabet.specs.Candidates.{share_before}
use Rattle.cd_order.specs.Chosen.{passing}
use Rattle.cd_order.specs.Sorting.{in_order}

-- how much of the alphabet of the record i, its own letters, the layer has
abbrev pub share_at : List ℕ → List ℕ → ℕ → Fraction
share_at t order i = alphabet_share order (letters_of t i)

-- "pure Latin languages only"; "skips languages without accents": what the record i's own marks allow
unfoldable pub eligible : List ℕ → Bool → Bool → ℕ → Bool
eligible t pure_only accented i = implies pure_only (pure_latin t i) && implies accented (has_accents t i)

-- the search finds the record i
unfoldable pub searched : List ℕ → Bool → Bool → List ℕ → ℕ → Bool
searched t pure_only accented order i = eligible t pure_only accented i && is_candidate (share_at t order i)

-- the records found, in table order
unfoldable pub found : List ℕ → Bool → Bool → List ℕ → List ℕ
found t pure_only accented order = passing (searched t pure_only accented order) (languages t)

-- "falling ratio, ties in table order": the record i comes before the record j
abbrev pub comes_before : List ℕ → List ℕ → ℕ → ℕ → Bool
comes_before t order i j = share_before (share_at t order i) i (share_at t order j) j

unfoldable pub alphabet_languages : List ℕ → Bool → Bool → List ℕ → List ℕ
alphabet_languages t pure_only accented order = in_order (comes_before t order) (found t pure_only accented order)

-- "the first record with its number": of the record i
abbrev pub first_like : List ℕ → ℕ → ℕ
first_like t i = first_record t (number_of t i)

-- "Each record found is a match of its own"
unfoldable pub found_records : List ℕ → Bool → Bool → List ℕ → List ℕ
found_records t pure_only accented order = map (first_like t) (alphabet_languages t pure_only accented order)

-- the lone 0 and the empty list search; other included numbers stand as they are given
unfoldable pub match_records : List ℕ → List ℕ → Bool → List ℕ → List ℕ
match_records t included accented order =
    cond (lone_zero included || eqb (length included) 0) (found_records t (lone_zero included) accented order)
    (map (first_record t) included)

-- "Jaro, from the layer's ordered letters to the record's": of the record r
abbrev pub score_at : List ℕ → List ℕ → ℕ → Float
score_at t order r = similarity order (letters_of t r)

-- "the letters compared are always those of the first record": the records are first ones
unfoldable pub scores_of : List ℕ → List ℕ → List ℕ → List Float
scores_of t order records = map (score_at t order) records
