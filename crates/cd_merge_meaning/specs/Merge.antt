-- One ranking for a shift (02 [14]): "gives each language the f32 sum of its scores, in the given order starting from +0.0, divided by how many there
-- were. Falling score; ties by the first appearance of the language". A language that stands twice in one ranking has two scores there. It is told by
-- the entry in which it first appears. Not here: which lists are refused. Laws: proofs/Laws/Means, Merge, One.
-- Assumes nothing.
use Rattle.std.specs.Prelude.{ℕ, zero, suc, ◌+◌, Bool, cond, List, [], ◌∷◌, eqb, pos, Float}
use Rattle.std.specs.Float.{binary32}
use Rattle.std.specs.Float.Ieee.{div, of_int}
use Rattle.base.specs.First.{first}
use Rattle.ratio.specs.Rounded.{ZERO, ◌⊕◌, bits_of}
use Rattle.cd_order.specs.Chosen.{passing}
use Rattle.cd_order.specs.Sorting.{in_order}
use Rattle.cd_ranking.specs.Ranking.{stands_before}
use Rattle.cd_merge_meaning.specs.Entries.{entries, language_at, score_at}

-- "the f32 sum of its scores, in the given order starting from +0.0": of those in the first n entries, each addition rounded once
unfoldable pub sum_of : List ℕ → ℕ → ℕ → Float
sum_of list language zero = ZERO
sum_of list language (suc n) =
    cond (eqb (language_at list n) language) (sum_of list language n ⊕ score_at list n) (sum_of list language n)

-- "how many there were"
unfoldable pub count_of : List ℕ → ℕ → ℕ → ℕ
count_of list language zero = 0
count_of list language (suc n) = cond (eqb (language_at list n) language) (count_of list language n + 1) (count_of list language n)

-- "divided by how many there were": rounded once; an f32 holds the count
unfoldable pub mean : List ℕ → ℕ → Float
mean list language =
    div binary32 (sum_of list language (entries list)) (of_int binary32 (pos (count_of list language (entries list))))

-- whether the entry i is the first of its language
unfoldable pub is_first : List ℕ → ℕ → Bool
is_first list i = eqb (first (λ k. eqb (language_at list k) (language_at list i)) i) i

-- the languages of the list, each by its first entry, in the order in which they appear
unfoldable pub firsts : List ℕ → List ℕ
firsts list = passing (is_first list) (entries list)

abbrev pub mean_at : List ℕ → ℕ → Float
mean_at list i = mean list (language_at list i)

-- "Falling score; ties by the first appearance of the language"
unfoldable pub merged : List ℕ → List ℕ
merged list = in_order (stands_before (mean_at list)) (firsts list)

-- the entries of languages that are told by their first entries: each with its mean
unfoldable pub words_of : List ℕ → List ℕ → List ℕ
words_of list [] = []
words_of list (i ∷ l) = language_at list i ∷ bits_of (mean_at list i) ∷ words_of list l

abbrev pub merged_words : List ℕ → List ℕ
merged_words list = words_of list (merged list)
