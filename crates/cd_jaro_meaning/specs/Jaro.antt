-- The Jaro measure of two lists of letters (01, Layers and rankings: "Jaro, from the layer's ordered letters to the record's: window half
-- the longer length less 1, at least 0; each letter takes the first free equal one in it; m matches, t half the out-of-order ones rounded
-- down; m = 0 gives 0, else (m/a + m/b + (m-t)/m)/3 in f64, left to right"). It is the measure that goes by the name of M. A. Jaro (Journal of
-- the American Statistical Association 84, 1989) as it is generally published, with its three weights equal. `layer` is the layer's ordered
-- letters, `language` those of the language record. It says nothing of the f32: that is Similarity.
-- Assumes nothing.
use Rattle.std.specs.Prelude.{ℕ, zero, suc, ◌+◌, ◌-◌, ◌/◌, Bool, true, false, cond, not, ◌&&◌, List, [], ◌∷◌, ◌++◌, length, get_or, set, replicate, eqb, ltb, pos, Float}
use Rattle.std.specs.Float.{fin, binary64}
use Rattle.std.specs.Float.Ieee.{of_int, add, div}
use Rattle.base.specs.Numbers.{bump}
use Rattle.base.specs.Tests.{within}
use Rattle.base.specs.First.{first}

-- "window half the longer length less 1, at least 0"
unfoldable pub window : ℕ → ℕ → ℕ
window a b = cond (ltb a b) b a / 2 - 1

-- what is matched so far: of each letter of the language whether it is taken, and the layer's letters that took one, in order
pub record Matching : Type 0 where
  pub taken : List Bool
  pub letters : List ℕ

-- the layer's letter x, at i, may take the language's letter at j: it is in the window w, free, and equal
unfoldable pub serves : List ℕ → List Bool → ℕ → ℕ → ℕ → ℕ → Bool
serves language taken x i w j = within (i - w) (i + w) j && (not (get_or taken j false) && eqb x (get_or language j 0))

-- the place of "the first free equal one in it"; the language's length where there is none
unfoldable pub place : List ℕ → List Bool → ℕ → ℕ → ℕ → ℕ
place language taken x i w = first (serves language taken x i w) (length language)

-- the letter x takes the letter at j, where there is one
unfoldable pub takes : List ℕ → Matching → ℕ → ℕ → Matching
takes language s x j = cond (ltb j (length language)) (record { taken = set s.taken j true; letters = s.letters ++ (x ∷ []) }) s

-- "each letter takes the first free equal one": what is matched after the layer's first i letters
unfoldable pub matching : List ℕ → List ℕ → ℕ → Matching
matching layer language zero = record { taken = replicate (length language) false; letters = [] }
matching layer language (suc i) =
    takes language (matching layer language i) (get_or layer i 0)
    (place language (matching layer language i).taken (get_or layer i 0) i (window (length layer) (length language)))

abbrev pub whole : List ℕ → List ℕ → Matching
whole layer language = matching layer language (length layer)

-- "m matches"
unfoldable pub matches : List ℕ → List ℕ → ℕ
matches layer language = length (whole layer language).letters

-- the letters that are taken, in the language's order
unfoldable pub picked : List ℕ → List Bool → List ℕ
picked [] t = []
picked (y ∷ ys) [] = []
picked (y ∷ ys) (true ∷ t) = y ∷ picked ys t
picked (y ∷ ys) (false ∷ t) = picked ys t

-- at how many places two lists of letters differ
unfoldable pub differing : List ℕ → List ℕ → ℕ
differing [] ys = 0
differing (x ∷ xs) [] = 0
differing (x ∷ xs) (y ∷ ys) = bump (not (eqb x y)) + differing xs ys

-- the out-of-order ones: the matched letters of the one list that differ from those of the other at the same rank
unfoldable pub out_of_order : List ℕ → List ℕ → ℕ
out_of_order layer language = differing (whole layer language).letters (picked language (whole layer language).taken)

-- "t half the out-of-order ones rounded down"
unfoldable pub transpositions : List ℕ → List ℕ → ℕ
transpositions layer language = out_of_order layer language / 2

-- p/q in f64
abbrev pub over : ℕ → ℕ → Float
over p q = div binary64 (of_int binary64 (pos p)) (of_int binary64 (pos q))

-- "m = 0 gives 0, else (m/a + m/b + (m-t)/m)/3 in f64, left to right"
unfoldable pub measure : ℕ → ℕ → ℕ → ℕ → Float
measure m t a b =
    cond (eqb m 0) (fin false 0 (pos 0))
    (div binary64 (add binary64 (add binary64 (over m a) (over m b)) (over (m - t) m)) (of_int binary64 (pos 3)))

unfoldable pub jaro : List ℕ → List ℕ → Float
jaro layer language = measure (matches layer language) (transpositions layer language) (length layer) (length language)
