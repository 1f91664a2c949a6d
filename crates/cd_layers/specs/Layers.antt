-- "A layer's key is the range that made it. A character joins the oldest layer whose key a and its own range b (before lowering) aren't
-- suspicious; if none, the layer with its own range as key, made if missing. Layers are read in making order" (01, Layers and rankings;
-- cd.rs: alpha_unicode_split). Layers stand oldest first.
-- Not here: which characters are taken and what they lower to, which their classes say; which layers are skipped.
-- Assumes nothing.
use Rattle.std.specs.Prelude.{ℕ, Bool, false, cond, not, ◌||◌, List, [], ◌∷◌, ◌++◌, eqb}
use Rattle.classes.specs.Pairs.{suspicious}

-- a character that is taken: its own range, before lowering, and the letters that it lowers to
pub record Taken : Type 0 where
  pub range : ℕ
  pub letters : List ℕ

-- a layer: the range that made it, and its letters so far, in text order
pub record Layer : Type 0 where
  pub key : ℕ
  pub letters : List ℕ

-- whether some layer's key passes a test
unfoldable pub some : (ℕ → Bool) → List Layer → Bool
some test [] = false
some test (y ∷ ys) = test y.key || some test ys

-- the oldest layer whose key passes the test takes the letters
unfoldable pub into_oldest : (ℕ → Bool) → List ℕ → List Layer → List Layer
into_oldest test xs [] = []
into_oldest test xs (y ∷ ys) =
    cond (test y.key) (record { key = y.key; letters = y.letters ++ xs } ∷ ys) (y ∷ into_oldest test xs ys)

-- the key a and the range b are not suspicious
unfoldable pub accepts : List ℕ → ℕ → ℕ → Bool
accepts pairs b a = not (suspicious pairs a b)

-- the key a is the range b
unfoldable pub is_own : ℕ → ℕ → Bool
is_own b a = eqb a b

-- the layers after one more character
unfoldable pub joined : List ℕ → List Layer → Taken → List Layer
joined pairs ys c =
    cond (some (accepts pairs c.range) ys)
    (into_oldest (accepts pairs c.range) c.letters ys)
    (cond (some (is_own c.range) ys)
    (into_oldest (is_own c.range) c.letters ys)
    (ys ++ (record { key = c.range; letters = c.letters } ∷ [])))

-- the layers after some more characters, in text order
unfoldable pub split_from : List ℕ → List Layer → List Taken → List Layer
split_from pairs ys [] = ys
split_from pairs ys (c ∷ cs) = split_from pairs (joined pairs ys c) cs

unfoldable pub alpha_unicode_split : List ℕ → List Taken → List Layer
alpha_unicode_split pairs cs = split_from pairs [] cs
