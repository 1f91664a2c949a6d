-- Words of inner contracts, beside Numbers: `oldest`, `layer_for`, `keys_with`, `numbers_from`, `keys_from`, `numbers` and others. No public promise
-- rests on them.
-- Assumes nothing.
use Rattle.std.specs.Prelude.{ℕ, ◌+◌, ◌≤◌, Bool, cond, List, [], ◌∷◌, ◌++◌, length, get_or, eqb, ltb}
use Rattle.base.specs.First.{first}
use Rattle.base.specs.Limits.{LAST_RANGE}
use Rattle.cd_layers.specs.Layers.{accepts, is_own}

-- the place of the oldest key that passes a test; past the last where there is none
unfoldable pub oldest : (ℕ → Bool) → List ℕ → ℕ
oldest test keys = first (λ j. test (get_or keys j 0)) (length keys)

-- the place, from 0, of the layer that a character of range b joins; past the last where one is made
unfoldable pub layer_for : List ℕ → List ℕ → ℕ → ℕ
layer_for pairs keys b =
    cond (ltb (oldest (accepts pairs b) keys) (length keys)) (oldest (accepts pairs b) keys) (oldest (is_own b) keys)

-- the keys after it
unfoldable pub keys_with : List ℕ → List ℕ → ℕ → List ℕ
keys_with pairs keys b = cond (ltb (layer_for pairs keys b) (length keys)) keys (keys ++ (b ∷ []))

-- the numbers of some more characters, and the keys after them
unfoldable pub numbers_from : List ℕ → List ℕ → List ℕ → List ℕ
numbers_from pairs keys [] = []
numbers_from pairs keys (b ∷ bs) =
    cond (eqb b 0) (0 ∷ numbers_from pairs keys bs) ((layer_for pairs keys b + 1) ∷ numbers_from pairs (keys_with pairs keys b) bs)

unfoldable pub keys_from : List ℕ → List ℕ → List ℕ → List ℕ
keys_from pairs keys [] = keys
keys_from pairs keys (b ∷ bs) = cond (eqb b 0) (keys_from pairs keys bs) (keys_from pairs (keys_with pairs keys b) bs)

abbrev pub numbers : List ℕ → List ℕ → List ℕ
numbers pairs bs = numbers_from pairs [] bs

abbrev pub keys_of : List ℕ → List ℕ → List ℕ
keys_of pairs bs = keys_from pairs [] bs

-- the same where each character lowers to one letter, alone
unfoldable pub letters_of : ℕ → List ℕ → List ℕ → List ℕ
letters_of k [] xs = []
letters_of k (m ∷ ms) [] = []
letters_of k (m ∷ ms) (x ∷ xs) = cond (eqb m k) (x ∷ letters_of k ms xs) (letters_of k ms xs)

-- each is a range
abbrev pub Below : List ℕ → Type 0
Below l = (j : ℕ) → get_or l j 0 ≤ LAST_RANGE
