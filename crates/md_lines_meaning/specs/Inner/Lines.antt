-- Words of inner contracts, beside Lines: `line_of`, `rest_of`, `Passing`, `LineEnd`, `no_end_on`, `ends_of`. No public promise rests on them.
-- Assumes nothing.
use Rattle.std.specs.Prelude.{ℕ, zero, suc, ◌+◌, ◌-◌, ◌≤◌, ◌≡◌, Bool, not, cond, ◌&&◌, List, [], ◌∷◌, ◌++◌, eqb, length, take, drop, get_or}
use Rattle.base.specs.Limits.{NEWLINE}
use Rattle.base.specs.Numbers.{bump}

-- the bytes before the first 0A, and those behind it
unfoldable pub line_of : List ℕ → List ℕ
line_of [] = []
line_of (b ∷ bs) = cond (eqb b NEWLINE) [] (b ∷ line_of bs)

unfoldable pub rest_of : List ℕ → List ℕ
rest_of [] = []
rest_of (b ∷ bs) = cond (eqb b NEWLINE) bs (rest_of bs)

-- the bytes from `from` up to j hold no 0A
pub record Passing (bytes : List ℕ) (from j : ℕ) : Type 0 where
  pub begins : from ≤ j
  pub inside : j ≤ length bytes
  pub line : line_of (drop from bytes) ≡ take (j - from) (drop from bytes) ++ line_of (drop j bytes)
  pub rest : rest_of (drop from bytes) ≡ rest_of (drop j bytes)

-- the line that begins at `from` ends at `end`
pub record LineEnd (bytes : List ℕ) (from end : ℕ) : Type 0 where
  pub begins : from ≤ end
  pub inside : end ≤ length bytes
  pub line : line_of (drop from bytes) ≡ take (end - from) (drop from bytes)
  pub rest : rest_of (drop from bytes) ≡ drop (end + 1) bytes

abbrev pub no_end : List ℕ → ℕ → Bool
no_end bytes i = not (eqb (get_or bytes i 0) NEWLINE)

-- the byte at i and the k after it are no 0A
unfoldable pub no_end_on : List ℕ → ℕ → ℕ → Bool
no_end_on bytes i zero = no_end bytes i
no_end_on bytes i (suc k) = no_end_on bytes i k && no_end bytes (i + suc k)

-- how many bytes are counted at a time
abbrev pub BLOCK : ℕ
BLOCK = 128

-- how many bytes are 0A
unfoldable pub ends_of : List ℕ → ℕ
ends_of [] = 0
ends_of (b ∷ bs) = bump (eqb b NEWLINE) + ends_of bs
