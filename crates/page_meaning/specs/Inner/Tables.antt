-- Words of inner contracts: the two tables that a call lays out, and what is looked up in them. No public promise rests on them.
-- Assumes nothing.
use Rattle.std.specs.Prelude.{ℕ, ◌<◌, ◌≡◌, Bool, cond, not, ◌&&◌, ◌||◌, List, map, length, get_or, eqb, leb}
use Rattle.base.specs.First.{first}
use Rattle.page_meaning.specs.Page.{UNUSED, BYTES, point_of, byte_of, lacks}

-- the code point of each byte
abbrev pub Points : List ℕ → List ℕ → Type 0
Points page points = (b : ℕ) → b < BYTES → get_or points b 0 ≡ point_of page b

-- the byte of each code point that the page has, and 0 for the others
abbrev pub Inverse : List ℕ → List ℕ → Type 0
Inverse page inverse = (p : ℕ) → p < UNUSED → get_or inverse p 0 ≡ cond (lacks page p) 0 (byte_of page p)

abbrev pub looked : List ℕ → List ℕ → List ℕ
looked table l = map (λ x. get_or table x 0) l

unfoldable pub first_unused : List ℕ → List ℕ → ℕ
first_unused points bytes = first (λ i. eqb (get_or points (get_or bytes i 0) 0) UNUSED) (length bytes)

-- FFFF and past it no page has a code point; the byte 0 is that of U+0000 alone
unfoldable pub lacking : List ℕ → ℕ → Bool
lacking inverse p = leb UNUSED p || (eqb (get_or inverse p 0) 0 && not (eqb p 0))

unfoldable pub first_lacking : List ℕ → List ℕ → ℕ
first_lacking inverse text = first (λ i. lacking inverse (get_or text i 0)) (length text)
