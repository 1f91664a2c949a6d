-- A mask of flag bits, bit by bit: what `MASK & flags` is, so that a test of several flags at once is the same test of each (`masked`); and a
-- test of a few bools, proved by trying them all (`all_at`).
-- Assumes nothing.
use Prim.Native.Nat.{ℕ, zero, suc, ◌+◌, ◌*◌, ◌/◌, ◌%◌, ◌^◌, ◌<◌}
use mathlib.Core.Path.{◌≡◌, refl, sym, ap, ap₂, ◌∙◌}
use mathlib.Core.List.{List, [], ◌∷◌}
use mathlib.Core.Bool.{Bool, true, false, ◌&&◌}
use native.Mathlib.Nat.{mod-lt, mod-eq_of_lt, lt_of_le_of_lt, one-mul}
use native.Mathlib.Omega.{arith}
use lib.Bits.{bit_and, and_comm, and_mask, and_block, and_mod, and_le_l}
use lib.Dec.{eqb, ltb}
use lib.ListN.{length}
use lib.Pow.{pow_pos, split}
use borrow.Author.Tests.{eqb-true, eqb-false, ltb-true}
use Rattle.base.specs.Flags.{has}
use Rattle.base.specs.Numbers.{bump}
use Rattle.base.proofs.Laws.Tests.{by_bool, and_l, and_r}
use Rattle.base.specs.Tests.{same}

-- a digit is 1 or 0
digit : (n : ℕ) → bit_and 1 n ≡ bump (eqb (n % 2) 1)
digit n =
    by_bool (eqb (n % 2) 1)
    (λ e. rw e (last ∙ eqb-true (n % 2) 1 e))
    (λ e. rw e (last ∙ rest n (eqb-false _ _ e)))
  where
    last : bit_and 1 n ≡ n % 2
    last = and_comm 1 n ∙ and_mask n 1

    rest : (n : ℕ) → (n % 2 ≡ 1 → ⊥) → n % 2 ≡ 0
    rest n h = omega arith

-- the mask's highest bit, and the rest of it
top_bit : (k m f : ℕ) → m < 2 ^ k → bit_and (2 ^ k + m) f ≡ bump (has f (2 ^ k)) * 2 ^ k + bit_and m f
unfolding has
top_bit k m f h =
    ap₂ bit_and (ap (λ (x : ℕ). x + m) (sym (one-mul (2 ^ k)))) (sym (split f k))
    ∙ and_block k 1 (f / 2 ^ k) m (f % 2 ^ k) h (mod-lt f (pow_pos k))
    ∙ ap₂ (λ (x y : ℕ). x * 2 ^ k + y) (digit (f / 2 ^ k)) rest
  where
    rest : bit_and m (f % 2 ^ k) ≡ bit_and m f
    rest =
        ap (λ (x : ℕ). bit_and x (f % 2 ^ k)) (sym (mod-eq_of_lt h))
        ∙ sym (and_mod m f k)
        ∙ mod-eq_of_lt (lt_of_le_of_lt (and_le_l m f) h)

-- the mask of the bits at the places ks, the highest first
abbrev pub mask : List ℕ → ℕ
mask [] = 0
mask (k ∷ ks) = 2 ^ k + mask ks

abbrev pub falling : List ℕ → Bool
falling [] = true
falling (k ∷ ks) = ltb (mask ks) (2 ^ k) && falling ks

-- the flags at the places ks of a word, and the number that flags make there
abbrev pub flags_at : List ℕ → ℕ → List Bool
flags_at [] f = []
flags_at (k ∷ ks) f = has f (2 ^ k) ∷ flags_at ks f

abbrev pub total : List ℕ → List Bool → ℕ
total [] bs = 0
total (k ∷ ks) [] = 0
total (k ∷ ks) (b ∷ bs) = bump b * 2 ^ k + total ks bs

pub masked : (ks : List ℕ) (f : ℕ) → falling ks ≡ true → bit_and (mask ks) f ≡ total ks (flags_at ks f)
masked [] f h = refl
masked (k ∷ ks) f h =
    top_bit k (mask ks) f (ltb-true _ _ (and_l _ (falling ks) h))
    ∙ ap (λ (x : ℕ). bump (has f (2 ^ k)) * 2 ^ k + x) (masked ks f (and_r (ltb (mask ks) (2 ^ k)) _ h))

-- whether a test passes at all lists of n bools; if so, it passes at each
abbrev pub all : ℕ → (List Bool → Bool) → Bool
all zero f = f []
all (suc n) f = all n (λ bs. f (true ∷ bs)) && all n (λ bs. f (false ∷ bs))

pub at_each : (n : ℕ) (f : List Bool → Bool) → all n f ≡ true → (bs : List Bool) → length bs ≡ n → f bs ≡ true
at_each zero f h [] e = h
at_each zero f h (b ∷ bs) e = absurd (no e)
  where
    no : {n : ℕ} → suc n ≡ 0 → ⊥
    no e = omega arith
at_each (suc n) f h [] e = absurd (no e)
  where
    no : {n : ℕ} → 0 ≡ suc n → ⊥
    no e = omega arith
at_each (suc n) f h (true ∷ bs) e =
    at_each n (λ bs. f (true ∷ bs)) (and_l _ (all n (λ bs. f (false ∷ bs))) h) bs (omega arith)
at_each (suc n) f h (false ∷ bs) e =
    at_each n (λ bs. f (false ∷ bs)) (and_r (all n (λ bs. f (true ∷ bs))) _ h) bs (omega arith)

pub same_is : (a b : Bool) → same a b ≡ true → a ≡ b
same_is true true h = refl
same_is true false h = sym h
same_is false true h = h
same_is false false h = refl
