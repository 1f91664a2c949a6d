-- Laws of lists, of `first` and of `among` that the page's laws rest on: what a place holds past which default (`get_d_any`), a list's images at a
-- place (`get_d_map`) and back (`map_back`), two tests that agree (`first_same`), a number that stands before a place (`among_before`) or nowhere (`among_absent`). Assumes nothing.
use Prim.Native.Nat.{ℕ, zero, suc, ◌+◌, ◌≤◌, ◌<◌}
use mathlib.Core.Path.{◌≡◌, refl, sym, ap, ◌∙◌}
use mathlib.Core.Bool.{Bool, true, false, cond, ◌||◌}
use mathlib.Core.List.{List, [], ◌∷◌, map}
use native.Mathlib.Nat.{le_of_suc-le-suc, not-suc-le-zero}
use native.Mathlib.Omega.{arith}
use lib.ListN.{length, get_or, take, drop}
use lib.Dec.{eqb}
use borrow.Author.Tests.{eq-eqb, ne_eqb}
use Rattle.base.specs.Among.{among}
use Rattle.base.specs.First.{seek, first}

pub get_d_any : {A : Type 0} (l : List A) (i : ℕ) (y z : A) → i < length l → get_or l i y ≡ get_or l i z
get_d_any [] i y z h = absurd (not-suc-le-zero h)
get_d_any (x ∷ l) zero y z h = refl
get_d_any (x ∷ l) (suc i) y z h = get_d_any l i y z (le_of_suc-le-suc h)

pub get_d_past : {A : Type 0} (l : List A) (i : ℕ) (z : A) → length l ≤ i → get_or l i z ≡ z
get_d_past [] i z h = refl
get_d_past (x ∷ l) zero z h = absurd (not-suc-le-zero h)
get_d_past (x ∷ l) (suc i) z h = get_d_past l i z (le_of_suc-le-suc h)

pub length_map : {A B : Type 0} (f : A → B) (l : List A) → length (map f l) ≡ length l
length_map f [] = refl
length_map f (x ∷ l) = ap suc (length_map f l)

pub get_d_map : {A B : Type 0} (f : A → B) (l : List A) (i : ℕ) (y : A) (z : B) → i < length l → get_or (map f l) i z ≡ f (get_or l i y)
get_d_map f [] i y z h = absurd (not-suc-le-zero h)
get_d_map f (x ∷ l) zero y z h = refl
get_d_map f (x ∷ l) (suc i) y z h = get_d_map f l i y z (le_of_suc-le-suc h)

-- two functions that agree on a list's elements
pub map_same : {A B : Type 0} (f g : A → B) (y : A) (l : List A) → ((i : ℕ) → i < length l → f (get_or l i y) ≡ g (get_or l i y)) → map f l ≡ map g l
map_same f g y [] e = refl
map_same f g y (x ∷ l) e =
    rw (e 0 (omega arith), map_same f g y l (λ i h. e (suc i) (omega arith)))

-- a function and one that leads back, over a list
pub map_back : (f g : ℕ → ℕ) (l : List ℕ) → ((i : ℕ) → i < length l → g (f (get_or l i 0)) ≡ get_or l i 0) → map g (map f l) ≡ l
map_back f g [] e = refl
map_back f g (x ∷ l) e = rw (e 0 (omega arith), map_back f g l (λ i h. e (suc i) (omega arith)))

seek_same : (f g : ℕ → Bool) (k i : ℕ) → ((j : ℕ) → i ≤ j → j < i + k → f j ≡ g j) → seek f k i ≡ seek g k i
unfolding seek
seek_same f g zero i e = refl
seek_same f g (suc k) i e =
    rw (e i (omega arith) (omega arith), seek_same f g k (i + 1) (λ j a b. e j (omega arith) (omega arith)))

-- two tests that agree below n
pub first_same : (f g : ℕ → Bool) (n : ℕ) → ((j : ℕ) → j < n → f j ≡ g j) → first f n ≡ first g n
unfolding first
first_same f g n e = seek_same f g n 0 (λ j a b. e j (omega arith))

or_true : (a : Bool) → (a || true) ≡ true
or_true true = refl
or_true false = refl

-- what stands at k stands before every i past it
pub among_before : (l : List ℕ) (i k z : ℕ) → k < i → k < length l → among (get_or l k z) (take i l) ≡ true
unfolding among
among_before [] i k z a h = absurd (not-suc-le-zero h)
among_before (x ∷ l) zero k z a h = absurd (not-suc-le-zero a)
among_before (x ∷ l) (suc i) zero z a h = rw (eq-eqb x x refl)
among_before (x ∷ l) (suc i) (suc k) z a h =
    rw (among_before l i k z (le_of_suc-le-suc a) (le_of_suc-le-suc h)) (or_true (eqb x (get_or l k z)))

-- what stands nowhere is not among them
pub among_absent : (x : ℕ) (l : List ℕ) → ((k : ℕ) → k < length l → get_or l k 0 ≡ x → ⊥) → among x l ≡ false
unfolding among
among_absent x [] n = refl
among_absent x (y ∷ l) n =
    rw (ne_eqb y x (n 0 (omega arith)), among_absent x l (λ k h. n (suc k) (omega arith)))
