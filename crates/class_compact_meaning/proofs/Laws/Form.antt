-- Laws of bytes of a table (`bytes_from`) and of lists one behind the other (`joined`): lengths, what stands where, and that a table is the lists of
-- its records one behind the other.
-- Assumes nothing.
use Prim.Native.Nat.{ℕ, zero, suc, ◌+◌, ◌*◌, ◌≤◌, ◌<◌}
use mathlib.Core.Path.{◌≡◌, refl, sym, ap, ◌∙◌}
use mathlib.Core.List.{List, ◌∷◌, ◌++◌}
use native.Mathlib.Nat.{zero-add, suc-add, add-zero, mul-le-mul_right}
use native.Mathlib.Numerals.{add-one}
use native.Mathlib.Omega.{arith}
use lib.ListN.{length, get_or, take, drop, length-append, length-drop, get_or-append}
use lib.Seq.{length-take-le, get_or-take, get_or-drop, get_or-append-add, ext_get_or}
use Rattle.base.specs.LittleEndian.{le32}
use Rattle.base.proofs.Laws.Tests.{split}
use Rattle.class_compact_meaning.specs.Form.{bytes_from, joined}

no_less : {A : Type 0} (k : ℕ) → k < 0 → A
no_less k h = absurd (no h)
  where
    no : k < 0 → ⊥
    no a = omega arith

pub bytes_length : (t : List ℕ) (at n : ℕ) → length (bytes_from t at n) ≡ n
unfolding bytes_from
bytes_length t at zero = refl
bytes_length t at (suc n) = ap suc (bytes_length t (at + 1) n)

pub bytes_at : (t : List ℕ) (at n k : ℕ) → k < n → get_or (bytes_from t at n) k 0 ≡ get_or t (at + k) 0
unfolding bytes_from
bytes_at t at zero k h = no_less k h
bytes_at t at (suc n) zero h = rw add-zero
bytes_at t at (suc n) (suc k) h =
    let e : at + 1 + k ≡ at + suc k = omega arith in
    rw e at (bytes_at t (at + 1) n k (omega arith))

-- bytes that stand there
pub bytes_are : (t s : List ℕ) (at n : ℕ) → length s ≡ n → ((k : ℕ) → k < n → get_or s k 0 ≡ get_or t (at + k) 0) → bytes_from t at n ≡ s
bytes_are t s at n l h =
    ext_get_or 0 (bytes_from t at n) s (bytes_length t at n ∙ sym l)
    (λ k m. let m' : k < n = rw (bytes_length t at n) at m in bytes_at t at n k m' ∙ sym (h k m'))

pub bytes_slice : (t : List ℕ) (at n : ℕ) → at + n ≤ length t → take n (drop at t) ≡ bytes_from t at n
bytes_slice t at n h =
    sym (bytes_are t (take n (drop at t)) at n (length-take-le n (drop at t) (omega (arith, length-drop at t)))
    (λ k m. get_or-take n (drop at t) k 0 m ∙ get_or-drop at t k 0))

pub bytes_split : (t : List ℕ) (at m n : ℕ) → bytes_from t at (m + n) ≡ bytes_from t at m ++ bytes_from t (at + m) n
unfolding bytes_from
bytes_split t at zero n = rw (zero-add n, add-zero at)
bytes_split t at (suc m) n =
    let e : at + 1 + m ≡ at + suc m = omega arith in
    rw (suc-add m n) (ap (λ (x : List ℕ). get_or t at 0 ∷ x) (rw e at (bytes_split t (at + 1) m n)))

pub bytes_all : (t : List ℕ) → bytes_from t 0 (length t) ≡ t
bytes_all t = bytes_are t t 0 (length t) refl (λ k h. rw (zero-add k))

-- the same bytes in two tables
pub bytes_same : (t u : List ℕ) (a b n : ℕ) → ((k : ℕ) → k < n → get_or t (a + k) 0 ≡ get_or u (b + k) 0) → bytes_from t a n ≡ bytes_from u b n
bytes_same t u a b n h =
    bytes_are t (bytes_from u b n) a n (bytes_length u b n) (λ k m. bytes_at u b n k m ∙ sym (h k m))

-- words of them
pub le32_same : (t u : List ℕ) (a b n k : ℕ) → k + 4 ≤ n → ((j : ℕ) → j < n → get_or t (a + j) 0 ≡ get_or u (b + j) 0) → le32 t (a + k) ≡ le32 u (b + k)
le32_same t u a b n k l h =
    rw (moved a 1, moved a 2, moved a 3, moved b 1, moved b 2, moved b 3, h k (omega arith), h (k + 1) (omega arith), h (k + 2) (omega arith), h (k + 3) (omega arith))
  where
    moved : (x j : ℕ) → x + k + j ≡ x + (k + j)
    moved x j = omega arith

-- ---- lists one behind the other
pub joined_more : (f : ℕ → List ℕ) (n : ℕ) → joined f (n + 1) ≡ joined f n ++ f n
unfolding joined
joined_more f n = rw (add-one n)

pub joined_same : (f g : ℕ → List ℕ) (n : ℕ) → ((i : ℕ) → i < n → f i ≡ g i) → joined f n ≡ joined g n
unfolding joined
joined_same f g zero h = refl
joined_same f g (suc n) h = rw (joined_same f g n (λ i l. h i (omega arith)), h n (omega arith))

module _ (f : ℕ → List ℕ) (w : ℕ) where
  pub joined_length : (n : ℕ) → ((i : ℕ) → i < n → length (f i) ≡ w) → length (joined f n) ≡ n * w
  unfolding joined
  joined_length zero h = omega arith
  joined_length (suc n) h = omega (arith, length-append (joined f n) (f n), joined_length n (λ i l. h i (omega arith)), h n (omega arith))

  pub joined_at : (n : ℕ) → ((i : ℕ) → i < n → length (f i) ≡ w) → (i j : ℕ) → i < n → j < w → get_or (joined f n) (i * w + j) 0 ≡ get_or (f i) j 0
  unfolding joined
  joined_at zero h i j l m = no_less i l
  joined_at (suc n) h i j l m =
      let long : length (joined f n) ≡ n * w = joined_length n (λ i k. h i (omega arith)) in
      split i n
      (λ a. get_or-append (joined f n) (f n) 0 (i * w + j) (omega (arith, long, mul-le-mul_right w (more i a)))
      ∙ joined_at n (λ i k. h i (omega arith)) i j a m)
      (λ a. let e : i ≡ n = omega arith in
      let z : i * w + j ≡ length (joined f n) + j = omega (arith, long, ap (λ (z : ℕ). z * w) e) in
      rw (z, e) (get_or-append-add (joined f n) (f n) j 0))
    where
      more : (i : ℕ) → i < n → i + 1 ≤ n
      more i a = omega arith

-- a table is its records' bytes
pub joined_bytes : (t : List ℕ) (w n : ℕ) → joined (λ i. bytes_from t (i * w) w) n ≡ bytes_from t 0 (n * w)
unfolding joined bytes_from
joined_bytes t w zero = let e : 0 * w ≡ 0 = omega arith in rw e
joined_bytes t w (suc n) =
    let e : suc n * w ≡ n * w + w = omega arith in
    rw (e, bytes_split t 0 (n * w) w, zero-add (n * w), joined_bytes t w n)

pub joined_table : (t : List ℕ) (w n : ℕ) → length t ≡ n * w → joined (λ i. bytes_from t (i * w) w) n ≡ t
joined_table t w n l = joined_bytes t w n ∙ rw (← l) (bytes_all t)
