-- For readers, of the merged ranking of a good list: means never rise (`merged_falls`), and equal ones stand in the order in which their languages first
-- appear (`merged_ties`); no language stands twice (`merged_once`); each language of the list is there, told by its first entry (`merged_all`), and no
-- other (`merged_in`, in Keys). Each mean is from 0 to 1 (`mean_score`, in Means; `means_between` of an accepted call), and its
-- bits say which it is (`mean_read`).
-- Assumes nothing.
use Rattle.std.specs.Prelude.{Ok}
use Prim.Native.Nat.{ℕ, ◌≤◌, ◌<◌}
use mathlib.Core.Path.{◌≡◌, refl, sym, ap, ◌∙◌, subst}
use mathlib.Core.Logic.{inl, inr}
use mathlib.Core.Bool.{Bool, true, false, not, ◌&&◌, ◌||◌, true≢false}
use mathlib.Core.List.{List, [], ◌∷◌, map}
use native.Mathlib.Omega.{arith}
use lib.ListN.{length}
use lib.Dec.{T, eqb, ltb}
use lib.Ieee.{binary32, of_bits, lt}
use lib.Ieee.Bits.{of_bits-to_bits}
use borrow.Author.Tests.{lt-ltb, ltb-true, eq-eqb, eqb-true, eqb-false}
use Rattle.base.specs.First.{first}
use Rattle.base.specs.Inner.All.{All}
use Rattle.base.proofs.Laws.First.{first_before, first_found, first_none}
use Rattle.base.proofs.Laws.In.{In, in_map}
use Rattle.base.proofs.Laws.Tests.{split}
use Rattle.ratio.specs.Rounded.{bits_of}
use Rattle.cd_order.proofs.Laws.Chosen.{chosen_in, chosen_all}
use Rattle.cd_order.proofs.Laws.Sorted.{Up, up_above, rising_up}
use Rattle.cd_order.proofs.Laws.Sorting.{order_in_lem, order_all}
use Rattle.cd_best.proofs.Laws.BitsOrder.{lt_once}
use Rattle.cd_ranking.specs.Ranking.{stands_before}
use Rattle.cd_ranking.proofs.Laws.Ranking.{Pairs}
use Rattle.cd_merge_meaning.specs.Entries.{entries, language_at}
use Rattle.cd_merge_meaning.specs.Merge.{is_first, firsts, mean_at, merged}
use Rattle.cd_merge_meaning.specs.Answer.{is_score, merge_answer}
use Rattle.cd_merge_meaning.specs.Inner.Good.{Good}
use Rattle.cd_merge_meaning.specs.Inner.Keys.{key_at}
use Rattle.cd_merge_meaning.proofs.Laws.Means.{mean_plain, mean_single, mean_score}
use Rattle.cd_merge_meaning.proofs.Laws.Answer.{accepted_good}
use Rattle.cd_merge_meaning.proofs.Laws.Keys.{key_before, merged_in, keys_merge}

-- ---- pairs of numbers with rising keys
all_in : (P : ℕ → Type 0) (l : List ℕ) → ((x : ℕ) → In x l → P x) → All P l
all_in P [] h = tt
all_in P (x ∷ l) h = (h x (inl refl), all_in P l (λ y i. h y (inr i)))

pairs_in : (R : ℕ → ℕ → Type 0) (key : ℕ → ℕ) (last : ℕ) (l : List ℕ) → Up last (map key l)
    → ((x y : ℕ) → In x l → In y l → key x < key y → R x y) → Pairs R l
pairs_in R key last [] u h = tt
pairs_in R key last (x ∷ l) u h = (
  all_in (R x) l (λ y i. h x y (inl refl) (inr i) (up_above (key x) (key y) (map key l) u.1 (in_map key l y i))),
  pairs_in R key (key x) l u.1 (λ y z i k. h y z (inr i) (inr k)),
)

-- ---- first entries
module _ (list : List ℕ) where
  abbrev like : ℕ → ℕ → Bool
  like i k = eqb (language_at list k) (language_at list i)

  -- no entry before the first of its language has that language
  first_alone : (i k : ℕ) → is_first list i ≡ true → k < i → language_at list k ≡ language_at list i → ⊥
  unfolding is_first
  first_alone i k e h s =
      let f : first (like i) i ≡ i = eqb-true (first (like i) i) i e in
      eqb-false (language_at list k) (language_at list i) (first_before (like i) i k (omega arith)) s

  -- the first entry of the language of the entry k
  abbrev pub first_of : ℕ → ℕ
  first_of k = first (like k) (entries list)

  module _ (k : ℕ) (h : k < entries list) where
    found : first_of k < entries list
    found = split (first_of k) (entries list) (λ l. l) (λ l. absurd (eqb-false (language_at list k) (language_at list k) (first_before (like k) (entries list) k (omega arith)) refl))

    pub first_language : language_at list (first_of k) ≡ language_at list k
    first_language = eqb-true _ _ (first_found (like k) (entries list) found)

    is_first_lem : is_first list (first_of k) ≡ true
    unfolding is_first
    is_first_lem = eq-eqb _ _ (first_none (like (first_of k)) (first_of k) other)
      where
        other : (j : ℕ) → j < first_of k → like (first_of k) j ≡ false
        other j l = rw first_language (first_before (like k) (entries list) j l)

    -- each language of the list is there
    pub merged_all : In (first_of k) (merged list)
    unfolding merged firsts
    merged_all =
        order_all (stands_before (mean_at list)) (firsts list) (first_of k) (chosen_all (is_first list) (entries list) (first_of k) found is_first_lem)

-- ---- the order
module _ (list : List ℕ) (g : Good list) where
  keys_up : Up 0 (map (key_at list) (merged list))
  keys_up = subst (Up 0) (keys_merge list g) (rising_up (map (key_at list) (firsts list)) (length (firsts list)) 0)

  before : (i q : ℕ) → In i (merged list) → In q (merged list) → key_at list i < key_at list q → stands_before (mean_at list) i q ≡ true
  before i q m n h = key_before list g i q (merged_in list g i m) (merged_in list g q n) ∙ lt-ltb (key_at list i) (key_at list q) h

  pub merged_falls : Pairs (λ i q. lt (mean_at list i) (mean_at list q) ≡ false) (merged list)
  unfolding stands_before
  merged_falls =
      pairs_in (λ i q. lt (mean_at list i) (mean_at list q) ≡ false) (key_at list) 0 (merged list) keys_up
      (λ i q m n h. falls (lt (mean_at list q) (mean_at list i)) (lt (mean_at list i) (mean_at list q)) (ltb i q)
      (lt_once (mean_at list i) (mean_at list q) (mean_plain list g i (merged_in list g i m)) (mean_plain list g q (merged_in list g q n))
      (mean_single list g i (merged_in list g i m)) (mean_single list g q (merged_in list g q n)))
      (before i q m n h))
    where
      falls : (a b c : Bool) → (a ≡ true → b ≡ false) → (a || (not b && c)) ≡ true → b ≡ false
      falls true b c k e = k refl
      falls false true c k e = sym e
      falls false false c k e = refl

  pub merged_ties : Pairs (λ i q. lt (mean_at list q) (mean_at list i) ≡ false → i < q) (merged list)
  unfolding stands_before
  merged_ties =
      pairs_in (λ i q. lt (mean_at list q) (mean_at list i) ≡ false → i < q) (key_at list) 0 (merged list) keys_up
      (λ i q m n h e. ltb-true i q (tied (lt (mean_at list q) (mean_at list i)) (lt (mean_at list i) (mean_at list q)) (ltb i q) e (before i q m n h)))
    where
      tied : (a b c : Bool) → a ≡ false → (a || (not b && c)) ≡ true → c ≡ true
      tied true b c k e = absurd (true≢false k)
      tied false true c k e = absurd (true≢false (sym e))
      tied false false c k e = e

  first_of_lem : (i : ℕ) → In i (merged list) → is_first list i ≡ true
  unfolding merged firsts
  first_of_lem i m = (chosen_in (is_first list) (entries list) i (order_in_lem (stands_before (mean_at list)) (firsts list) i m)).1

  pub merged_once : Pairs (λ i q. language_at list i ≡ language_at list q → ⊥) (merged list)
  merged_once =
      pairs_in (λ i q. language_at list i ≡ language_at list q → ⊥) (key_at list) 0 (merged list) keys_up
      (λ i q m n h e. split i q
      (λ l. first_alone list q i (first_of_lem q n) l e)
      (λ l. split q i (λ k. first_alone list i q (first_of_lem i m) k (sym e)) (λ k. same i q l k h)))
    where
      same : (i q : ℕ) → q ≤ i → i ≤ q → key_at list i < key_at list q → ⊥
      same i q a b h = let e : i ≡ q = omega arith in differ h (ap (key_at list) e)
        where
          differ : {m n : ℕ} → m < n → m ≡ n → ⊥
          differ l e = omega arith

  -- what is written for a language is read back as its mean
  pub mean_read : (i : ℕ) → i < entries list → of_bits binary32 (bits_of (mean_at list i)) ≡ mean_at list i
  mean_read i h = of_bits-to_bits binary32 (mean_at list i) (subst T (sym (mean_single list g i h)) tt)

-- 02 [14]: "For scores of 0 to 1 show that each mean, rounding included, lies between 0 and 1"
pub means_between : (list lengths : List ℕ) (room n : ℕ) → merge_answer list lengths room ≡ Ok n → (i : ℕ) → i < entries list → is_score (mean_at list i) ≡ true
means_between list lengths room n e i h = mean_score list (accepted_good list lengths [] room n e) i h
