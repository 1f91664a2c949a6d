-- For readers, of the ranking of records that can be ranked (`Rankable`): scores never rise (`ranking_falls`), and equal ones stand in the table order of
-- first records (`ranking_ties`); no number stands twice (`ranking_once`); each number is in the table, and its score the best of its first record
-- (`ranking_told`); every record's match is in the ranking (`ranking_all`); there are at most as many matches as records (`ranking_few`, and
-- `ranking_count` by value). The languages of kept matches can be ranked (`hits_rankable`).
-- Assumes nothing.
use Prim.Native.Nat.{ℕ, ◌≤◌, ◌<◌}
use mathlib.Core.Path.{◌≡◌, refl, sym, ap, ◌∙◌, subst}
use mathlib.Core.Logic.{inl, inr}
use mathlib.Core.Bool.{Bool, true, false, not, ◌&&◌, ◌||◌, true≢false}
use mathlib.Core.List.{List, [], ◌∷◌, map}
use native.Mathlib.Omega.{arith}
use lib.ListN.{length, length-map}
use lib.Dec.{ltb}
use lib.Ieee.{Float, lt}
use borrow.Author.Tests.{lt-ltb, ltb-true}
use Rattle.base.specs.Inner.All.{All}
use Rattle.base.specs.Limits.{MOST_LANGUAGES}
use Rattle.base.proofs.Laws.In.{In, in_map}
use Rattle.cd_languages.specs.Languages.{languages, first_record}
use Rattle.cd_order.proofs.Laws.Sorted.{Up, up_above, rising_up}
use Rattle.cd_order.specs.Sorting.{in_order}
use Rattle.cd_order.proofs.Laws.Chosen.{chosen_in, chosen_all, chosen_up, rises_few}
use Rattle.cd_order.proofs.Laws.Sorting.{order_in_lem, order_all, order_length}
use Rattle.cd_best.specs.Kept.{Hit}
use Rattle.cd_best.specs.Best.{has_match, best_score}
use Rattle.cd_best.specs.Inner.Known.{Known}
use Rattle.cd_best.proofs.Laws.Best.{has_hit, best_attained}
use Rattle.cd_best.proofs.Laws.BitsOrder.{lt_once}
use Rattle.cd_ranking.specs.declared.CoherenceMatch.{CoherenceMatch}
use Rattle.cd_ranking.specs.Ranking.{matched, stands_before, match_at, in_rank, ranking_of, by_value}
use Rattle.cd_ranking.specs.Inner.Keys.{key_at}
use Rattle.cd_ranking.proofs.Laws.Keys.{Rankable, rank_before, keys_rank}

module _ {A : Type 0} where
  abbrev pub Pairs : (A → A → Type 0) → List A → Type 0
  Pairs R [] = Unit
  Pairs R (x ∷ l) = All (R x) l × Pairs R l

module _ {A : Type 0} (f : ℕ → A) where
  all_of : (P : A → Type 0) (l : List ℕ) → ((x : ℕ) → In x l → P (f x)) → All P (map f l)
  all_of P [] h = tt
  all_of P (x ∷ l) h = (h x (inl refl), all_of P l (λ y i. h y (inr i)))

  -- pairs of numbers with rising keys
  pairs_map : (R : A → A → Type 0) (key : ℕ → ℕ) (last : ℕ) (l : List ℕ) → Up last (map key l)
      → ((x y : ℕ) → In x l → In y l → key x < key y → R (f x) (f y)) → Pairs R (map f l)
  pairs_map R key last [] u h = tt
  pairs_map R key last (x ∷ l) u h = (
    all_of (R (f x)) l (λ y i. h x y (inl refl) (inr i) (up_above (key x) (key y) (map key l) u.1 (in_map key l y i))),
    pairs_map R key (key x) l u.1 (λ y z i j. h y z (inr i) (inr j)),
  )

-- ---- the ranking
-- m's number is in the table t; its first record is among them, and m's score its best
abbrev pub Told : List ℕ → (ℕ → Float) → List ℕ → CoherenceMatch → Type 0
Told t best l m =
    (first_record t m.language < languages t) × In (first_record t m.language) l × (m.score ≡ best (first_record t m.language))

module _ {t : List ℕ} {best : ℕ → Float} {l : List ℕ} (h : Rankable t best l) where
  abbrev ranks : List ℕ
  ranks = in_order (stands_before best) l

  among : (r : ℕ) → In r ranks → In r l
  among r i = order_in_lem (stands_before best) l r i

  known : (r : ℕ) → In r ranks → Known t r (best r)
  known r i = h.known r (among r i)

  keys_up : Up 0 (map (key_at best) ranks)
  keys_up = subst (Up 0) (keys_rank h) (rising_up (map (key_at best) l) (length l) 0)

  -- what the lesser key says
  first : (r q : ℕ) → In r ranks → In q ranks → key_at best r < key_at best q → stands_before best r q ≡ true
  first r q i j k = rank_before h r q (among r i) (among q j) ∙ lt-ltb (key_at best r) (key_at best q) k

  pub ranking_falls : Pairs (λ a b. lt a.score b.score ≡ false) (in_rank t best l)
  unfolding in_rank stands_before
  ranking_falls =
      pairs_map (match_at t best) (λ a b. lt a.score b.score ≡ false) (key_at best) 0 ranks keys_up
      (λ r q i j k. falls (lt (best q) (best r)) (lt (best r) (best q)) (ltb r q)
      (lt_once (best r) (best q) (known r i).1.plain (known q j).1.plain (known r i).1.single (known q j).1.single)
      (first r q i j k))
    where
      falls : (a b c : Bool) → (a ≡ true → b ≡ false) → (a || (not b && c)) ≡ true → b ≡ false
      falls true b c k e = k refl
      falls false true c k e = sym e
      falls false false c k e = refl

  pub ranking_ties : Pairs (λ a b. lt b.score a.score ≡ false → first_record t a.language < first_record t b.language) (in_rank t best l)
  unfolding in_rank stands_before
  ranking_ties =
      pairs_map (match_at t best) (λ a b. lt b.score a.score ≡ false → first_record t a.language < first_record t b.language) (key_at best) 0 ranks keys_up
      (λ r q i j k e. rw ((known r i).2, (known q j).2) (ltb-true r q (tied (lt (best q) (best r)) (lt (best r) (best q)) (ltb r q) e (first r q i j k))))
    where
      tied : (a b c : Bool) → a ≡ false → (a || (not b && c)) ≡ true → c ≡ true
      tied true b c k e = absurd (true≢false k)
      tied false true c k e = absurd (true≢false (sym e))
      tied false false c k e = e

  pub ranking_once : Pairs (λ a b. a.language ≡ b.language → ⊥) (in_rank t best l)
  unfolding in_rank
  ranking_once =
      pairs_map (match_at t best) (λ a b. a.language ≡ b.language → ⊥) (key_at best) 0 ranks keys_up
      (λ r q i j k e. differ k (ap (key_at best) (sym (known r i).2 ∙ ap (first_record t) e ∙ (known q j).2)))
    where
      differ : {a b : ℕ} → a < b → a ≡ b → ⊥
      differ k e = omega arith

  pub ranking_told : All (Told t best l) (in_rank t best l)
  unfolding in_rank
  ranking_told =
      all_of (match_at t best) (Told t best l) ranks
      (λ r i. rw (known r i).2 ((known r i).0, among r i, refl))

  pub ranking_all : (r : ℕ) → In r l → In (match_at t best r) (in_rank t best l)
  unfolding in_rank
  ranking_all r i = in_map (match_at t best) ranks r (order_all (stands_before best) l r i)

  pub ranking_few : length (in_rank t best l) ≤ languages t
  unfolding in_rank
  ranking_few =
      omega (
        arith,
        length-map ranks (match_at t best),
        order_length (stands_before best) l,
        rises_few (languages t) l h.rises (λ r i. (h.known r i).0),
      )

module _ (t : List ℕ) (hits : List Hit) (most : languages t ≤ MOST_LANGUAGES) (knows : (h : Hit) → In h hits → Known t h.at h.score) where
  attained : (r : ℕ) → has_match hits r ≡ true → In (record { at = r; score = best_score hits r }) hits
  attained r e = best_attained hits (λ h i. (knows h i).1.plain) r e

  pub matched_in : (r : ℕ) → In r (matched t hits) → (r < languages t) × (has_match hits r ≡ true)
  unfolding matched
  matched_in r i = chosen_in (has_match hits) (languages t) r i

  pub matched_all : (h : Hit) → In h hits → In h.at (matched t hits)
  unfolding matched
  matched_all h i = chosen_all (has_match hits) (languages t) h.at (knows h i).0 (has_hit hits h i)

  pub matched_best : (r : ℕ) → In r (matched t hits) → In (record { at = r; score = best_score hits r }) hits
  matched_best r i = attained r (matched_in r i).1

  pub hits_rankable : Rankable t (best_score hits) (matched t hits)
  unfolding matched
  hits_rankable =
      record {
        most = most;
        rises = chosen_up (has_match hits) (languages t);
        known = λ r i. knows _ (matched_best r i);
      }

  pub ranking_count : (by_value (ranking_of t hits)).count ≤ languages t
  unfolding by_value
  ranking_count = ranking_few hits_rankable
