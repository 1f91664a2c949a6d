-- The matching, as `matched` walks the layer: i letters are passed, m of them matched. Its two arrays are longer than the language; their
-- first parts are the definition's lists.
-- Assumes nothing.
use Prim.Native.Nat.{ℕ, zero, suc, ◌+◌, ◌/◌, ◌≤◌, ◌<◌}
use mathlib.Core.Path.{◌≡◌, refl, sym, ap, ◌∙◌}
use mathlib.Core.Bool.{Bool, true, false}
use mathlib.Core.List.{List, [], ◌∷◌, ◌++◌}
use native.Mathlib.Numerals.{add-one}
use native.Mathlib.Omega.{arith}
use native.Mathlib.Nat.{le_of_eq, le_of_suc-le-suc, not-suc-le-zero}
use lib.ListN.{length, get_or, set, take, replicate, length-set, length-replicate, length-append}
use lib.Seq.{take-set-lt, take-suc-set}
use Rattle.base.specs.Inner.Limits.{MOST_LETTERS}
use Rattle.base.specs.Limits.{LANGUAGE_LETTERS}
use Rattle.cd_jaro_meaning.specs.Jaro.{window, place, matching, picked, differing, matches, out_of_order}
use Rattle.cd_jaro.specs.Inner.Place.{Reach}
use Rattle.cd_jaro.proofs.Loops.Place.{window_le}
use Rattle.cd_jaro.specs.Inner.OutOfOrder.{Paired}
use Rattle.cd_jaro_meaning.specs.Inner.Jaro.{Counted}
use Rattle.cd_jaro_meaning.proofs.Laws.Jaro.{counted}
use Rattle.cd_jaro_meaning.proofs.Laws.Place.{place_free}
use Rattle.cd_jaro_meaning.proofs.Laws.Matching.{picked_le, picked_more, at, more_hit, more_miss, even}

take_same : (n k : ℕ) (v : Bool) → n ≤ k → take n (replicate k v) ≡ replicate n v
take_same zero k v h = refl
take_same (suc n) zero v h = absurd (not-suc-le-zero h)
take_same (suc n) (suc k) v h = ap (λ l. v ∷ l) (take_same n k v (le_of_suc-le-suc h))

module _ (layer language : List ℕ) where
  pub record Matched (taken : List Bool) (letters : List ℕ) (m i : ℕ) : Type 0 where
    pub below : i ≤ length layer
    pub wide : length taken ≡ LANGUAGE_LETTERS
    pub long : length letters ≡ LANGUAGE_LETTERS
    pub flags : take (length language) taken ≡ (matching layer language i).taken
    pub firsts : take m letters ≡ (matching layer language i).letters
    pub count : m ≡ length (matching layer language i).letters

  pub matched_start : length language ≤ LANGUAGE_LETTERS → Matched (replicate LANGUAGE_LETTERS false) (replicate LANGUAGE_LETTERS 0) 0 0
  unfolding matching
  matched_start h =
      record {
        below = omega arith;
        wide = length-replicate LANGUAGE_LETTERS false;
        long = length-replicate {A = ℕ} LANGUAGE_LETTERS 0;
        flags = take_same (length language) LANGUAGE_LETTERS false h;
        firsts = refl;
        count = refl;
      }

  module _ {taken : List Bool} {letters : List ℕ} {m i : ℕ} (g : Matched taken letters m i) where
    matched_flags : length language ≡ length (take (length language) taken)
    matched_flags = sym (ap length g.flags ∙ (even layer language i).flags)

    pub matched_paired : length language ≤ LANGUAGE_LETTERS → Paired language (take (length language) taken) (take m letters)
    matched_paired h = record { few = h; flags = matched_flags; pairs = rw (g.flags, g.firsts) (even layer language i).pairs }

    module _ {w : ℕ} (l : i < length layer) (v : w ≡ window (length layer) (length language)) where
      pub matched_reach : length layer ≤ MOST_LETTERS → length language ≤ LANGUAGE_LETTERS → Reach language (take (length language) taken) i w
      matched_reach a b =
          record { flags = le_of_eq matched_flags; near = omega arith; narrow = omega (arith, window_le (length layer) (length language)) }

      module _ {j : ℕ} (p : j ≡ place language (take (length language) taken) (get_or layer i 0) i w) where
        same : j ≡ at layer language i
        same = p ∙ rw (g.flags, v)

        pub matched_miss : length language ≤ j → Matched taken letters m (i + 1)
        matched_miss h =
            let e : matching layer language (i + 1) ≡ matching layer language i = more_miss layer language i (omega (arith, same)) in
            record {
              below = omega arith;
              wide = g.wide;
              long = g.long;
              flags = rw e g.flags;
              firsts = rw e g.firsts;
              count = rw e g.count;
            }

        module _ (h : j < length language) (n : length language ≤ LANGUAGE_LETTERS) where
          free : get_or (matching layer language i).taken (at layer language i) false ≡ false
          free = place_free language (matching layer language i).taken (get_or layer i 0) i _ (omega (arith, same))

          pub matched_room : m < LANGUAGE_LETTERS
          matched_room =
              omega (
                arith,
                g.count,
                (even layer language i).pairs,
                picked_le language (set (matching layer language i).taken (at layer language i) true),
                picked_more language (matching layer language i).taken (at layer language i) (omega (arith, same)) (even layer language i).flags free,
              )

          pub matched_hit : Matched (set taken j true) (set letters m (get_or layer i 0)) (m + 1) (i + 1)
          matched_hit =
              let e = more_hit layer language i (omega (arith, same)) in
              let r : m < length letters = omega (arith, matched_room, g.long) in
              let f : take (length language) (set taken j true) ≡ set (matching layer language i).taken (at layer language i) true =
              take-set-lt (length language) taken j true h ∙ rw (g.flags, same) in
              let t : take (m + 1) (set letters m (get_or layer i 0)) ≡ (matching layer language i).letters ++ (get_or layer i 0 ∷ []) =
              rw (add-one m, take-suc-set letters m (get_or layer i 0) r, g.firsts) in
              record {
                below = omega arith;
                wide = length-set taken j true ∙ g.wide;
                long = length-set letters m (get_or layer i 0) ∙ g.long;
                flags = rw e f;
                firsts = rw e t;
                count = rw e (omega (arith, g.count, length-append (matching layer language i).letters (get_or layer i 0 ∷ [])));
              }

    pub matched_end : {out : ℕ} → length layer ≤ i → out ≡ differing (take m letters) (picked language (take (length language) taken))
        → Counted layer language m (out / 2)
    unfolding matches out_of_order
    matched_end h o =
        let e : i ≡ length layer = omega (arith, g.below) in
        counted (g.count ∙ rw e) (o ∙ rw (g.flags, g.firsts, e))
