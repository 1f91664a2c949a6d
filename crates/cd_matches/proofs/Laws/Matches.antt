-- Laws of a layer's matches, for callers: at most MOST-INCLUDED (`match_few`), each a record of the table (`match_below`) and the first with its number
-- (`match_first`), with a similarity for its score (`match_known`); a layer adds at most so many sufficient matches (`layer_few`).
-- Assumes nothing.
use Prim.Native.Nat.{ℕ, ◌+◌, ◌≤◌, ◌<◌}
use mathlib.Core.Path.{◌≡◌, refl, sym, ap, ◌∙◌}
use mathlib.Core.Bool.{Bool, true, false, ◌||◌}
use mathlib.Core.List.{List, map}
use native.Mathlib.Omega.{arith}
use lib.ListN.{length, get_or, take, length-map}
use lib.Dec.{eqb}
use lib.Ieee.{Float}
use borrow.Author.Tests.{ltb-true}
use Rattle.base.specs.Inner.Limits.{MOST_LETTERS}
use Rattle.base.specs.Limits.{MOST_INCLUDED}
use Rattle.base.proofs.Laws.Tests.{by_bool, split}
use Rattle.base.proofs.Laws.In.{at_in}
use Rattle.cd_jaro_meaning.proofs.Laws.Similarity.{similarity_good}
use Rattle.cd_languages.specs.Languages.{languages, number_of, first_record}
use Rattle.cd_languages.specs.Inner.Languages.{good_languages}
use Rattle.cd_languages.proofs.Laws.Languages.{good_most, first_record_has, first_record_before}
use Rattle.cd_languages.specs.Letters.{letters_of}
use Rattle.cd_languages.specs.Included.{lone_zero, in_table}
use Rattle.cd_languages.specs.Inner.Permitted.{Permitted}
use Rattle.cd_best.specs.declared.Standing.{Standing}
use Rattle.cd_best.specs.Inner.Standing.{unread, walk}
use Rattle.cd_best.specs.Inner.Known.{Known}
use Rattle.cd_best.specs.Inner.Holding.{Each}
use Rattle.cd_best.proofs.Loops.Walking.{walk_few}
use Rattle.cd_matches.specs.Matches.{alphabet_languages, first_like, found_records, match_records, score_at, scores_of}
use Rattle.cd_matches.specs.Inner.LayerRead.{layer_read}
use Rattle.cd_matches.proofs.Laws.Lists.{map_at}
use Rattle.cd_matches.specs.Inner.Records.{Records}
use Rattle.cd_matches.proofs.Laws.Records.{letters_most}
use Rattle.cd_matches.specs.Inner.Put.{Put, put_front}
use Rattle.cd_matches.proofs.Laws.Search.{search_in, search_few}

-- a record of the table, and the first with its number
abbrev First : List ℕ → ℕ → Type 0
First t r = (r < languages t) × (first_record t (number_of t r) ≡ r)

-- the first record with a number that is in the table is the first with its own number
first_of_lem : (t : List ℕ) (x : ℕ) → first_record t x < languages t → First t (first_record t x)
first_of_lem t x h = (h, ap (first_record t) (first_record_has t x h))

-- a record's number is in the table
number_known : (t : List ℕ) (i : ℕ) → i < languages t → first_like t i < languages t
number_known t i h =
    split (first_like t i) (languages t) (λ l. l) (λ l. absurd (first_record_before t (number_of t i) i (omega arith) refl))

or_neither : (a b : Bool) → (a || b) ≡ false → a ≡ false
or_neither true b e = e
or_neither false b e = refl

-- what f makes of each entry of a list
each_of : (t : List ℕ) (f : ℕ → ℕ) (l : List ℕ) → ((k : ℕ) → k < length l → First t (f (get_or l k 0))) → (i : ℕ) → i < length (map f l) → First t (get_or (map f l) i 0)
each_of t f l h i b =
    let k : i < length l = omega (arith, length-map l f) in
    rw (map_at f l i 0 k) (h i k)

module _ (t order records : List ℕ) where
  pub scores_length : length records ≡ length (scores_of t order records)
  unfolding scores_of
  scores_length = sym (length-map records (score_at t order))

  pub score_is : (i : ℕ) → i < length records → (x : Float) → x ≡ score_at t order (get_or records i 0) → x ≡ get_or (scores_of t order records) i unread
  unfolding scores_of
  score_is i h x e = e ∙ sym (map_at (score_at t order) records i unread h)

module _ (t included : List ℕ) (accented : Bool) (order : List ℕ) where
  pub match_search : (lone_zero included || eqb (length included) 0) ≡ true
      → match_records t included accented order ≡ found_records t (lone_zero included) accented order
  unfolding match_records
  match_search e = rw e

  pub match_given : (lone_zero included || eqb (length included) 0) ≡ false → match_records t included accented order ≡ map (first_record t) included
  unfolding match_records
  match_given e = rw e

  module _ (good : good_languages t ≡ true) (allowed : Permitted included t) where
    abbrev records : List ℕ
    records = match_records t included accented order

    pub match_few : length records ≤ MOST_INCLUDED
    unfolding found_records
    match_few =
        by_bool (lone_zero included || eqb (length included) 0)
        (λ e. let l = alphabet_languages t (lone_zero included) accented order in
        rw (match_search e) (omega (arith, length-map l (first_like t), search_few t good order (lone_zero included) accented, good_most t good)))
        (λ e. rw (match_given e) (omega (arith, length-map included (first_record t), allowed.few)))

    each : (i : ℕ) → i < length records → First t (get_or records i 0)
    unfolding found_records in_table
    each i h =
        by_bool (lone_zero included || eqb (length included) 0)
        (λ e. let l = alphabet_languages t (lone_zero included) accented order in
        rw (match_search e)
        (each_of t (first_like t) l
        (λ k b. first_of_lem t _ (number_known t _ (search_in t (lone_zero included) accented order _ (at_in l k 0 b)).0))
        i (rw (match_search e) at h)))
        (λ e. rw (match_given e)
        (each_of t (first_record t) included
        (λ k b. first_of_lem t _ (ltb-true _ _ (allowed.known (or_neither _ _ e) k b)))
        i (rw (match_given e) at h)))

    pub match_below : (i : ℕ) → i < length records → get_or records i 0 < languages t
    match_below i h = (each i h).0

    pub match_first : (i : ℕ) → i < length records → first_record t (number_of t (get_or records i 0)) ≡ get_or records i 0
    match_first i h = (each i h).1

    pub layer_few : (threshold : Float) (s : Standing) → (layer_read threshold t included accented order s).sufficient ≤ s.sufficient + MOST_INCLUDED
    unfolding layer_read
    layer_few threshold s = omega (arith, walk_few threshold s records (scores_of t order records), match_few)

    pub match_known : length order ≤ MOST_LETTERS → Each (Known t) records (scores_of t order records)
    match_known fits i l =
        let below = match_below i l in (
          omega (arith, below, good_most t good),
          (
            below,
            rw (← score_is t order records i l (score_at t order (get_or records i 0)) refl)
                (similarity_good order (letters_of t (get_or records i 0)) fits (letters_most t good (get_or records i 0) below)),
            match_first i l,
          ),
        )

    module _ {w v : List ℕ} {n : ℕ} (p : Put (match_records t included accented order) w v n) where
      pub front_below : Records t (take n v)
      front_below = rw (put_front p) match_below

      pub front_few : length (take n v) ≤ MOST_INCLUDED
      front_few = rw (put_front p) match_few

      pub front_read : (threshold : Float) (s : Standing)
          → walk threshold s (take n v) (scores_of t order (take n v)) ≡ layer_read threshold t included accented order s
      unfolding layer_read
      front_read threshold s = rw (put_front p)
