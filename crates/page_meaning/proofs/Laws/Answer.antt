-- Laws of Answer: one for each way in which a reading or a writing returns (`over`, `bad`, `unused`, `lacking`, `short_read`, `reads`, ..), of the check of a page
-- (`size_refused`, `entry_refused`, `none_refused`), and what an accepted call has (`read_free`, `write_free`) and the other way round (`free_read`,
-- `free_write`). Assumes nothing.
use Rattle.std.specs.Prelude.{Result, Ok, Err, ⊤}
use Prim.Native.Nat.{ℕ, ◌≤◌, ◌<◌}
use mathlib.Core.Path.{◌≡◌, refl, sym, ap, ◌∙◌}
use mathlib.Core.Bool.{Bool, true, false, not}
use mathlib.Core.List.{List, [], ◌∷◌}
use native.Mathlib.Omega.{arith}
use lib.ListN.{length}
use lib.Dec.{eqb, ltb}
use borrow.Author.Tests.{eq-eqb, ne_eqb, eqb-true, lt-ltb, le-ltb, ltb-false, not-false}
use Rattle.base.specs.declared.refusals.Cause.{Cause}
use Rattle.base.specs.declared.Refusal.{Refusal}
use Rattle.base.specs.Causes.{refused_at, given, first_of}
use Rattle.base.specs.Counted.{count_unless, lent_after}
use Rattle.base.specs.Limits.{LONGEST_TEXT}
use Rattle.base.specs.Put.{put}
use Rattle.base.specs.declared.refusals.Cause.TheVariants.{TooLong, IllFormed, NoRoom, BadPage, NotOnPage}
use Rattle.base.proofs.Laws.Causes.{given_yes, free_given, given_free, first_refused, first_on, first_given, first_passed, first_free, free_first}
use Rattle.base.proofs.Laws.Counted.{counted_allowed, counted_refused, counted_at, after_allowed, after_refused}
use Rattle.base.proofs.Laws.First.{first_within}
use Rattle.page_meaning.specs.Page.{PAGE_ENTRIES, bad_entry, first_bad, unused_at, lacking_at, points_of, bytes_of}
use Rattle.page_meaning.specs.Answer.{too_long, bad_page, unused_byte, not_on_page, no_room, read_causes, read_answer, read_into, write_causes, write_answer, write_into}
use Rattle.page_meaning.specs.Inner.Good.{Good}

-- ---- the check of a page
module _ (page : List ℕ) where
  pub size_refused : (length page ≡ PAGE_ENTRIES → ⊥) → bad_page page ≡ refused_at BadPage 0
  unfolding bad_page
  size_refused n = first_given _ _ BadPage 0 (ap not (ne_eqb (length page) PAGE_ENTRIES n))

  module _ (s : length page ≡ PAGE_ENTRIES) where
    sized : bad_page page ≡ first_of (given (ltb (first_bad page) PAGE_ENTRIES) BadPage (first_bad page) ∷ [])
    unfolding bad_page
    sized = first_passed _ _ BadPage 0 (ap not (eq-eqb (length page) PAGE_ENTRIES s))

    pub entry_refused : first_bad page < PAGE_ENTRIES → bad_page page ≡ refused_at BadPage (first_bad page)
    entry_refused h = sized ∙ first_given [] _ BadPage (first_bad page) (lt-ltb (first_bad page) PAGE_ENTRIES h)

    pub none_refused : PAGE_ENTRIES ≤ first_bad page → bad_page page ≡ Ok tt
    unfolding first_of
    none_refused h = sized ∙ first_passed [] _ BadPage (first_bad page) (le-ltb (first_bad page) PAGE_ENTRIES h)

  pub allowed_good : bad_page page ≡ Ok tt → Good page
  unfolding bad_page first_bad
  allowed_good e =
      let a = first_free (given (not (eqb (length page) PAGE_ENTRIES)) BadPage 0) _ e in
      let b = first_free (given (ltb (first_bad page) PAGE_ENTRIES) BadPage (first_bad page)) [] a.1 in
      let l = ltb-false (first_bad page) PAGE_ENTRIES (given_free _ BadPage (first_bad page) b.0) in
      record {
        size = eqb-true (length page) PAGE_ENTRIES (not-false (eqb (length page) PAGE_ENTRIES) (given_free _ BadPage 0 a.0));
        none_bad = omega (arith, first_within (bad_entry page) PAGE_ENTRIES);
      }

  pub good_allowed : Good page → bad_page page ≡ Ok tt
  good_allowed g = none_refused g.size (omega (arith, g.none_bad))

-- ---- a call of four causes, the third its own: what it answers and what it leaves
abbrev in_order : List ℕ → List ℕ → Result ⊤ Refusal → ℕ → Result ⊤ Refusal
in_order page l own room = first_of (too_long l ∷ bad_page page ∷ own ∷ no_room l room ∷ [])

abbrev Ends : Result ⊤ Refusal → List ℕ → List ℕ → List ℕ → Result ℕ Refusal → List ℕ → Type 0
Ends cause l result out a new = (a ≡ count_unless cause (length l)) × (new ≡ lent_after cause result out)

module _ (page l : List ℕ) (own : Result ⊤ Refusal) (result out : List ℕ) where
  abbrev here : Result ⊤ Refusal
  here = in_order page l own (length out)

  refuses : (cause : Cause) (place : ℕ) → here ≡ refused_at cause place → Ends here l result out (refused_at cause place) out
  unfolding refused_at
  refuses cause place e = (counted_at here (length l) cause place e, sym (after_refused result out here _ e))

  over : LONGEST_TEXT < length l → here ≡ refused_at TooLong 0
  unfolding too_long
  over h = first_given _ _ TooLong 0 (lt-ltb LONGEST_TEXT (length l) h)

  module _ (h : length l ≤ LONGEST_TEXT) where
    past_long : here ≡ first_of (bad_page page ∷ own ∷ no_room l (length out) ∷ [])
    unfolding too_long
    past_long = first_passed _ _ TooLong 0 (le-ltb LONGEST_TEXT (length l) h)

    bad : (r : Refusal) → bad_page page ≡ Err r → Ends here l result out (Err r) out
    bad r e =
        let f = past_long ∙ first_refused (own ∷ no_room l (length out) ∷ []) (bad_page page) r e in
        (sym (counted_refused here (length l) r f), sym (after_refused result out here r f))

    module _ (g : Good page) where
      past_page : here ≡ first_of (own ∷ no_room l (length out) ∷ [])
      past_page = past_long ∙ first_on (own ∷ no_room l (length out) ∷ []) (bad_page page) (good_allowed page g)

      own_cause : (r : Refusal) → own ≡ Err r → here ≡ Err r
      own_cause r e = past_page ∙ first_refused (no_room l (length out) ∷ []) own r e

      module _ (a : own ≡ Ok tt) where
        past_own : here ≡ first_of (no_room l (length out) ∷ [])
        past_own = past_page ∙ first_on (no_room l (length out) ∷ []) own a

        short : length out < length l → here ≡ refused_at NoRoom 0
        unfolding no_room
        short k = past_own ∙ first_given [] _ NoRoom 0 (lt-ltb (length out) (length l) k)

        free : length l ≤ length out → here ≡ Ok tt
        unfolding no_room first_of
        free k = past_own ∙ first_passed [] _ NoRoom 0 (le-ltb (length out) (length l) k)

        done : length l ≤ length out → Ends here l result out (Ok (length l)) (put out 0 result)
        done k = (sym (counted_allowed here (length l) (free k)), sym (after_allowed result out here (free k)))

-- ---- reading
abbrev pub ReadEnds : List ℕ → List ℕ → List ℕ → Result ℕ Refusal → List ℕ → Type 0
ReadEnds page bytes out a new = (a ≡ read_answer page bytes (length out)) × (new ≡ read_into page bytes out)

module _ (page bytes out : List ℕ) where
  pub over_read : LONGEST_TEXT < length bytes → ReadEnds page bytes out (refused_at TooLong 0) out
  unfolding read_answer read_into read_causes
  over_read h =
      refuses page bytes (unused_byte page bytes) (points_of page bytes) out TooLong 0
      (over page bytes (unused_byte page bytes) (points_of page bytes) out h)

  module _ (h : length bytes ≤ LONGEST_TEXT) where
    pub bad_read : (r : Refusal) → bad_page page ≡ Err r → ReadEnds page bytes out (Err r) out
    unfolding read_answer read_into read_causes
    bad_read r e = bad page bytes (unused_byte page bytes) (points_of page bytes) out h r e

    module _ (g : Good page) where
      pub unused : (k : ℕ) → k ≡ unused_at page bytes → k < length bytes → ReadEnds page bytes out (refused_at IllFormed k) out
      unfolding read_answer read_into read_causes unused_byte refused_at
      unused k e l =
          refuses page bytes (unused_byte page bytes) (points_of page bytes) out IllFormed k
          (own_cause page bytes (unused_byte page bytes) (points_of page bytes) out h g _
          (rw (← e) (given_yes (ltb k (length bytes)) IllFormed k (lt-ltb k (length bytes) l))))

      module _ (n : length bytes ≤ unused_at page bytes) where
        none_unused : unused_byte page bytes ≡ Ok tt
        unfolding unused_byte
        none_unused = free_given _ IllFormed (unused_at page bytes) (le-ltb (unused_at page bytes) (length bytes) n)

        pub short_read : length out < length bytes → ReadEnds page bytes out (refused_at NoRoom 0) out
        unfolding read_answer read_into read_causes
        short_read k =
            refuses page bytes (unused_byte page bytes) (points_of page bytes) out NoRoom 0
            (short page bytes (unused_byte page bytes) (points_of page bytes) out h g none_unused k)

        pub reads : length bytes ≤ length out → ReadEnds page bytes out (Ok (length bytes)) (put out 0 (points_of page bytes))
        unfolding read_answer read_into read_causes
        reads k = done page bytes (unused_byte page bytes) (points_of page bytes) out h g none_unused k

-- ---- writing
abbrev pub WriteEnds : List ℕ → List ℕ → List ℕ → Result ℕ Refusal → List ℕ → Type 0
WriteEnds page text out a new = (a ≡ write_answer page text (length out)) × (new ≡ write_into page text out)

module _ (page text out : List ℕ) where
  pub over_write : LONGEST_TEXT < length text → WriteEnds page text out (refused_at TooLong 0) out
  unfolding write_answer write_into write_causes
  over_write h =
      refuses page text (not_on_page page text) (bytes_of page text) out TooLong 0
      (over page text (not_on_page page text) (bytes_of page text) out h)

  module _ (h : length text ≤ LONGEST_TEXT) where
    pub bad_write : (r : Refusal) → bad_page page ≡ Err r → WriteEnds page text out (Err r) out
    unfolding write_answer write_into write_causes
    bad_write r e = bad page text (not_on_page page text) (bytes_of page text) out h r e

    module _ (g : Good page) where
      pub lacking : (k : ℕ) → k ≡ lacking_at page text → k < length text → WriteEnds page text out (refused_at NotOnPage k) out
      unfolding write_answer write_into write_causes not_on_page refused_at
      lacking k e l =
          refuses page text (not_on_page page text) (bytes_of page text) out NotOnPage k
          (own_cause page text (not_on_page page text) (bytes_of page text) out h g _
          (rw (← e) (given_yes (ltb k (length text)) NotOnPage k (lt-ltb k (length text) l))))

      module _ (n : length text ≤ lacking_at page text) where
        none_lacking : not_on_page page text ≡ Ok tt
        unfolding not_on_page
        none_lacking = free_given _ NotOnPage (lacking_at page text) (le-ltb (lacking_at page text) (length text) n)

        pub short_write : length out < length text → WriteEnds page text out (refused_at NoRoom 0) out
        unfolding write_answer write_into write_causes
        short_write k =
            refuses page text (not_on_page page text) (bytes_of page text) out NoRoom 0
            (short page text (not_on_page page text) (bytes_of page text) out h g none_lacking k)

        pub writes : length text ≤ length out → WriteEnds page text out (Ok (length text)) (put out 0 (bytes_of page text))
        unfolding write_answer write_into write_causes
        writes k = done page text (not_on_page page text) (bytes_of page text) out h g none_lacking k
