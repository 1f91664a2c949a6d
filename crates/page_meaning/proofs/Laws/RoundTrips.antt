-- There and back, proved once over any good page (02 [1]: "Writing what was read gives the same bytes, and reading what was written gives the same
-- text"): of the definitions (`bytes_again`, `text_again`); of the causes, so that what was read is always writable in enough room and what was written
-- always readable (`read_writable`, `written_readable`); and of two calls in a row, where the second is given what the first left in its output, cut to its
-- count (`write_after_read`, `read_after_write`). Assumes nothing.
use Rattle.std.specs.Prelude.{Result, Ok, ⊤}
use Prim.Native.Nat.{ℕ, ◌+◌, ◌≤◌, ◌<◌}
use mathlib.Core.Path.{◌≡◌, refl, sym, ap, ◌∙◌}
use mathlib.Core.Logic.{◌≢◌}
use mathlib.Core.Bool.{Bool, true, false}
use mathlib.Core.List.{List, [], ◌∷◌, map}
use native.Mathlib.Omega.{arith}
use native.Mathlib.Nat.{zero-add}
use lib.ListN.{length, get_or, take}
use lib.Seq.{take-append_seam, drop-append_seam}
use lib.Dec.{eqb, ltb}
use borrow.Author.Tests.{eqb-false, ne_eqb, ltb-false, le-ltb}
use Rattle.base.specs.declared.refusals.Cause.{Cause}
use Rattle.base.specs.declared.Refusal.{Refusal}
use Rattle.base.specs.Causes.{given, first_of}
use Rattle.base.specs.Counted.{count_unless}
use Rattle.base.specs.Limits.{LONGEST_TEXT}
use Rattle.base.specs.Put.{put}
use Rattle.base.specs.declared.refusals.Cause.TheVariants.{TooLong, IllFormed, NoRoom, NotOnPage}
use Rattle.base.proofs.Laws.Causes.{given_free, first_free, free_given, free_first}
use Rattle.base.proofs.Laws.Counted.{counted_allowed, count_allowed, count_is, after_allowed}
use Rattle.base.proofs.Laws.First.{first_before, first_none}
use Rattle.base.proofs.Laws.Put.{put_first}
use Rattle.page_meaning.specs.Page.{UNUSED, point_of, byte_of, lacks, unused_at, lacking_at, points_of, bytes_of}
use Rattle.page_meaning.specs.Answer.{too_long, bad_page, unused_byte, not_on_page, no_room, read_causes, read_answer, read_into, write_causes, write_answer, write_into}
use Rattle.page_meaning.specs.RoundTrips.{Back}
use Rattle.page_meaning.specs.Inner.Good.{Good}
use Rattle.page_meaning.proofs.Laws.Lists.{length_map, get_d_map, map_back}
use Rattle.page_meaning.proofs.Laws.Page.{byte_of_point, point_of_byte, used_has, has_used}
use Rattle.page_meaning.proofs.Laws.Answer.{allowed_good, good_allowed}

-- ---- the definitions
module _ (page bytes : List ℕ) (none : length bytes ≤ unused_at page bytes) where
  pub each_used : (i : ℕ) → i < length bytes → point_of page (get_or bytes i 0) ≢ UNUSED
  unfolding unused_at
  each_used i h =
      eqb-false (point_of page (get_or bytes i 0)) UNUSED
      (first_before (λ i. eqb (point_of page (get_or bytes i 0)) UNUSED) (length bytes) i (omega arith))

  pub bytes_again : Good page → bytes_of page (points_of page bytes) ≡ bytes
  bytes_again g = map_back (point_of page) (byte_of page) bytes (λ i h. byte_of_point page g (get_or bytes i 0) (each_used i h))

  pub all_on_page : Good page → lacking_at page (points_of page bytes) ≡ length (points_of page bytes)
  unfolding lacking_at
  all_on_page g =
      first_none _ (length (points_of page bytes))
      (λ i h. let l : i < length bytes = omega (arith, length_map (point_of page) bytes) in
      rw (get_d_map (point_of page) bytes i 0 0 l) (used_has page g (get_or bytes i 0) (each_used i l)))

module _ (page text : List ℕ) (none : length text ≤ lacking_at page text) where
  pub each_has : (i : ℕ) → i < length text → lacks page (get_or text i 0) ≡ false
  unfolding lacking_at
  each_has i h = first_before (λ i. lacks page (get_or text i 0)) (length text) i (omega arith)

  pub text_again : points_of page (bytes_of page text) ≡ text
  text_again = map_back (byte_of page) (point_of page) text (λ i h. point_of_byte page (get_or text i 0) (each_has i h))

  pub all_used : unused_at page (bytes_of page text) ≡ length (bytes_of page text)
  unfolding unused_at
  all_used =
      first_none _ (length (bytes_of page text))
      (λ i h. let l : i < length text = omega (arith, length_map (byte_of page) text) in
      rw (get_d_map (byte_of page) text i 0 0 l, point_of_byte page (get_or text i 0) (each_has i l))
      (ne_eqb (get_or text i 0) UNUSED (has_used page (get_or text i 0) (each_has i l))))

-- ---- the causes
record Free (page l : List ℕ) (place room : ℕ) : Type 0 where
  short : length l ≤ LONGEST_TEXT
  good : Good page
  none : length l ≤ place
  fits : length l ≤ room

module _ (page l : List ℕ) (place : ℕ) (cause : Cause) (room : ℕ) where
  abbrev own : Result ⊤ Refusal
  own = given (ltb place (length l)) cause place

  free_of : first_of (too_long l ∷ bad_page page ∷ own ∷ no_room l room ∷ []) ≡ Ok tt → Free page l place room
  unfolding too_long no_room
  free_of e =
      let a = first_free (too_long l) _ e in
      let b = first_free (bad_page page) _ a.1 in
      let c = first_free own _ b.1 in
      let d = first_free (no_room l room) [] c.1 in
      record {
        short = ltb-false LONGEST_TEXT (length l) (given_free _ TooLong 0 a.0);
        good = allowed_good page b.0;
        none = ltb-false place (length l) (given_free _ cause place c.0);
        fits = ltb-false room (length l) (given_free _ NoRoom 0 d.0);
      }

  of_free : Free page l place room → first_of (too_long l ∷ bad_page page ∷ own ∷ no_room l room ∷ []) ≡ Ok tt
  unfolding too_long no_room first_of
  of_free f =
      free_first (too_long l) (bad_page page ∷ own ∷ no_room l room ∷ []) (free_given _ TooLong 0 (le-ltb LONGEST_TEXT (length l) f.short))
      (free_first (bad_page page) (own ∷ no_room l room ∷ []) (good_allowed page f.good)
      (free_first own (no_room l room ∷ []) (free_given _ cause place (le-ltb place (length l) f.none))
      (free_first (no_room l room) [] (free_given _ NoRoom 0 (le-ltb room (length l) f.fits)) refl)))

module _ (page : List ℕ) where
  read_free : (bytes : List ℕ) (room : ℕ) → read_causes page bytes room ≡ Ok tt → Free page bytes (unused_at page bytes) room
  unfolding read_causes unused_byte
  read_free bytes room e = free_of page bytes (unused_at page bytes) IllFormed room e

  free_read : (bytes : List ℕ) (room : ℕ) → Free page bytes (unused_at page bytes) room → read_causes page bytes room ≡ Ok tt
  unfolding read_causes unused_byte
  free_read bytes room f = of_free page bytes (unused_at page bytes) IllFormed room f

  write_free : (text : List ℕ) (room : ℕ) → write_causes page text room ≡ Ok tt → Free page text (lacking_at page text) room
  unfolding write_causes not_on_page
  write_free text room e = free_of page text (lacking_at page text) NotOnPage room e

  free_write : (text : List ℕ) (room : ℕ) → Free page text (lacking_at page text) room → write_causes page text room ≡ Ok tt
  unfolding write_causes not_on_page
  free_write text room f = of_free page text (lacking_at page text) NotOnPage room f

  pub read_writable : (bytes : List ℕ) (room back : ℕ) → read_causes page bytes room ≡ Ok tt → length bytes ≤ back
      → write_causes page (points_of page bytes) back ≡ Ok tt
  read_writable bytes room back e h =
      let f = read_free bytes room e in
      let s = length_map (point_of page) bytes in
      free_write (points_of page bytes) back
      (record {
        short = omega (arith, f.short);
        good = f.good;
        none = omega (arith, all_on_page page bytes f.none f.good);
        fits = omega arith;
      })

  pub written_readable : (text : List ℕ) (room back : ℕ) → write_causes page text room ≡ Ok tt → length text ≤ back
      → read_causes page (bytes_of page text) back ≡ Ok tt
  written_readable text room back e h =
      let f = write_free text room e in
      let s = length_map (byte_of page) text in
      free_read (bytes_of page text) back
      (record {
        short = omega (arith, f.short);
        good = f.good;
        none = omega (arith, all_used page text f.none);
        fits = omega arith;
      })

-- ---- two calls in a row
front : (out l : List ℕ) (n : ℕ) → n ≡ length l → take n (put out 0 l) ≡ l
front out l n e = rw (put_first out l, e) (take-append_seam l _)

module _ (page : List ℕ) where
  pub write_after_read : (bytes out : List ℕ) (n : ℕ) (back : List ℕ) → read_answer page bytes (length out) ≡ Ok n → n ≤ length back
      → Back bytes n back (write_answer page (take n (read_into page bytes out)) (length back)) (write_into page (take n (read_into page bytes out)) back)
  unfolding read_answer read_into write_answer write_into
  write_after_read bytes out n back e h =
      let a = count_allowed (read_causes page bytes (length out)) (length bytes) n e in
      let c = count_is (read_causes page bytes (length out)) (length bytes) n e in
      let f = read_free page bytes (length out) a in
      let s = length_map (point_of page) bytes in
      let t : take n (read_into page bytes out) ≡ points_of page bytes =
      ap (take n) (after_allowed (points_of page bytes) out _ a) ∙ front out (points_of page bytes) n (omega arith) in
      let w = read_writable page bytes (length out) (length back) a (omega arith) in
      let l : write_into page (take n (read_into page bytes out)) back ≡ put back 0 bytes =
      ap (λ (x : List ℕ). write_into page x back) t ∙ after_allowed (bytes_of page (points_of page bytes)) back _ w
      ∙ ap (put back 0) (bytes_again page bytes f.none f.good) in
      record {
        counts = ap (λ (x : List ℕ). write_answer page x (length back)) t ∙ counted_allowed _ (length (points_of page bytes)) w ∙ ap Ok (s ∙ sym c);
        holds = ap (take n) l ∙ front back bytes n c;
        leaves = l;
      }

  pub read_after_write : (text out : List ℕ) (n : ℕ) (back : List ℕ) → write_answer page text (length out) ≡ Ok n → n ≤ length back
      → Back text n back (read_answer page (take n (write_into page text out)) (length back)) (read_into page (take n (write_into page text out)) back)
  unfolding read_answer read_into write_answer write_into
  read_after_write text out n back e h =
      let a = count_allowed (write_causes page text (length out)) (length text) n e in
      let c = count_is (write_causes page text (length out)) (length text) n e in
      let f = write_free page text (length out) a in
      let s = length_map (byte_of page) text in
      let t : take n (write_into page text out) ≡ bytes_of page text =
      ap (take n) (after_allowed (bytes_of page text) out _ a) ∙ front out (bytes_of page text) n (omega arith) in
      let w = written_readable page text (length out) (length back) a (omega arith) in
      let l : read_into page (take n (write_into page text out)) back ≡ put back 0 text =
      ap (λ (x : List ℕ). read_into page x back) t ∙ after_allowed (points_of page (bytes_of page text)) back _ w
      ∙ ap (put back 0) (text_again page text f.none) in
      record {
        counts = ap (λ (x : List ℕ). read_answer page x (length back)) t ∙ counted_allowed _ (length (bytes_of page text)) w ∙ ap Ok (s ∙ sym c);
        holds = ap (take n) l ∙ front back text n c;
        leaves = l;
      }
