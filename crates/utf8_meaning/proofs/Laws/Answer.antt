-- Laws of Answer: one for each way in which `count_utf8` and `read_utf8` return, and what a caller knows of bytes that were counted
-- (`readable`), the other way round too (`readable_free`). Assumes nothing.
use Rattle.std.specs.Prelude.{Result, Ok, Err}
use Prim.Native.Nat.{ℕ, ◌≤◌, ◌<◌}
use mathlib.Core.Path.{◌≡◌, refl, sym, ap, ◌∙◌}
use mathlib.Core.List.{List, [], ◌∷◌}
use mathlib.Core.Bool.{Bool, true, false, cond, not}
use native.Mathlib.Omega.{arith}
use lib.ListN.{length}
use borrow.Author.Tests.{lt-ltb, le-ltb, ltb-false, not-false}
use Rattle.base.specs.declared.Refusal.{Refusal}
use Rattle.base.specs.Causes.{refused_at, first_of}
use Rattle.base.specs.Counted.{count_unless}
use Rattle.base.specs.Limits.{LONGEST_BYTES, LONGEST_TEXT}
use Rattle.base.specs.Put.{put}
use Rattle.base.specs.declared.refusals.Cause.TheVariants.{TooLong, IllFormed, NoRoom}
use Rattle.base.proofs.Laws.Causes.{first_given, first_passed, first_free, given_free, free_given, free_first, first_front, first_past}
use Rattle.base.proofs.Laws.Counted.{counted_allowed, counted_refused, counted_at, count_allowed, count_is, not_counted, after_allowed, after_refused}
use Rattle.utf8_meaning.specs.Inner.Readable.{Readable}
use Rattle.utf8_meaning.specs.Text.{text_of, fault_at, well_formed}
use Rattle.utf8_meaning.proofs.Laws.Text.{fault_within}
use Rattle.utf8_meaning.specs.Inner.Answer.{measured, in_bytes, unreadable, count_utf8}
use Rattle.utf8_meaning.specs.Answer.{many_bytes, ill_formed, many_points, no_room, causes, answer, out_after}

-- which of the two was picked
fault_picked : (t : Bool) (n f p : ℕ) → Err p ≡ cond t (Ok n) (Err f) → (t ≡ false) × (p ≡ f)
fault_picked true n f p e = let z : ◌≡◌ {A = ℕ} 0 1 = cc in absurd (no z)
  where
    no : ◌≡◌ {A = ℕ} 0 1 → ⊥
    no z = omega arith
fault_picked false n f p e = (refl, cc)

points_picked : (t : Bool) (n f p : ℕ) → Ok p ≡ cond t (Ok n) (Err f) → (t ≡ true) × (p ≡ n)
points_picked true n f p e = (refl, cc)
points_picked false n f p e = let z : ◌≡◌ {A = ℕ} 0 1 = cc in absurd (no z)
  where
    no : ◌≡◌ {A = ℕ} 0 1 → ⊥
    no z = omega arith

module _ (bytes : List ℕ) where
  pub fault_is : (p : ℕ) → Err p ≡ measured bytes → (well_formed bytes ≡ false) × (p ≡ fault_at bytes)
  unfolding measured
  fault_is p e = fault_picked (well_formed bytes) (length (text_of bytes)) (fault_at bytes) p e

  pub points_are : (n : ℕ) → Ok n ≡ measured bytes → (well_formed bytes ≡ true) × (n ≡ length (text_of bytes))
  unfolding measured
  points_are n e = points_picked (well_formed bytes) (length (text_of bytes)) (fault_at bytes) n e

  pub fault_small : (p : ℕ) → Err p ≡ measured bytes → p ≤ length bytes
  fault_small p e = omega (arith, (fault_is p e).1, fault_within bytes)

  -- the returns of count_utf8
  pub over_bytes : LONGEST_BYTES < length bytes → refused_at TooLong 0 ≡ count_utf8 bytes
  unfolding count_utf8 unreadable many_bytes
  over_bytes h = counted_at _ _ TooLong 0 (first_given _ _ TooLong 0 (lt-ltb LONGEST_BYTES (length bytes) h))

  module _ (h : length bytes ≤ LONGEST_BYTES) where
    past_bytes : unreadable bytes ≡ first_of (ill_formed bytes ∷ many_points bytes ∷ [])
    unfolding unreadable many_bytes
    past_bytes = first_passed _ _ TooLong 0 (le-ltb LONGEST_BYTES (length bytes) h)

    pub ill_formed_lem : (p : ℕ) → Err p ≡ measured bytes → refused_at IllFormed p ≡ count_utf8 bytes
    unfolding count_utf8 ill_formed
    ill_formed_lem p e =
        counted_at _ _ IllFormed p
        (past_bytes ∙ first_given _ _ IllFormed (fault_at bytes) (ap not (fault_is p e).0) ∙ ap (refused_at IllFormed) (sym (fault_is p e).1))

    past_form : (n : ℕ) → Ok n ≡ measured bytes → unreadable bytes ≡ first_of (many_points bytes ∷ [])
    unfolding ill_formed
    past_form n e = past_bytes ∙ first_passed _ _ IllFormed (fault_at bytes) (ap not (points_are n e).0)

    pub over_points : (n : ℕ) → Ok n ≡ measured bytes → LONGEST_TEXT < n → refused_at TooLong 0 ≡ count_utf8 bytes
    unfolding count_utf8 many_points
    over_points n e k =
        counted_at _ _ TooLong 0
        (past_form n e ∙ first_given [] _ TooLong 0 (lt-ltb LONGEST_TEXT (length (text_of bytes)) (omega (arith, (points_are n e).1))))

    pub counts : (n : ℕ) → Ok n ≡ measured bytes → n ≤ LONGEST_TEXT → Ok n ≡ count_utf8 bytes
    unfolding count_utf8 many_points first_of
    counts n e k =
        ap Ok (points_are n e).1
        ∙ sym (counted_allowed _ _ (past_form n e ∙ first_passed [] _ TooLong 0 (le-ltb LONGEST_TEXT (length (text_of bytes)) (omega (arith, (points_are n e).1)))))

module _ (bytes : List ℕ) where
  pub free_readable : many_bytes bytes ≡ Ok tt → ill_formed bytes ≡ Ok tt → many_points bytes ≡ Ok tt → Readable bytes (length (text_of bytes))
  unfolding many_bytes ill_formed many_points
  free_readable a b c =
      record {
        short = ltb-false LONGEST_BYTES (length bytes) (given_free _ TooLong 0 a);
        whole = not-false (well_formed bytes) (given_free _ IllFormed (fault_at bytes) b);
        count = refl;
        few = ltb-false LONGEST_TEXT (length (text_of bytes)) (given_free _ TooLong 0 c);
      }

  pub readable_free : (n : ℕ) → Readable bytes n → unreadable bytes ≡ Ok tt
  unfolding unreadable many_bytes ill_formed many_points first_of
  readable_free n r =
      free_first _ (ill_formed bytes ∷ many_points bytes ∷ []) (free_given _ TooLong 0 (le-ltb LONGEST_BYTES (length bytes) r.short))
      (free_first _ (many_points bytes ∷ []) (free_given _ IllFormed (fault_at bytes) (ap not r.whole))
      (free_first _ [] (free_given _ TooLong 0 (le-ltb LONGEST_TEXT (length (text_of bytes)) (omega (arith, r.few, r.count)))) refl))

  pub counted_free : (n : ℕ) → count_utf8 bytes ≡ Ok n → unreadable bytes ≡ Ok tt
  unfolding count_utf8
  counted_free n e = count_allowed (unreadable bytes) (length (text_of bytes)) n e

  pub readable : (n : ℕ) → count_utf8 bytes ≡ Ok n → Readable bytes n
  unfolding count_utf8 unreadable
  readable n e =
      let a = first_free (many_bytes bytes) _ (counted_free n e) in
      let b = first_free (ill_formed bytes) _ a.1 in
      let c = first_free (many_points bytes) _ b.1 in
      rw (← count_is (unreadable bytes) (length (text_of bytes)) n e) at (free_readable a.0 b.0 c.0)

-- ---- the returns of read_utf8: the answer is a, and the output is left as new
abbrev pub Ends : List ℕ → List ℕ → Result ℕ Refusal → List ℕ → Type 0
Ends bytes out a new = (a ≡ answer bytes (length out)) × (new ≡ out_after bytes out)

module _ (bytes out : List ℕ) where
  pub refuses : (r : Refusal) → count_utf8 bytes ≡ Err r → Ends bytes out (Err r) out
  unfolding count_utf8 unreadable causes answer out_after
  refuses r e =
      let f = first_front (in_bytes bytes) (no_room bytes (length out) ∷ []) r (not_counted (unreadable bytes) (length (text_of bytes)) r e) in
      (sym (counted_refused _ _ r f), sym (after_refused (text_of bytes) out _ r f))

  module _ (n : ℕ) (e : count_utf8 bytes ≡ Ok n) where
    left_over : causes bytes (length out) ≡ first_of (no_room bytes (length out) ∷ [])
    unfolding unreadable causes
    left_over = first_past (in_bytes bytes) (no_room bytes (length out) ∷ []) (counted_free bytes n e)

    long : n ≡ length (text_of bytes)
    long = (readable bytes n e).count

    pub no_room_lem : length out < n → Ends bytes out (refused_at NoRoom 0) out
    unfolding no_room answer out_after refused_at
    no_room_lem h =
        let f = left_over ∙ first_given [] _ NoRoom 0 (lt-ltb (length out) (length (text_of bytes)) (omega (arith, long))) in
        (counted_at _ _ NoRoom 0 f, sym (after_refused (text_of bytes) out _ _ f))

    pub reads : n ≤ length out → Ends bytes out (Ok n) (put out 0 (text_of bytes))
    unfolding no_room answer out_after first_of
    reads h =
        let f = left_over ∙ first_passed [] _ NoRoom 0 (le-ltb (length out) (length (text_of bytes)) (omega (arith, long))) in
        (ap Ok long ∙ sym (counted_allowed _ _ f), sym (after_allowed (text_of bytes) out _ f))
