-- Laws of Answer: one for each way in which `write_utf8` returns (`over_points`, `not_scalar_lem`, `no_room_lem`, `writes`), and what an accepted call has
-- (`accepted_free`). Assumes nothing.
use Rattle.std.specs.Prelude.{Result, Ok}
use Prim.Native.Nat.{ℕ, ◌≤◌, ◌<◌}
use mathlib.Core.Path.{◌≡◌, refl, sym, ap, ◌∙◌}
use mathlib.Core.List.{List, [], ◌∷◌}
use mathlib.Core.Bool.{true, false}
use native.Mathlib.Omega.{arith}
use lib.ListN.{length}
use lib.Dec.{ltb}
use borrow.Author.Tests.{lt-ltb, le-ltb, ltb-false}
use Rattle.base.specs.declared.refusals.Cause.{Cause}
use Rattle.base.specs.declared.Refusal.{Refusal}
use Rattle.base.specs.Causes.{refused_at, given, first_of}
use Rattle.base.specs.Counted.{count_unless}
use Rattle.base.specs.Limits.{LONGEST_TEXT}
use Rattle.base.specs.Put.{put}
use Rattle.base.specs.declared.refusals.Cause.TheVariants.{TooLong, NoRoom, NotScalar}
use Rattle.base.proofs.Laws.Causes.{first_given, first_passed, first_free, given_free}
use Rattle.base.proofs.Laws.Counted.{counted_allowed, counted_at, count_allowed, count_is, after_allowed, after_refused}
use Rattle.utf8_table.specs.Encoding.{encode_all, scalars}
use Rattle.utf8_write_meaning.specs.Answer.{ill_at, too_long, not_scalar, no_room, causes, answer, out_after}
use Rattle.utf8_write_meaning.proofs.Laws.Encoded.{none_ill, all_good, some_ill}

-- the answer is a, and the output is left as new
abbrev pub Ends : List ℕ → List ℕ → Result ℕ Refusal → List ℕ → Type 0
Ends text out a new = (a ≡ answer text (length out)) × (new ≡ out_after text out)

module _ (text out : List ℕ) where
  refuses : (cause : Cause) (place : ℕ) → causes text (length out) ≡ refused_at cause place → Ends text out (refused_at cause place) out
  unfolding answer out_after refused_at
  refuses cause place e = (counted_at _ _ cause place e, sym (after_refused (encode_all text) out _ _ e))

  pub over_points : LONGEST_TEXT < length text → Ends text out (refused_at TooLong 0) out
  unfolding causes too_long
  over_points h = refuses TooLong 0 (first_given _ _ TooLong 0 (lt-ltb LONGEST_TEXT (length text) h))

  module _ (h : length text ≤ LONGEST_TEXT) where
    past_long : causes text (length out) ≡ first_of (not_scalar text ∷ no_room text (length out) ∷ [])
    unfolding causes too_long
    past_long = first_passed _ _ TooLong 0 (le-ltb LONGEST_TEXT (length text) h)

    pub not_scalar_lem : scalars text ≡ false → Ends text out (refused_at NotScalar (ill_at text)) out
    unfolding not_scalar
    not_scalar_lem s =
        refuses NotScalar (ill_at text)
        (past_long ∙ first_given _ _ NotScalar (ill_at text) (lt-ltb (ill_at text) (length text) (some_ill text s)))

    module _ (s : scalars text ≡ true) where
      past_ill : causes text (length out) ≡ first_of (no_room text (length out) ∷ [])
      unfolding not_scalar
      past_ill = past_long ∙ first_passed _ _ NotScalar (ill_at text) (le-ltb (ill_at text) (length text) (omega (arith, all_good text s)))

      pub no_room_lem : length out < length (encode_all text) → Ends text out (refused_at NoRoom 0) out
      unfolding no_room
      no_room_lem k = refuses NoRoom 0 (past_ill ∙ first_given [] _ NoRoom 0 (lt-ltb (length out) (length (encode_all text)) k))

      pub writes : length (encode_all text) ≤ length out → Ends text out (Ok (length (encode_all text))) (put out 0 (encode_all text))
      unfolding no_room answer out_after first_of
      writes k =
          let f = past_ill ∙ first_passed [] _ NoRoom 0 (le-ltb (length out) (length (encode_all text)) k) in
          (sym (counted_allowed _ _ f), sym (after_allowed (encode_all text) out _ f))

-- what an accepted call has
pub record Accepted (text : List ℕ) (room n : ℕ) : Type 0 where
  pub short : length text ≤ LONGEST_TEXT
  pub scalar : scalars text ≡ true
  pub count : n ≡ length (encode_all text)
  pub fits : n ≤ room

pub accepted : (text : List ℕ) (room n : ℕ) → answer text room ≡ Ok n → Accepted text room n
unfolding answer causes too_long not_scalar no_room
accepted text room n e =
    let a = first_free (given (ltb LONGEST_TEXT (length text)) TooLong 0) _ (count_allowed (causes text room) (length (encode_all text)) n e) in
    let b = first_free (given (ltb (ill_at text) (length text)) NotScalar (ill_at text)) _ a.1 in
    let c = first_free (given (ltb room (length (encode_all text))) NoRoom 0) [] b.1 in
    let k = count_is (causes text room) (length (encode_all text)) n e in
    let r = ltb-false room (length (encode_all text)) (given_free _ NoRoom 0 c.0) in
    record {
      short = ltb-false LONGEST_TEXT (length text) (given_free _ TooLong 0 a.0);
      scalar = none_ill text (ltb-false (ill_at text) (length text) (given_free _ NotScalar (ill_at text) b.0));
      count = k;
      fits = omega arith;
    }
