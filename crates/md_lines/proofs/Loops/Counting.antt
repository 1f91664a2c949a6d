-- The sum that counts the ends of lines, and the lines by their ends: as many as ends, and one more where the last byte is none.
-- Assumes nothing.
use Rattle.std.specs.Prelude.{Option, Some, None}
use Rattle.std.specs.List.{slice_get}
use Rattle.std.proofs.lemmas.Option.{none-some, get_or_from_slice_get, slice_get-get_or}
use Prim.Native.Nat.{ℕ, suc, ◌+◌, ◌-◌, ◌≤◌, ◌<◌}
use mathlib.Core.Path.{◌≡◌, refl, sym, ap, ◌∙◌}
use mathlib.Core.Bool.{Bool, true, false, not}
use mathlib.Core.List.{List, [], ◌∷◌, ◌++◌}
use mir.Val.{bool_byte}
use native.Mathlib.Numerals.{add-one}
use native.Mathlib.Omega.{arith}
use lib.Dec.{eqb}
use lib.ListN.{length, drop, get_or, drop_of_length-le}
use lib.Seq.{drop-cons}
use borrow.Author.Tests.{eq-eqb, ne_eqb}
use Rattle.base.specs.Limits.{NEWLINE}
use Rattle.base.specs.Numbers.{bump}
use Rattle.base.proofs.Laws.Tests.{by_bool}
use Rattle.md_lines_meaning.specs.Lines.{with_byte, lines_of}
use Rattle.md_lines_meaning.specs.Inner.Lines.{ends_of}
use Rattle.md_lines_meaning.proofs.Laws.Lines.{ended_lines, more_lines, lines_none, lines_cons}

ends_none : ends_of [] ≡ 0
unfolding ends_of
ends_none = refl

ends_cons : (b : ℕ) (bs : List ℕ) → ends_of (b ∷ bs) ≡ bump (eqb b NEWLINE) + ends_of bs
unfolding ends_of
ends_cons b bs = refl

bump_few : (b : Bool) → bump b ≤ 1
bump_few true = omega arith
bump_few false = omega arith

ends_few : (bytes : List ℕ) → ends_of bytes ≤ length bytes
ends_few [] = rw ends_none (omega arith)
ends_few (b ∷ bs) = rw (ends_cons b bs) (omega (arith, ends_few bs, bump_few (eqb b NEWLINE)))

ends_both : (xs ys : List ℕ) → ends_of (xs ++ ys) ≡ ends_of xs + ends_of ys
ends_both [] ys = let e : ends_of ([] ++ ys) ≡ ends_of ys = refl in omega (arith, e, ends_none)
ends_both (x ∷ xs) ys =
    let e : ends_of ((x ∷ xs) ++ ys) ≡ bump (eqb x NEWLINE) + ends_of (xs ++ ys) = ends_cons x (xs ++ ys) in
    omega (arith, e, ends_cons x xs, ends_both xs ys)

-- the ends of a part, and those of the rest
pub ends_parts : (bytes part rest : List ℕ) → bytes ≡ part ++ rest → ends_of bytes ≡ ends_of part + ends_of rest
ends_parts bytes part rest e = ap ends_of e ∙ ends_both part rest

-- a number of ends that was counted is as small as the bytes are few
pub ends_below : (bytes : List ℕ) (n most : ℕ) → n ≡ ends_of bytes → length bytes ≤ most → n ≤ most
ends_below bytes n most e h = omega (arith, e, h, ends_few bytes)

-- a test as a byte is a number that says it
pub byte_bump : (b : Bool) (k : ℕ) → k ≡ bool_byte b → (k ≡ bump b) × (k ≤ 1)
byte_bump true k e = (e, omega (arith, e))
byte_bump false k e = (e, omega (arith, e))

-- n ends stand before i
pub record Counting (bytes : List ℕ) (n i : ℕ) : Type 0 where
  pub whole : n + ends_of (drop i bytes) ≡ ends_of bytes

module _ (bytes : List ℕ) where
  pub counting_start : Counting bytes 0 0
  counting_start = record { whole = omega arith }

  module _ (n i : ℕ) (c : Counting bytes n i) where
    pub counting_more : (k : ℕ) → i < length bytes → k ≡ bump (eqb (get_or bytes i 0) NEWLINE) → Counting bytes (n + k) (i + 1)
    counting_more k h e =
        let d : drop i bytes ≡ get_or bytes i 0 ∷ drop (i + 1) bytes =
        drop-cons bytes i 0 h ∙ ap (λ (m : ℕ). get_or bytes i 0 ∷ drop m bytes) (sym (add-one i)) in
        let s : ends_of (drop i bytes) ≡ bump (eqb (get_or bytes i 0) NEWLINE) + ends_of (drop (i + 1) bytes) =
        ap ends_of d ∙ ends_cons (get_or bytes i 0) (drop (i + 1) bytes) in
        record { whole = omega (arith, c.whole, s, e) }

    pub counting_few : n ≤ length bytes
    counting_few = omega (arith, c.whole, ends_few bytes)

    pub counting_end : length bytes ≤ i → n ≡ ends_of bytes
    counting_end h =
        let s : ends_of (drop i bytes) ≡ 0 = ap ends_of (drop_of_length-le bytes {i = i} h) ∙ ends_none in
        omega (arith, c.whole, s)

-- the last byte
abbrev last : List ℕ → ℕ
last bytes = get_or bytes (length bytes - 1) 0

last_more : (b c : ℕ) (cs : List ℕ) → last (b ∷ c ∷ cs) ≡ last (c ∷ cs)
last_more b c cs =
    let e : length (b ∷ c ∷ cs) - 1 ≡ suc (length (c ∷ cs) - 1) = omega arith in
    rw e

joined_same : (b : ℕ) (ls : List (List ℕ)) → 1 ≤ length ls → length (with_byte b ls) ≡ length ls
joined_same b [] h = omega arith
joined_same b (l ∷ ls) h = refl

some_lines : (b : ℕ) (bs : List ℕ) → 1 ≤ length (lines_of (b ∷ bs))
some_lines b bs = rw (lines_cons b bs) (omega arith)

lines_ends : (b : ℕ) (bs : List ℕ) → length (lines_of (b ∷ bs)) ≡ ends_of (b ∷ bs) + bump (not (eqb (last (b ∷ bs)) NEWLINE))
lines_ends b [] =
    by_bool (eqb b NEWLINE)
    (λ e. rw (ended_lines b [] e, lines_none, ends_cons b [], ends_none, e))
    (λ e. rw (more_lines b [] e, lines_none, ends_cons b [], ends_none, e))
lines_ends b (c ∷ cs) =
    by_bool (eqb b NEWLINE)
    (λ e. rw (ended_lines b (c ∷ cs) e, ends_cons b (c ∷ cs), e, last_more b c cs) (omega (arith, lines_ends c cs)))
    (λ e. rw (more_lines b (c ∷ cs) e, joined_same b (lines_of (c ∷ cs)) (some_lines c cs), ends_cons b (c ∷ cs), e, last_more b c cs) (omega (arith, lines_ends c cs)))

-- the last byte, if there is one
abbrev last_of : List ℕ → Option ℕ
last_of bytes = slice_get bytes (length bytes - 1)

pub none_counted : (bytes : List ℕ) → last_of bytes ≡ None → 0 ≡ length (lines_of bytes)
none_counted [] e = rw lines_none
none_counted (b ∷ bs) e = absurd (none-some _ (sym e ∙ slice_get-get_or (b ∷ bs) (length (b ∷ bs) - 1) 0 (omega arith)))

module _ (n x : ℕ) where
  pub last_ends : (bytes : List ℕ) → n ≡ ends_of bytes → last_of bytes ≡ Some x → x ≡ NEWLINE → n ≡ length (lines_of bytes)
  last_ends [] c l e = absurd (none-some x l)
  last_ends (b ∷ bs) c l e =
      let at_end : last (b ∷ bs) ≡ NEWLINE = get_or_from_slice_get (b ∷ bs) _ x 0 l ∙ e in
      let t : bump (not (eqb (last (b ∷ bs)) NEWLINE)) ≡ 0 = rw (eq-eqb (last (b ∷ bs)) NEWLINE at_end) in
      omega (arith, c, t, lines_ends b bs)

  pub last_open : (bytes : List ℕ) → n ≡ ends_of bytes → last_of bytes ≡ Some x → (x ≡ NEWLINE → ⊥) → n + 1 ≡ length (lines_of bytes)
  last_open [] c l e = absurd (none-some x l)
  last_open (b ∷ bs) c l e =
      let other : last (b ∷ bs) ≡ NEWLINE → ⊥ = λ h. e (sym (get_or_from_slice_get (b ∷ bs) _ x 0 l) ∙ h) in
      let t : bump (not (eqb (last (b ∷ bs)) NEWLINE)) ≡ 1 = rw (ne_eqb (last (b ∷ bs)) NEWLINE other) in
      omega (arith, c, t, lines_ends b bs)
