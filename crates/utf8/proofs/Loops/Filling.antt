-- The second loop, which writes: what holds when i bytes are passed and n places of the output are written. Assumes nothing.
use Prim.Native.Nat.{ℕ, ◌+◌, ◌-◌, ◌≤◌, ◌<◌}
use mathlib.Core.Path.{◌≡◌, refl, sym, ap, subst, ◌∙◌}
use mathlib.Core.List.{List, [], ◌∷◌, ◌++◌, append_assoc, append-nil}
use mathlib.Core.Bool.{true}
use native.Mathlib.Numerals.{add-one}
use native.Mathlib.Omega.{arith}
use lib.ListN.{length, take, drop, set, length-set, length-append, take-append-drop}
use lib.Seq.{take-suc-set, drop-set-lt, drop-drop, length-take-le, take-length, take-paste}
use Rattle.base.specs.Put.{put}
use Rattle.base.proofs.Laws.Put.{put_length, put_back, put_first, put_all}
use Rattle.utf8_table.specs.WellFormed.{point_of_two, point_of_three, point_of_four, byte_at, step_at}
use Rattle.utf8_table.proofs.Laws.Complete.{got}
use Rattle.utf8_meaning.specs.Text.{Reading, after, text_of, well_formed}
use Rattle.utf8_meaning.specs.Inner.Text.{from}
use Rattle.utf8_meaning.proofs.Laws.Text.{past, from_start, from_end, whole_is}
use Rattle.utf8_meaning.specs.Inner.Ascii.{AsciiRun}
use Rattle.utf8_meaning.proofs.Laws.Ascii.{run_text}
use Rattle.utf8_meaning.proofs.Laws.Places.{at_one, some_two, some_three, some_four}
use Rattle.utf8_meaning.proofs.Laws.Going.{goes_on, fits, run_length}

pub record Filling (bytes old out : List ℕ) (i n : ℕ) : Type 0 where
  pub here : i ≤ length bytes
  pub stops : (from bytes i).stop ≡ length bytes
  pub same : length out ≡ length old
  pub room : n + length (from bytes i).text ≤ length old
  pub front : take n out ++ (from bytes i).text ≡ text_of bytes
  pub back : drop n out ≡ drop n old

-- one code point of k bytes more
pub record Filled (bytes old out : List ℕ) (i n k p : ℕ) : Type 0 where
  pub fits : i + k ≤ length bytes
  pub room : n < length out
  pub next : Filling bytes old (set out n p) (i + k) (n + 1)

module _ (bytes old : List ℕ) where
  pub filling_start : well_formed bytes ≡ true → length (text_of bytes) ≤ length old → Filling bytes old old 0 0
  filling_start w h =
      record {
        here = omega arith;
        stops = ap (λ (r : Reading). r.stop) (from_start bytes) ∙ whole_is bytes w;
        same = refl;
        room = omega (arith, ap (λ (r : Reading). length r.text) (from_start bytes));
        front = ap (λ (r : Reading). r.text) (from_start bytes);
        back = refl;
      }

  module _ (out : List ℕ) (i n : ℕ) (f : Filling bytes old out i n) where
    -- before the end something stands, and there is room for its code point
    filling_some : i < length bytes → (step_at bytes i).size ≡ 0 → ⊥
    filling_some h e =
        let s : i ≡ length bytes = sym (ap (λ (r : Reading). r.stop) (from_end bytes i e)) ∙ f.stops in
        omega arith

    -- the code points ps stand between i and j, and new holds them after the first n
    filling_more : (ps new : List ℕ) (j : ℕ) → from bytes i ≡ after ps (from bytes j) → j ≤ length bytes → length new ≡ length out
        → take (n + length ps) new ≡ take n out ++ ps → drop (n + length ps) new ≡ drop (n + length ps) out
        → Filling bytes old new j (n + length ps)
    filling_more ps new j e h l t d =
        record {
          here = h;
          stops = sym (ap (λ (r : Reading). r.stop) e) ∙ f.stops;
          same = l ∙ f.same;
          room = omega (arith, f.room, ap (λ (r : Reading). length r.text) e, length-append ps (from bytes j).text);
          front =
              ap (λ (x : List ℕ). x ++ (from bytes j).text) t
              ∙ append_assoc (take n out) ps (from bytes j).text
              ∙ ap (λ (x : List ℕ). take n out ++ x) (sym (ap (λ (r : Reading). r.text) e))
              ∙ f.front;
          back = d ∙ sym (drop-drop (length ps) n out) ∙ ap (drop (length ps)) f.back ∙ drop-drop (length ps) n old;
        }

    filling_room : (k p : ℕ) → step_at bytes i ≡ got k p → 1 ≤ k → n < length out
    filling_room k p e h =
        omega (arith, f.same, f.room, ap (λ (r : Reading). length r.text) (goes_on bytes i k p e h))

    filling_step : (k p : ℕ) → step_at bytes i ≡ got k p → 1 ≤ k → Filled bytes old out i n k p
    filling_step k p e h =
        record {
          fits = fits bytes i k p e h;
          room = filling_room k p e h;
          next =
              filling_more (p ∷ []) (set out n p) (i + k) (goes_on bytes i k p e h) (fits bytes i k p e h) (length-set out n p)
              (ap (λ (m : ℕ). take m (set out n p)) (add-one n) ∙ take-suc-set out n p (filling_room k p e h))
              (drop-set-lt (n + 1) out n p (omega arith));
        }

    module _ (h : i < length bytes) where
      pub filling_one : byte_at bytes i < 0x80 → Filled bytes old out i n 1 (byte_at bytes i)
      filling_one k = filling_step 1 _ (at_one bytes i h k) (omega arith)

      pub filling_two : 0x80 ≤ byte_at bytes i → byte_at bytes i < 0xE0
          → Filled bytes old out i n 2 (point_of_two (byte_at bytes i) (byte_at bytes (i + 1)))
      filling_two k l = filling_step 2 _ (some_two bytes i h (filling_some h) k l) (omega arith)

      pub filling_three : 0xE0 ≤ byte_at bytes i → byte_at bytes i < 0xF0
          → Filled bytes old out i n 3 (point_of_three (byte_at bytes i) (byte_at bytes (i + 1)) (byte_at bytes (i + 2)))
      filling_three k l = filling_step 3 _ (some_three bytes i h (filling_some h) k l) (omega arith)

      pub filling_four : 0xF0 ≤ byte_at bytes i
          → Filled bytes old out i n 4
          (point_of_four (byte_at bytes i) (byte_at bytes (i + 1)) (byte_at bytes (i + 2)) (byte_at bytes (i + 3)))
      filling_four k = filling_step 4 _ (some_four bytes i h (filling_some h) k) (omega arith)

    module _ (j : ℕ) (r : AsciiRun bytes i j) where
      pub filling_run_room : n + length (take (j - i) (drop i bytes)) ≤ length out
      filling_run_room =
          omega
          (arith, f.same, f.room, ap (λ (r : Reading). length r.text) (run_text bytes i j r), length-append (take (j - i) (drop i bytes)) (from bytes j).text)

      pub filling_run :
          Filling bytes old (put out n (take (j - i) (drop i bytes))) j (n + (j - i))
      filling_run =
          let s = take (j - i) (drop i bytes) in
          let e : n + length (take (j - i) (drop i bytes)) ≡ n + (j - i) = ap (λ (k : ℕ). n + k) (run_length bytes i j r) in
          subst (λ (m : ℕ). Filling bytes old (put out n s) j m) e
          (filling_more s (put out n s) j (run_text bytes i j r) r.inside
          (put_length out n s filling_run_room)
          (ap (take (n + length s)) (put_all out n s) ∙ take-paste out n s (length s) (omega (arith, filling_run_room)) (omega arith) ∙ ap (λ (x : List ℕ). take n out ++ x) (take-length s))
          (put_back out n s filling_run_room))

    pub filling_end : length bytes ≤ i → out ≡ put old 0 (text_of bytes)
    filling_end h =
        let e = from_end bytes i (past bytes i h) in
        let t : take n out ≡ text_of bytes =
        sym (append-nil (take n out)) ∙ ap (λ (r : Reading). take n out ++ r.text) (sym e) ∙ f.front in
        let l : n ≡ length (text_of bytes) = sym (length-take-le n out (omega (arith, f.same, f.room))) ∙ ap length t in
        sym (take-append-drop n out)
        ∙ ap (λ (a : List ℕ). a ++ drop n out) t
        ∙ ap (λ (b : List ℕ). text_of bytes ++ b) f.back
        ∙ ap (λ (k : ℕ). text_of bytes ++ drop k old) l
        ∙ sym (put_first old (text_of bytes))
