-- Runs of ASCII bytes, which both passes of the reader take at once: what the helpers of src/ ensure, and that the text of such a run is
-- its bytes. No part of what the reader answers. Assumes nothing.
use Prim.Native.Nat.{ℕ, zero, suc, ◌+◌, ◌-◌, ◌≤◌, ◌<◌}
use mathlib.Core.Path.{◌≡◌, ap, ◌∙◌}
use mathlib.Core.List.{List, [], ◌∷◌}
use mathlib.Core.Bool.{true}
use native.Mathlib.Nat.{add-zero}
use native.Mathlib.Numerals.{add-one}
use native.Mathlib.Omega.{arith}
use lib.ListN.{length, take, drop}
use lib.Seq.{drop-cons}
use borrow.Author.Tests.{ltb-true}
use Rattle.base.proofs.Laws.Tests.{split, and_l, and_r}
use Rattle.utf8_table.specs.WellFormed.{one, byte_at, step_at}
use Rattle.utf8_table.proofs.Laws.ByLead.{row_one}
use Rattle.utf8_meaning.specs.Text.{after}
use Rattle.utf8_meaning.specs.Inner.Text.{from}
use Rattle.utf8_meaning.proofs.Laws.Text.{at_row, from_step}
use Rattle.utf8_meaning.specs.Inner.Ascii.{AsciiRun, is_ascii, ascii_on}

on_each : (bytes : List ℕ) (i k : ℕ) → ascii_on bytes i k ≡ true → (j : ℕ) → i ≤ j → j ≤ i + k → byte_at bytes j < 0x80
unfolding ascii_on
on_each bytes i zero t j a b = let e : i ≡ j = omega arith in rw (← e) (ltb-true _ _ t)
on_each bytes i (suc k) t j a b =
    split j (i + suc k)
    (λ h. on_each bytes i k (and_l (ascii_on bytes i k) (is_ascii bytes (i + suc k)) t) j a (omega arith))
    (λ h. let e : i + suc k ≡ j = omega arith in
    rw (← e) (ltb-true _ _ (and_r (ascii_on bytes i k) (is_ascii bytes (i + suc k)) t)))

module _ (bytes : List ℕ) (i : ℕ) where
  pub run_none : i ≤ length bytes → AsciiRun bytes i i
  run_none h = record { here = omega arith; inside = h; ascii = λ j a b. omega arith }

  module _ (r : ℕ) (s : AsciiRun bytes i r) where
    pub run_join : (q : ℕ) → AsciiRun bytes r q → AsciiRun bytes i q
    run_join q t =
        record {
          here = omega arith;
          inside = t.inside;
          ascii = λ j a b. split j r (λ h. s.ascii j a h) (λ h. t.ascii j h b);
        }

    pub run_eight : r + 8 ≤ length bytes → ascii_on bytes r 7 ≡ true → AsciiRun bytes i (r + 8)
    run_eight h t =
        run_join (r + 8)
        (record { here = omega arith; inside = h; ascii = λ j a b. on_each bytes r 7 t j a (omega arith) })

    pub run_more : r < length bytes → byte_at bytes r < 0x80 → AsciiRun bytes i (r + 1)
    run_more h k =
        record {
          here = omega arith;
          inside = omega arith;
          ascii = λ j a b. split j r (λ h. s.ascii j a h) (λ h. let e : r ≡ j = omega arith in rw (← e) k);
        }

-- an ASCII byte before a run
pub run_first : (bytes : List ℕ) (i r : ℕ) → i < length bytes → byte_at bytes i < 0x80 → AsciiRun bytes (i + 1) r → AsciiRun bytes i r
run_first bytes i r h k s = run_join bytes i (i + 1) (run_more bytes i i (run_none bytes i (omega arith)) h k) r s

module _ (bytes : List ℕ) where
  text_on : (k i : ℕ) → i + k ≤ length bytes → ((j : ℕ) → i ≤ j → j < i + k → byte_at bytes j < 0x80)
      → from bytes i ≡ after (take k (drop i bytes)) (from bytes (i + k))
  text_on zero i h a = rw (add-zero i)
  text_on (suc k) i h a =
      let e : step_at bytes i ≡ one (byte_at bytes i) =
      at_row bytes i (omega arith) ∙ row_one (byte_at bytes i) _ _ _ (a i (omega arith) (omega arith)) in
      let z : i + suc k ≡ i + 1 + k = omega arith in
      from_step bytes i (λ y. let x : 1 ≡ 0 = rw e at y in omega arith)
      ∙ rw (e, drop-cons bytes i 0 (omega arith), ← (add-one i), z)
      (ap (after (byte_at bytes i ∷ [])) (text_on k (i + 1) (omega arith) (λ j b c. a j (omega arith) (omega arith))))

  -- the text of ASCII bytes is these bytes
  pub run_text : (i r : ℕ) → AsciiRun bytes i r → from bytes i ≡ after (take (r - i) (drop i bytes)) (from bytes r)
  run_text i r s =
      let e : i + (r - i) ≡ r = omega arith in
      rw e at (text_on (r - i) i (omega arith) (λ j a b. s.ascii j a (omega arith)))
