-- The first loop, which counts: what holds when i bytes and n code points are passed. Assumes nothing.
use Rattle.std.specs.Prelude.{Ok, Err}
use Prim.Native.Nat.{ℕ, ◌+◌, ◌-◌, ◌≤◌, ◌<◌}
use mathlib.Core.Path.{◌≡◌, sym, ap, ◌∙◌}
use mathlib.Core.List.{List, [], ◌∷◌}
use mathlib.Core.Bool.{true, false}
use native.Mathlib.Omega.{arith}
use lib.ListN.{length, take, drop, length-append}
use Rattle.utf8_table.specs.WellFormed.{Step, no_row, byte_at, step_at}
use Rattle.utf8_table.specs.Inner.ByLead.{leads_two, leads_three, leads_four}
use Rattle.utf8_table.proofs.Laws.Complete.{got}
use Rattle.utf8_meaning.specs.Text.{Reading, after, text_of, fault_at}
use Rattle.utf8_meaning.specs.Inner.Text.{from}
use Rattle.utf8_meaning.proofs.Laws.Text.{past, from_start, from_end, is_whole, is_broken}
use Rattle.utf8_meaning.specs.Inner.Ascii.{AsciiRun}
use Rattle.utf8_meaning.proofs.Laws.Ascii.{run_first, run_text}
use Rattle.utf8_meaning.specs.Inner.Answer.{measured}
use Rattle.utf8_meaning.proofs.Laws.Places.{yes, no, at_two, at_three, at_four}
use Rattle.utf8_meaning.proofs.Laws.Going.{goes_on, fits, run_length}

pub record Passed (bytes : List ℕ) (i n : ℕ) : Type 0 where
  pub here : i ≤ length bytes
  pub few : n ≤ i
  pub stops : (from bytes i).stop ≡ fault_at bytes
  pub counts : n + length (from bytes i).text ≡ length (text_of bytes)

module _ (bytes : List ℕ) where
  pub passed_start : Passed bytes 0 0
  passed_start =
      record {
        here = omega arith;
        few = omega arith;
        stops = ap (λ (r : Reading). r.stop) (from_start bytes);
        counts = omega (arith, ap (λ (r : Reading). length r.text) (from_start bytes));
      }

  module _ (i n : ℕ) (p : Passed bytes i n) where
    -- the code points ps stand between i and j
    passed_more : (ps : List ℕ) (j : ℕ) → from bytes i ≡ after ps (from bytes j) → j ≤ length bytes → i + length ps ≤ j
        → Passed bytes j (n + length ps)
    passed_more ps j e h k =
        record {
          here = h;
          few = omega arith;
          stops = sym (ap (λ (r : Reading). r.stop) e) ∙ p.stops;
          counts =
              omega
              (arith, p.counts, ap (λ (r : Reading). length r.text) e, length-append ps (from bytes j).text);
        }

    passed_step : (k q : ℕ) → step_at bytes i ≡ got k q → 1 ≤ k → Passed bytes (i + k) (n + 1)
    passed_step k q e h = passed_more (q ∷ []) (i + k) (goes_on bytes i k q e h) (fits bytes i k q e h) (omega arith)

    pub passed_ascii : (j : ℕ) → i < length bytes → byte_at bytes i < 0x80 → AsciiRun bytes (i + 1) j → Passed bytes j (n + (j - i))
    passed_ascii j h k s =
        let r = run_first bytes i j h k s in
        let l = run_length bytes i j r in
        rw l at (passed_more (take (j - i) (drop i bytes)) j (run_text bytes i j r) r.inside (omega (arith, l, r.here)))

    passed_fault : i < length bytes → step_at bytes i ≡ no_row → Err i ≡ measured bytes
    unfolding measured
    passed_fault h e =
        let s : i ≡ fault_at bytes = sym (ap (λ (r : Reading). r.stop) (from_end bytes i (ap (λ (s : Step). s.size) e))) ∙ p.stops in
        rw (is_broken bytes (omega arith)) (ap Err s)

    module _ (h : i < length bytes) where
      pub passed_two : 0x80 ≤ byte_at bytes i → byte_at bytes i < 0xE0 → leads_two (byte_at bytes i) (byte_at bytes (i + 1)) ≡ true
          → Passed bytes (i + 2) (n + 1)
      passed_two k l t = passed_step 2 _ (yes _ (at_two bytes i h k l) t) (omega arith)

      pub fault_two : 0x80 ≤ byte_at bytes i → byte_at bytes i < 0xE0 → leads_two (byte_at bytes i) (byte_at bytes (i + 1)) ≡ false
          → Err i ≡ measured bytes
      fault_two k l t = passed_fault h (no _ _ (at_two bytes i h k l) t)

      pub passed_three : 0xE0 ≤ byte_at bytes i → byte_at bytes i < 0xF0
          → leads_three (byte_at bytes i) (byte_at bytes (i + 1)) (byte_at bytes (i + 2)) ≡ true → Passed bytes (i + 3) (n + 1)
      passed_three k l t = passed_step 3 _ (yes _ (at_three bytes i h k l) t) (omega arith)

      pub fault_three : 0xE0 ≤ byte_at bytes i → byte_at bytes i < 0xF0
          → leads_three (byte_at bytes i) (byte_at bytes (i + 1)) (byte_at bytes (i + 2)) ≡ false → Err i ≡ measured bytes
      fault_three k l t = passed_fault h (no _ _ (at_three bytes i h k l) t)

      pub passed_four : 0xF0 ≤ byte_at bytes i
          → leads_four (byte_at bytes i) (byte_at bytes (i + 1)) (byte_at bytes (i + 2)) (byte_at bytes (i + 3)) ≡ true
          → Passed bytes (i + 4) (n + 1)
      passed_four k t = passed_step 4 _ (yes _ (at_four bytes i h k) t) (omega arith)

      pub fault_four : 0xF0 ≤ byte_at bytes i
          → leads_four (byte_at bytes i) (byte_at bytes (i + 1)) (byte_at bytes (i + 2)) (byte_at bytes (i + 3)) ≡ false
          → Err i ≡ measured bytes
      fault_four k t = passed_fault h (no _ _ (at_four bytes i h k) t)

    pub passed_end : length bytes ≤ i → Ok n ≡ measured bytes
    unfolding measured
    passed_end h =
        let e = from_end bytes i (past bytes i h) in
        let s : i ≡ fault_at bytes = sym (ap (λ (r : Reading). r.stop) e) ∙ p.stops in
        let c : n ≡ length (text_of bytes) = omega (arith, p.counts, ap (λ (r : Reading). length r.text) e) in
        rw (is_whole bytes (omega arith)) (ap Ok c)
