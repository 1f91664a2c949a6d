-- The loop that looks whether a text has scalar values only: what it found, with what is left, is all there is. Assumes nothing.
use Prim.Native.Nat.{ℕ, ◌+◌, ◌≤◌, ◌<◌}
use mathlib.Core.Path.{◌≡◌, refl, sym, ap, ◌∙◌}
use mathlib.Core.Bool.{Bool, true, false, ◌&&◌}
use mathlib.Core.List.{List}
use native.Mathlib.Omega.{arith}
use lib.ListN.{length, get_or, drop, drop_of_length-le}
use Rattle.base.specs.Tests.{scalar}
use Rattle.utf8_table.specs.Encoding.{scalars}
use Rattle.utf8_write_meaning.proofs.Laws.Encoded.{scalars_next}

pub record Checking (text : List ℕ) (good : Bool) (i : ℕ) : Type 0 where
  pub here : i ≤ length text
  pub all : (good && scalars (drop i text)) ≡ scalars text

and_assoc : (a b c : Bool) → (a && (b && c)) ≡ ((a && b) && c)
and_assoc true b c = refl
and_assoc false b c = refl

and_true : (a : Bool) → (a && true) ≡ a
and_true true = refl
and_true false = refl

module _ (text : List ℕ) where
  pub checking_start : Checking text true 0
  checking_start = record { here = omega arith; all = refl }

  pub checking_more : {good : Bool} {i : ℕ} → Checking text good i → i < length text → (b : Bool) → b ≡ scalar (get_or text i 0)
      → Checking text (good && b) (i + 1)
  checking_more {good} {i} g h b e =
      record {
        here = omega arith;
        all =
            sym (and_assoc good b (scalars (drop (i + 1) text)))
            ∙ rw e (ap (λ (z : Bool). good && z) (sym (scalars_next text i h)))
            ∙ g.all;
      }

  pub checking_end : {good : Bool} {i : ℕ} → Checking text good i → length text ≤ i → good ≡ scalars text
  unfolding scalars
  checking_end {good} g h = sym (and_true good) ∙ (rw (drop_of_length-le text h) at g.all)
