-- A count under way: before the character at i its state is that after i characters, and no larger than i characters can make it.
-- Assumes nothing.
use Prim.Native.Nat.{ℕ, suc, ◌+◌, ◌≤◌, ◌<◌}
use mathlib.Core.Path.{◌≡◌, sym, ap, ◌∙◌}
use native.Mathlib.Numerals.{add-one}
use native.Mathlib.Omega.{arith}

pub record Upto {S : Type 0} (after : ℕ → S) (Within : ℕ → S → Type 0) (n i : ℕ) (s : S) : Type 0 where
  pub below : i ≤ n
  pub state : s ≡ after i
  pub within : Within i s

module _ {S : Type 0} (after : ℕ → S) (Within : ℕ → S → Type 0) (n : ℕ) (all : (j : ℕ) → j ≤ n → Within j (after j)) where
  upto : (i : ℕ) (s : S) → i ≤ n → s ≡ after i → Upto after Within n i s
  upto i s h e = record { below = h; state = e; within = rw e (all i h) }

  pub upto_start : (s : S) → s ≡ after 0 → Upto after Within n 0 s
  upto_start s e = upto 0 s (omega arith) e

  -- one character more
  pub upto_more : (i : ℕ) (step : S → S) (s t : S) → after (suc i) ≡ step (after i) → Upto after Within n i s → i < n → t ≡ step s
      → Upto after Within n (i + 1) t
  upto_more i step s t e g h f = upto (i + 1) t (omega arith) (f ∙ ap step g.state ∙ sym e ∙ ap after (sym (add-one i)))

module _ {S : Type 0} (after : ℕ → S) (Within : ℕ → S → Type 0) (n : ℕ) where
  -- every character was counted
  pub upto_end : (i : ℕ) (s : S) → Upto after Within n i s → n ≤ i → s ≡ after n
  upto_end i s g h =
      let e : i ≡ n = omega (arith, g.below) in
      g.state ∙ ap after e
