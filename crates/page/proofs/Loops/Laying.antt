-- The code points of the first b bytes are laid out (`Laying`): its start, its step and its end. Assumes nothing.
use Prim.Native.Nat.{ℕ, ◌+◌, ◌≤◌, ◌<◌}
use mathlib.Core.Path.{◌≡◌, ◌∙◌}
use mathlib.Core.List.{List}
use native.Mathlib.Omega.{arith}
use lib.ListN.{length, get_or, set, replicate, length-set, length-replicate}
use lib.Seq.{get_or-set_same, get_or-set_other}
use Rattle.base.proofs.Laws.Tests.{split}
use Rattle.page_meaning.specs.Page.{BYTES, point_of}
use Rattle.page_meaning.specs.Inner.Tables.{Points}

pub record Laying (page points : List ℕ) (b : ℕ) : Type 0 where
  pub size : length points ≡ BYTES
  pub below : b ≤ BYTES
  pub laid : (c : ℕ) → c < b → get_or points c 0 ≡ point_of page c

module _ (page points : List ℕ) where
  pub laying_start : points ≡ replicate 256 0 → Laying page points 0
  laying_start e = record { size = rw e (length-replicate {A = ℕ} 256 0); below = omega arith; laid = λ c h. absurd (omega arith) }

  pub laying_more : (b : ℕ) → Laying page points b → b < BYTES → (p : ℕ) → p ≡ point_of page b → Laying page (set points b p) (b + 1)
  laying_more b g h p e =
      record {
        size = length-set points b p ∙ g.size;
        below = omega arith;
        laid = λ c l. split c b
            (λ k. get_or-set_other points b c p 0 (λ z. omega arith) ∙ g.laid c k)
            (λ k. let z : c ≡ b = omega arith in rw z (get_or-set_same points b p 0 (omega (arith, g.size)) ∙ e));
      }

  pub laying_end : (b : ℕ) → Laying page points b → BYTES ≤ b → Points page points
  laying_end b g h c l = g.laid c (omega arith)
