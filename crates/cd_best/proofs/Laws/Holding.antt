-- What holds of every match holds of what stays: if each kept record has P of itself and its best score (`Holds`), so it has after one more match
-- that has P (`keep_holds`).
-- Assumes nothing.
use Prim.Native.Nat.{ℕ, zero, suc, ◌<◌}
use mathlib.Core.Path.{◌≡◌, refl, ◌∙◌}
use mathlib.Core.Bool.{Bool, true, false}
use native.Mathlib.Omega.{arith}
use lib.ListN.{get_or, set, replicate, length-set, length-replicate}
use lib.Seq.{get_or-set_same, get_or-set_other}
use lib.Dec.{eqb}
use lib.Ieee.{Float, of_bits, binary32, le}
use borrow.Author.Tests.{eqb-true, eqb-false}
use Rattle.base.specs.Limits.{MOST_LANGUAGES}
use Rattle.base.proofs.Laws.Tests.{cond_both}
use Rattle.cd_best.specs.declared.Standing.{Standing}
use Rattle.cd_best.specs.Inner.Standing.{start, unread, better, keep}
use Rattle.cd_best.specs.Inner.Holding.{Holds}

pub none_kept : (n r : ℕ) → get_or (replicate n false) r false ≡ false
none_kept zero r = refl
none_kept (suc n) zero = refl
none_kept (suc n) (suc r) = none_kept n r

pub never : {A : Type 0} (b : Bool) → b ≡ false → b ≡ true → A
never true e f = let z : ◌≡◌ {A = ℕ} 0 1 = cc in absurd (omega arith)
never false e f = let z : ◌≡◌ {A = ℕ} 0 1 = cc in absurd (omega arith)

module _ (P : ℕ → Float → Type 0) where
  pub start_holds : Holds P start
  unfolding start
  start_holds =
      record {
        marks = length-replicate MOST_LANGUAGES false;
        scores = length-replicate MOST_LANGUAGES (of_bits binary32 0);
        each = λ r e. never (get_or (replicate MOST_LANGUAGES false) r false) (none_kept MOST_LANGUAGES r) e;
      }

  module _ (s : Standing) (h : Holds P s) (at : ℕ) (score : Float) (l : at < MOST_LANGUAGES) (p : P at score) where
    -- the higher of the two scores is one of them
    of_higher : (was : Bool) → get_or s.kept at false ≡ was → P at (better was (get_or s.best at unread) score)
    of_higher true e = cond_both (P at) (le score (get_or s.best at unread)) (get_or s.best at unread) score (h.each at e) p
    of_higher false e = p

    keep_each : (r : ℕ) (b : Bool) → eqb r at ≡ b → get_or (set s.kept at true) r false ≡ true
        → P r (get_or (set s.best at (better (get_or s.kept at false) (get_or s.best at unread) score)) r unread)
    keep_each r true e k =
        let v : Float = better (get_or s.kept at false) (get_or s.best at unread) score in
        let q : r ≡ at = eqb-true r at e in
        rw (q, get_or-set_same s.best at v unread (omega (arith, h.scores, l))) (of_higher (get_or s.kept at false) refl)
    keep_each r false e k =
        let v : Float = better (get_or s.kept at false) (get_or s.best at unread) score in
        let q : r ≡ at → ⊥ = eqb-false r at e in
        rw (get_or-set_other s.best at r v unread q) (h.each r (rw (get_or-set_other s.kept at r true false q) at k))

    pub keep_holds : Holds P (keep s at score)
    unfolding keep
    keep_holds =
        record {
          marks = length-set s.kept at true ∙ h.marks;
          scores = length-set s.best at (better (get_or s.kept at false) (get_or s.best at unread) score) ∙ h.scores;
          each = λ r k. keep_each r (eqb r at) refl k;
        }
