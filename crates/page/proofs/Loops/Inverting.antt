-- The first b bytes are laid out by their code points (`Inverting`): each used one stands at its code point, and what stands somewhere has that code
-- point. Its start, its step and its end. Assumes nothing.
use Prim.Native.Nat.{ℕ, ◌+◌, ◌≤◌, ◌<◌}
use mathlib.Core.Path.{◌≡◌, sym, ◌∙◌}
use mathlib.Core.Logic.{◌≢◌}
use mathlib.Core.Bool.{true, false}
use mathlib.Core.List.{List}
use native.Mathlib.Omega.{arith}
use lib.ListN.{length, get_or, set, replicate, length-set, length-replicate, get_or-replicate}
use lib.Seq.{get_or-set_same, get_or-set_other}
use lib.Dec.{eqb}
use borrow.Author.Tests.{eqb-true, eqb-false}
use Rattle.base.proofs.Laws.Tests.{by_bool, split}
use Rattle.page_meaning.specs.Page.{BYTES, UNUSED, point_of, byte_of, lacks}
use Rattle.page_meaning.specs.Inner.Good.{Good}
use Rattle.page_meaning.specs.Inner.Tables.{Inverse}
use Rattle.page_meaning.proofs.Laws.Page.{point_once, used_has, has_used, has_byte, point_of_byte}

pub record Inverting (page inverse : List ℕ) (b : ℕ) : Type 0 where
  pub size : length inverse ≡ 65536
  pub below : b ≤ BYTES
  pub stands : (c : ℕ) → c < b → point_of page c ≢ UNUSED → get_or inverse (point_of page c) 0 ≡ c
  pub origin : (p : ℕ) → p < UNUSED → get_or inverse p 0 ≢ 0 → point_of page (get_or inverse p 0) ≡ p

module _ (page inverse : List ℕ) where
  pub inverting_start : inverse ≡ replicate 65536 0 → Inverting page inverse 0
  inverting_start e =
      record {
        size = rw e (length-replicate {A = ℕ} 65536 0);
        below = omega arith;
        stands = λ c h n. absurd (omega arith);
        origin = λ p h n. absurd (n (rw e (get_or-replicate 65536 p 0 0 (omega arith))));
      }

  module _ (good : Good page) (b : ℕ) (g : Inverting page inverse b) where
    pub inverting_more : b < BYTES → (q : ℕ) → q ≡ point_of page b → q < 65536 → Inverting page (set inverse q b) (b + 1)
    inverting_more h q e l =
        record {
          size = length-set inverse q b ∙ g.size;
          below = omega arith;
          stands = λ c k n. split c b
              (λ m. get_or-set_other inverse q (point_of page c) b 0
              (λ z. let y = point_once page good c b n (z ∙ e) in omega arith) ∙ g.stands c m n)
              (λ m. let z : c ≡ b = omega arith in rw (z, ← e) here);
          origin = λ p k n. by_bool (eqb p q)
              (λ z. let y = eqb-true p q z in rw (y, here) (sym e))
              (λ z. let y : get_or (set inverse q b) p 0 ≡ get_or inverse p 0 = get_or-set_other inverse q p b 0 (eqb-false p q z) in
              rw y (g.origin p k (λ x. n (y ∙ x))));
        }
      where
        here : get_or (set inverse q b) q 0 ≡ b
        here = get_or-set_same inverse q b 0 (omega (arith, g.size))

    pub inverting_end : BYTES ≤ b → Inverse page inverse
    inverting_end h p l =
        by_bool (lacks page p)
        (λ e. rw e (by_bool (eqb (get_or inverse p 0) 0) (λ z. eqb-true (get_or inverse p 0) 0 z) (λ z. absurd (no e z))))
        (λ e. rw e (there e))
      where
        no : lacks page p ≡ true → eqb (get_or inverse p 0) 0 ≡ false → ⊥
        no e z =
            let o = g.origin p l (eqb-false (get_or inverse p 0) 0 z) in
            let f : lacks page p ≡ false = rw o at (used_has page good (get_or inverse p 0) (λ y. let x : p ≡ UNUSED = sym o ∙ y in omega arith)) in
            let y : true ≡ false = sym e ∙ f in
            let x : ◌≡◌ {A = ℕ} 0 1 = cc in
            omega arith

        there : lacks page p ≡ false → get_or inverse p 0 ≡ byte_of page p
        there e =
            let o = point_of_byte page p e in
            let k = has_byte page p e in
            rw o at (g.stands (byte_of page p) (omega arith) (λ y. has_used page p e (sym o ∙ y)))
