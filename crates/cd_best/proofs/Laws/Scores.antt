-- `le` of scores, which are finite and have no minus sign: each is at most itself (`le_same`), of two one is at most the other (`le_turned`), and at most
-- goes on (`le_on`).
-- Assumes nothing.
use Prim.Native.Nat.{ℕ, ◌*◌, ◌≤◌}
use mathlib.Core.Path.{◌≡◌, sym, ◌∙◌}
use mathlib.Core.Bool.{true, false}
use native.Mathlib.Nat.{le_refl, le_trans, le_of_lt}
use lib.Dec.{leb}
use lib.Ieee.{Float, le}
use lib.Pow.{pow_pos}
use borrow.Author.Tests.{leb-true, leb-false, le-leb}
use Rattle.ratio.proofs.Laws.Comparing.{le_is}
use Rattle.ratio.specs.Parts.{ONE}
use Rattle.ratio.specs.Inner.Finite.{Plain}

-- how many parts of 2 ^ -149, times ONE
abbrev pub parts : {x : Float} → Plain x → ℕ
parts p = p.size * ONE

pub le_parts : (x y : Float) (p : Plain x) (q : Plain y) → le x y ≡ leb (parts p) (parts q)
le_parts x y p q = le_is p.size ONE q.size ONE (pow_pos 149) (pow_pos 149) x y p.value q.value

pub le_same : (x : Float) → Plain x → le x x ≡ true
le_same x p = le_parts x x p p ∙ le-leb (parts p) (parts p) (le_refl (parts p))

pub le_turned : (x y : Float) → Plain x → Plain y → le x y ≡ false → le y x ≡ true
le_turned x y p q h = le_parts y x q p ∙ le-leb (parts q) (parts p) (le_of_lt (leb-false (parts p) (parts q) (sym (le_parts x y p q) ∙ h)))

pub le_on : (x y z : Float) → Plain x → Plain y → Plain z → le x y ≡ true → le y z ≡ true → le x z ≡ true
le_on x y z p q r h k =
    let a : parts p ≤ parts q = leb-true (parts p) (parts q) (sym (le_parts x y p q) ∙ h) in
    let b : parts q ≤ parts r = leb-true (parts q) (parts r) (sym (le_parts y z q r) ∙ k) in
    le_parts x z p r ∙ le-leb (parts p) (parts r) (le_trans a b)
