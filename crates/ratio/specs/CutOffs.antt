-- The crate decides its cut-offs in f32, by a literal; 01 gives each as a fraction. Here each literal stands beside 01's fraction, and what
-- it means that the two decide alike. That they do is proved in proofs/Laws/CutOff, of every fraction within its bounds and not over 0.
-- Assumes nothing.
use Rattle.std.specs.Prelude.{ℕ, ◌*◌, Bool, leb, ltb}
use Rattle.ratio.specs.declared.Fraction.{Fraction}

-- the fraction is above p/q; it is at most p/q
abbrev pub above : ℕ → ℕ → Fraction → Bool
above p q f = ltb (p * f.den) (q * f.num)

abbrev pub at_most : ℕ → ℕ → Fraction → Bool
at_most p q f = leb (q * f.num) (p * f.den)
