-- The bits of a threshold: a NaN's are past the sign above those of an infinity (`nan_bits_lem`), others make a float (`number_bits`, `infinity_bits`); and what
-- is finite is no NaN (`finite_number`).
-- Assumes nothing.
use Prim.Native.Nat.{ℕ, ◌%◌, ◌≤◌, ◌<◌}
use mathlib.Core.Path.{◌≡◌, refl, sym, ◌∙◌, subst}
use mathlib.Core.Bool.{Bool, true, false, not, true≢false}
use lib.Dec.{T, ltb, lit≤}
use lib.Ieee.{Float, nan, inf, fin, binary32, of_bits, is_nan, nan_bits, sub, add, neg}
use lib.Ieee.Bits.{nan_bits_is, nan_bits_above}
use borrow.Author.Tests.{lt-ltb, le-ltb}
use Rattle.ratio.specs.Finite.{is_finite}

abbrev INFINITY : ℕ
INFINITY = 0x7F800000

abbrev SIGN : ℕ
SIGN = 0x80000000

above : (bits : ℕ) → nan_bits binary32 bits ≡ ltb INFINITY (bits % SIGN)
above bits = nan_bits_above binary32 bits

nan_of : (x : Float) → is_nan x ≡ true → x ≡ nan
unfolding is_nan
nan_of nan e = refl
nan_of (inf s) e = absurd (true≢false (sym e))
nan_of (fin s m g) e = absurd (true≢false (sym e))

no_difference : sub binary32 (of_bits binary32 INFINITY) (of_bits binary32 INFINITY) ≡ nan
unfolding sub add neg of_bits
no_difference = refl

pub nan_bits_lem : (bits : ℕ) → INFINITY < bits % SIGN → sub binary32 (of_bits binary32 INFINITY) (of_bits binary32 INFINITY) ≡ of_bits binary32 bits
nan_bits_lem bits h = no_difference ∙ sym (nan_of (of_bits binary32 bits) (sym (nan_bits_is binary32 bits) ∙ above bits ∙ lt-ltb INFINITY (bits % SIGN) h))

pub number_bits : (bits : ℕ) → bits % SIGN ≤ INFINITY → T (not (nan_bits binary32 bits))
number_bits bits h = subst (λ (b : Bool). T (not b)) (sym (above bits ∙ le-ltb INFINITY (bits % SIGN) h)) tt

pub infinity_bits : T (not (nan_bits binary32 INFINITY))
infinity_bits = number_bits INFINITY (lit≤ tt)

pub finite_number : (x : Float) → is_finite x ≡ true → T (not (is_nan x))
unfolding is_nan
finite_number nan e = absurd (true≢false (sym e))
finite_number (inf s) e = absurd (true≢false (sym e))
finite_number (fin s m g) e = tt
