-- Up to 1.0's bits no pattern is a NaN's, and the two tests are those of `Narrowable`. Assumes nothing.
use Prim.Native.Nat.{◌*◌, ◌%◌}
use mathlib.Core.Path.{◌≡◌, refl}
use mathlib.Core.Logic.{inl, inr}
use native.Mathlib.Omega.{arith}
use lib.Ieee.{binary64, ones, hid, top, of_bits}
use lib.Ieee.Bits.{nan_bits_above}
use borrow.Author.Tests.{le-ltb}
use Rattle.f32_nearest.specs.Inner.Nearest.{NOUGHT, EIGHTH, ONE}
use Rattle.replay_jaro.proofs.number_of.Goals as goal

nought : of_bits binary64 0 ≡ NOUGHT
unfolding of_bits
nought = refl

eighth : of_bits binary64 0x3FC0000000000000 ≡ EIGHTH
unfolding of_bits
eighth = refl

one : of_bits binary64 0x3FF0000000000000 ≡ ONE
unfolding of_bits
one = refl

pub returns-then-u-gt-ONE_BITS : goal.returns-then-u-gt-ONE_BITS
returns-then-u-gt-ONE_BITS c = inl nought

pub float_from_bits-x : goal.float_from_bits-x
float_from_bits-x c = rw (nan_bits_above binary64 c.args.u, le-ltb (ones binary64 * hid binary64) (c.args.u % top binary64) (omega arith)) tt

pub returns-then-x-2 : goal.returns-then-x-2
returns-then-x-2 c = inr (rw (← eighth, c.if-x.true) tt, rw (← one, c.if-x-2.true) tt)

pub returns-else-x-2 : goal.returns-else-x-2
returns-else-x-2 c = inl nought

pub returns-else-x : goal.returns-else-x
returns-else-x c = inl nought
