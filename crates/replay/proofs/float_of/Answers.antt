-- Without its sign, a pattern up to infinity's is no NaN's. Assumes nothing.
use Prim.Native.Nat.{◌*◌, ◌%◌}
use borrow.Author.Tests.{le-ltb}
use lib.Ieee.{binary32, ones, hid, top}
use lib.Ieee.Bits.{nan_bits_above}
use Rattle.replay.proofs.float_of.Goals as goal

pub float_from_bits-result : goal.float_from_bits-result
float_from_bits-result c = rw (nan_bits_above binary32 c.args.bits, le-ltb (ones binary32 * hid binary32) (c.args.bits % top binary32) c.if-bits-gt-INFINITY_BITS.false) tt
