-- Zeros, with each number's bytes put into their place. Assumes nothing.
use Prim.Native.Nat.{◌+◌, ◌*◌, ◌/◌, ◌%◌}
use mathlib.Core.Path.{◌≡◌}
use native.Mathlib.Omega.{arith}
use Rattle.ring_meaning.proofs.Laws.Record.{record_made}
use Rattle.ring.proofs.Laws.Bytes.{wide_bytes}
use Rattle.ring.proofs.record.record_of.Goals as goal

pub returns : goal.returns
returns c =
    let line = wide_bytes c.args.v.line in
    let halves : c.args.v.line / 4294967296 * 4294967296 + c.args.v.line % 4294967296 ≡ c.args.v.line = omega arith in
    let made = record_made c.args.v in
    cc
