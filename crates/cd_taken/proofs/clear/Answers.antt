-- The first n words are `fill`'s zeros, the others as they were. Assumes nothing.
use Prim.Native.Nat.{ℕ}
use mathlib.Core.Path.{◌≡◌}
use native.Mathlib.Nat.{zero-add}
use lib.ListN.{length, take, replicate, length-replicate}
use lib.Seq.{length-take-le}
use Rattle.std.proofs.Common.{rules}
use Rattle.base.specs.Put.{put}
use Rattle.cd_taken.proofs.clear.Goals as goal

pub returns : goal.returns
unfolding put
returns c =
    let n : length (take c.args.n c.args.work.now) ≡ c.args.n = length-take-le _ _ c.requires in
    let zeros : c.fill.new.self ≡ replicate c.args.n 0 = rw n at (c.fill.ensures.after (λ y e. search rules)) in
    let all : length (replicate c.args.n 0) ≡ c.args.n = length-replicate {A = ℕ} c.args.n 0 in
    rw (zeros, all, zero-add)
