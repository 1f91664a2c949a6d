-- The code points passed are ASCII: each turn adds eight that were tested. Assumes nothing.
use Prim.Native.Nat.{◌+◌, ◌*◌}
use mathlib.Core.Path.{◌≡◌, sym, ◌∙◌}
use native.Mathlib.Omega.{arith}
use Rattle.utf8_meaning.proofs.Laws.Ascii.{run_eight}
use Rattle.utf8_form.proofs.ascii.past_eights.Goals as goal

pub loop-k-preserved : goal.loop-k-preserved
loop-k-preserved c =
    let e : c.args.i + 8 * (c.loop-k.k + 1) ≡ c.args.i + 8 * c.loop-k.k + 8 = omega arith in
    rw e (run_eight _ _ _ c.loop-k.invariant (omega arith) (sym c.eight_ascii.ensures ∙ c.if-not-eight_ascii.false))
