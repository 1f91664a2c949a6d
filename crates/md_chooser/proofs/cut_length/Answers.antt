-- The invariant: what is cut off so far is newlines. Assumes nothing.
use Prim.Native.Nat.{ℕ, ◌+◌, ◌-◌}
use mathlib.Core.Path.{◌≡◌, sym, ap, ◌∙◌}
use native.Mathlib.Omega.{arith}
use lib.ListN.{take}
use lib.Seq.{take-length}
use Rattle.md_chooser_meaning.specs.Cut.{cut}
use Rattle.md_chooser_meaning.proofs.Laws.Cut.{cut_back, cut_found, cut_none}
use Rattle.md_chooser.proofs.cut_length.Goals as goal

pub loop-k-init : goal.loop-k-init
loop-k-init c = sym (ap cut (take-length c.args.text.now))

pub loop-k-preserved : goal.loop-k-preserved
loop-k-preserved c = c.loop-k.invariant ∙ cut_back _ _ c.loop-k-test.true c.loop-k.auto.k c.if-text-k-ne-NEWLINE.false

pub returns-then-text-k-ne-NEWLINE : goal.returns-then-text-k-ne-NEWLINE
returns-then-text-k-ne-NEWLINE c =
    let e : c.loop-k.k - 1 + 1 ≡ c.loop-k.k = omega (arith, c.loop-k-test.true) in
    rw e
    (record {
      within = c.loop-k.auto.k;
      is = cut_found _ _ c.loop-k-test.true c.loop-k.auto.k c.if-text-k-ne-NEWLINE.true ∙ sym c.loop-k.invariant;
    })

pub returns : goal.returns
returns c =
    let e : 0 ≡ c.loop-k.k = omega (arith, c.loop-k-test.false) in
    record {
      within = omega arith;
      is = cut_none c.args.text.now 0 (omega arith) ∙ ap (λ (n : ℕ). cut (take n c.args.text.now)) e ∙ sym c.loop-k.invariant;
    }
