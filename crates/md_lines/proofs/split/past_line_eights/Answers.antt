-- The bytes passed hold no 0A: each turn adds eight that were tested. Assumes nothing.
use Prim.Native.Nat.{◌+◌, ◌-◌, ◌*◌, ◌/◌}
use mathlib.Core.Path.{◌≡◌, sym, ◌∙◌}
use native.Mathlib.Omega.{arith}
use lib.ListN.{length}
use Rattle.md_lines_meaning.proofs.Laws.Lines.{passing_start, passing_on}
use Rattle.md_lines.proofs.split.past_line_eights.Goals as goal

pub loop-k-init : goal.loop-k-init
loop-k-init c =
    let e : c.args.from + 8 * 0 ≡ c.args.from = omega arith in
    rw e (passing_start _ _ c.requires)

pub loop-k-preserved : goal.loop-k-preserved
loop-k-preserved c =
    let e : c.args.from + 8 * (c.loop-k.k + 1) ≡ c.args.from + 8 * c.loop-k.k + 8 = omega arith in
    rw e (passing_on _ _ _ 7 c.loop-k.invariant (omega arith) (sym c.eight_in_line.ensures ∙ c.if-not-eight_in_line.false))

pub returns-then-not-eight_in_line : goal.returns-then-not-eight_in_line
returns-then-not-eight_in_line c = c.loop-k.invariant

pub returns : goal.returns
returns c =
    let whole = c.loop-k.invariant in
    let e : c.args.from + 8 * ((length c.args.b.now - c.args.from) / 8) ≡ c.args.from + 8 * c.loop-k.k = omega (arith, whole.inside, whole.begins, c.loop-k-test.false) in
    rw e whole
