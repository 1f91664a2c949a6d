-- The bytes passed hold no 0A. Assumes nothing.
use mathlib.Core.Path.{◌≡◌}
use native.Mathlib.Omega.{arith}
use lib.ListN.{length}
use Rattle.md_lines_meaning.proofs.Laws.Lines.{passing_more, passing_hit, passing_end}
use Rattle.md_lines.proofs.split.end_of_line.Goals as goal

pub loop-j-init : goal.loop-j-init
loop-j-init c = c.past_line_eights-j.ensures

pub returns-then-bytes-j-eq-LINE_END : goal.returns-then-bytes-j-eq-LINE_END
returns-then-bytes-j-eq-LINE_END c = passing_hit _ _ _ c.loop-j.invariant c.loop-j-test.true c.if-bytes-j-eq-LINE_END.true

pub loop-j-preserved : goal.loop-j-preserved
loop-j-preserved c = passing_more _ _ _ c.loop-j.invariant c.loop-j-test.true c.if-bytes-j-eq-LINE_END.false

pub returns : goal.returns
returns c =
    let e : length c.args.bytes.now ≡ c.loop-j.j = omega (arith, c.loop-j.invariant.inside, c.loop-j-test.false) in
    rw e (passing_end _ _ _ c.loop-j.invariant c.loop-j-test.false)
