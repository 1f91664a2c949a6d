-- An empty bin puts nothing; else each piece goes behind the one before it, and together they are the line. Assumes nothing.
use Rattle.pieces.proofs.Laws.Pieces.{goes_on, goes_as, goes_nothing}
use native.Mathlib.Omega.{arith}
use Rattle.md_report_meaning.proofs.Laws.Text.{bin_pieces, bin_empty}
use Rattle.md_report.proofs.text.put_bin.Goals as goal

pub returns-then-count-eq0 : goal.returns-then-count-eq0
returns-then-count-eq0 c = goes_as (bin_empty c.args.detector c.args.bin c.args.count (omega arith)) (goes_nothing _ _ (omega (arith, c.requires)))

pub returns : goal.returns
returns c =
    goes_as (bin_pieces c.args.detector c.args.bin c.args.count (λ e. c.if-count-eq0.false (omega (arith, e))))
    (goes_on (goes_on (goes_on c.put_number-a.ensures.goes c.put_number-b.ensures.goes) c.put_number-c.ensures.goes)
    c.put_piece.ensures)
