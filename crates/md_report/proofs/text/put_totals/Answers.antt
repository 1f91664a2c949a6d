-- Each total goes behind the one before it. Assumes nothing.
use Rattle.pieces.proofs.Laws.Pieces.{goes_on}
use Rattle.md_report_meaning.specs.Inner.Written.{totals}
use Rattle.md_report.proofs.text.put_totals.Goals as goal

pub returns : goal.returns
unfolding totals
returns c =
    goes_on (goes_on c.put_total-a.ensures.goes c.put_total-b.ensures.goes) c.put_total.ensures.goes
