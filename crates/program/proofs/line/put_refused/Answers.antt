-- Each piece goes behind the one before it, and together they are the line. Assumes nothing.
use Rattle.pieces.proofs.Laws.Pieces.{goes_on, goes_as}
use Rattle.program.proofs.Laws.Pieces.{refused_pieces}
use Rattle.program.proofs.line.put_refused.Goals as goal

pub returns : goal.returns
returns c =
    goes_as (cc (refused_pieces c.args.why)) (goes_on (goes_on c.put_number-a.ensures.goes c.put_number-b.ensures.goes) c.put_piece.ensures)
