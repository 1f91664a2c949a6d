-- Each piece goes behind the one before it, and together they are the line. Assumes nothing.
use mathlib.Core.Path.{◌∙◌, ap}
use mathlib.Core.List.{◌++◌}
use Prim.Native.Nat.{ℕ}
use Rattle.pieces.specs.Words.{codes}
use Rattle.program.specs.Numerals.{hex}
use Rattle.pieces.specs.Numerals.{decimal}
use Rattle.pieces.proofs.Laws.Pieces.{goes_on, goes_as}
use Rattle.program.proofs.Laws.Pieces.{score_pieces}
use Rattle.program.proofs.line.put_score.Goals as goal

pub returns : goal.returns
returns c =
    let bits = goes_as (c.hex-digits.ensures ∙ ap hex c.bits_of.ensures) c.put_piece-b.ensures in
    let mark = goes_as (ap (λ (z : ℕ). codes " stopped " ++ decimal z) c.one.ensures.is) c.put_number-d.ensures.goes in
    goes_as (score_pieces c.args.score)
    (goes_on (goes_on (goes_on (goes_on c.put_piece-a.ensures bits) c.put_number-c.ensures.goes) mark) c.put_piece.ensures)
