-- Each length has one of three periods, and each return has that period in it. Assumes nothing.
use Rattle.md_text.proofs.Laws.Pieces.{piece_short, piece_middle, piece_long}
use Rattle.md_text.proofs.piece_end.Goals as goal

pub returns-then-n-le-SHORT_LENGTH : goal.returns-then-n-le-SHORT_LENGTH
returns-then-n-le-SHORT_LENGTH c = piece_short _ _ _ c.requires.0 c.if-n-le-SHORT_LENGTH.true c.nearer.ensures

pub returns-then-n-le-MIDDLE_LENGTH : goal.returns-then-n-le-MIDDLE_LENGTH
returns-then-n-le-MIDDLE_LENGTH c = piece_middle _ _ _ c.requires.0 c.if-n-le-SHORT_LENGTH.false c.if-n-le-MIDDLE_LENGTH.true c.nearer-then-n-le-MIDDLE_LENGTH.ensures

pub returns : goal.returns
returns c = piece_long _ _ _ c.requires.0 c.if-n-le-SHORT_LENGTH.false c.if-n-le-MIDDLE_LENGTH.false c.nearer-2.ensures
