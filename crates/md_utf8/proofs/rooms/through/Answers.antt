-- The room is filled with the text, and its first n places are the text again. Assumes nothing.
use native.Mathlib.Omega.{arith}
use lib.ListN.{length-take}
use Rattle.md_utf8_meaning.proofs.Laws.ScoreUtf8.{text_back}
use Rattle.md_utf8.proofs.Laws.Lendable.{lendable_ready, lendable_scan}
use Rattle.md_utf8.proofs.rooms.through.Goals as goal

pub slice_bounds-scan_text_in-end-2 : goal.slice_bounds-scan_text_in-end-2
slice_bounds-scan_text_in-end-2 c = simp length-take (omega arith)

pub scan_text_in-requires : goal.scan_text_in-requires
scan_text_in-requires c =
    rw (c.fill.ensures, text_back _ _ _ c.requires.0.count)
    (lendable_ready _ _ _ _ c.requires.2 _ (omega (arith, c.requires.0.few, c.requires.0.count)))

pub returns : goal.returns
returns c =
    rw (c.scan_text_in.ensures, c.fill.ensures, text_back _ _ _ c.requires.0.count)
    (lendable_scan _ _ _ _ c.requires.2 _ (omega (arith, c.requires.0.few, c.requires.0.count)))
