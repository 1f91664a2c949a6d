-- The proof of the cycle of calls: each goal that is named cites what its loop's invariant shows (Loops/Readers). Assumes nothing.
use mathlib.Core.Path.{sym, ◌∙◌}
use Rattle.md_second.proofs.Loops.Readers.{wording_room, wording_words, wording_case, wording_more, gapping_case, gapping_more}
use Rattle.md_second.proofs.readers.+read_gap_read_word.Goals as goal

-- ---- the gap reader
pub read_gap-cased-case-requires : goal.read_gap-cased-case-requires
read_gap-cased-case-requires t c = gapping_case _ _ _ c.loop-i.invariant

pub read_gap-loop-i-preserved : goal.read_gap-loop-i-preserved
read_gap-loop-i-preserved t c =
    gapping_more _ _ _ c.loop-i.invariant c.loop-i-test.true (sym c.is_gap.ensures ∙ c.if-not-is_gap.false) c.cased-case.ensures

-- ---- the word reader
pub read_word-closed-shut-requires : goal.read_word-closed-shut-requires
read_word-closed-shut-requires t c = (wording_words _ _ _ c.loop-i.invariant, wording_room _ _ _ c.loop-i.invariant)

pub read_word-entered-word-requires : goal.read_word-entered-word-requires
read_word-entered-word-requires t c = wording_room _ _ _ c.loop-i.invariant

pub read_word-cased-case-requires : goal.read_word-cased-case-requires
read_word-cased-case-requires t c = wording_case _ _ _ c.loop-i.invariant

pub read_word-loop-i-preserved : goal.read_word-loop-i-preserved
read_word-loop-i-preserved t c =
    wording_more _ _ _ c.loop-i.invariant c.loop-i-test.true (sym c.is_gap.ensures ∙ c.if-is_gap.false)
    c.entered-word.ensures
    c.cased-case.ensures
