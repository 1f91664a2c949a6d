-- The room is filled with the text, and its first n places are the text again. Assumes nothing.
use native.Mathlib.Omega.{arith}
use lib.ListN.{length-take}
use Rattle.md_utf8_meaning.proofs.Laws.ScoreUtf8.{text_back}
use Rattle.md_reason.proofs.utf8_bytes.reason_through.Goals as goal

pub slice_bounds-reason-end-2 : goal.slice_bounds-reason-end-2
slice_bounds-reason-end-2 c = simp length-take (omega arith)

pub returns : goal.returns
returns c =
    record {
      value = rw (c.reason.ensures.value, c.fill.ensures, text_back _ _ _ c.requires.0.count);
      out_after = rw (c.reason.ensures.out_after, c.fill.ensures, text_back _ _ _ c.requires.0.count);
    }
