-- What is taken stands in the first places of the room, and is scored there; a refusal is passed on. Assumes nothing.
use mathlib.Core.Path.{sym, ◌∙◌}
use native.Mathlib.Omega.{arith}
use lib.ListN.{length-take}
use Rattle.utf8_meaning.proofs.Laws.Text.{text_few}
use Rattle.utf8_meaning.proofs.Laws.Answer.{readable}
use Rattle.md_utf8_meaning.proofs.Laws.ScoreUtf8.{unread, read}
use Rattle.md_utf8.proofs.Laws.Lendable.{lendable_ready, lendable_scan}
use Rattle.md_utf8.proofs.rooms.score_taken.Goals as goal

pub slice_bounds-scan_text_in-end : goal.slice_bounds-scan_text_in-end
slice_bounds-scan_text_in-end c =
    let r = readable _ _ (sym c.take_utf8.ensures.value ∙ c.in-Ok.is) in
    omega (arith, r.count, text_few c.args.bytes.now, c.requires.0)

pub slice_bounds-scan_text_in-end-in-Ok : goal.slice_bounds-scan_text_in-end-in-Ok
slice_bounds-scan_text_in-end-in-Ok c =
    let r = readable _ _ (sym c.take_utf8.ensures.value ∙ c.in-Ok.is) in
    simp length-take (omega (arith, r.count, text_few c.args.bytes.now, c.requires.0))

pub scan_text_in-requires : goal.scan_text_in-requires
scan_text_in-requires c =
    let r = readable _ _ (sym c.take_utf8.ensures.value ∙ c.in-Ok.is) in
    rw (r.count, c.take_utf8.ensures.out_after) (lendable_ready _ _ _ _ c.requires.2 _ (omega (arith, r.few, r.count)))

pub returns-in-Err : goal.returns-in-Err
returns-in-Err c = unread _ _ _ _ _ (sym c.take_utf8.ensures.value ∙ c.in-Err.is)

pub returns-in-Ok : goal.returns-in-Ok
returns-in-Ok c =
    let counted = sym c.take_utf8.ensures.value ∙ c.in-Ok.is in
    let r = readable _ _ counted in
    read _ _ _ _ _ counted _
    (rw (c.scan_text_in.ensures, r.count, c.take_utf8.ensures.out_after)
    (lendable_scan _ _ _ _ c.requires.2 _ (omega (arith, r.few, r.count))))
