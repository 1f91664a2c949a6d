-- The points that were laid out are the page's, so that what was found and copied by them is what the definitions say. Assumes nothing.
use native.Mathlib.Omega.{arith}
use Rattle.page_meaning.specs.Page.{BYTES}
use Rattle.page_meaning.proofs.Laws.Tables.{Below, points_are}
use Rattle.page_meaning.proofs.Laws.Answer.{unused, short_read, reads}
use Rattle.page.proofs.read_good.Goals as goal

pub returns-then-unused-bytes : goal.returns-then-unused-bytes
returns-then-unused-bytes c =
    let told = unused _ _ _ c.requires.0 c.requires.1 _ c.first_unused_byte-unused.ensures c.if-unused-bytes.true in
    record { value = rw c.refuse.ensures told.0; out_after = told.1 }

pub returns-then-out-bytes : goal.returns-then-out-bytes
returns-then-out-bytes c =
    let found = c.first_unused_byte-unused.ensures in
    let told = short_read _ _ _ c.requires.0 c.requires.1 (rw found at c.if-unused-bytes.false) c.if-out-bytes.true in
    record { value = rw c.refuse-then-out-bytes.ensures told.0; out_after = told.1 }

pub returns : goal.returns
returns c =
    let found = c.first_unused_byte-unused.ensures in
    let small : Below BYTES c.args.bytes.now = λ i h. omega (arith, c.shared_slice_known-2-1.given i) in
    let told = reads _ _ _ c.requires.0 c.requires.1 (rw found at c.if-unused-bytes.false) c.if-out-bytes.false in
    record { value = told.0; out_after = rw (c.points_into.ensures, points_are _ _ _ c.lay_points.ensures small) told.1 }
