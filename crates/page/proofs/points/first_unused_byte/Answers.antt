-- Where no entry is unused no byte is; else the walk decides, over the points that were laid out. Assumes nothing.
use mathlib.Core.Path.{sym, ◌∙◌}
use native.Mathlib.Omega.{arith}
use Rattle.page_meaning.specs.Page.{BYTES}
use Rattle.page_meaning.proofs.Laws.Tables.{Below, unused_is, none_unused_at}
use Rattle.page.proofs.points.first_unused_byte.Goals as goal

pub returns-then-not-holds : goal.returns-then-not-holds
returns-then-not-holds c =
    let small : Below BYTES c.args.bytes.now = λ i h. omega (arith, c.shared_slice_known-2-1.given i) in
    none_unused_at _ _ c.requires.0 small (sym c.holds.ensures ∙ c.if-not-holds.true)

pub returns : goal.returns
returns c =
    let small : Below BYTES c.args.bytes.now = λ i h. omega (arith, c.shared_slice_known-2-1.given i) in
    c.first_unused.ensures ∙ unused_is _ _ _ c.requires.1 small
