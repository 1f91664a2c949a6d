-- The inverse that was laid out is the page's, so that what was found and copied by it is what the definitions say. Assumes nothing.
use mathlib.Core.Path.{◌∙◌}
use native.Mathlib.Omega.{arith}
use Rattle.page_meaning.proofs.Laws.Tables.{Below, lacking_at_lem, text_small, bytes_are}
use Rattle.page_meaning.proofs.Laws.Answer.{lacking, short_write, writes}
use Rattle.page.proofs.write_good.Goals as goal

pub returns-then-lacking-text : goal.returns-then-lacking-text
returns-then-lacking-text c =
    let words : Below 65536 c.args.page.now = λ i h. omega (arith, c.shared_slice_known-1.given i) in
    let found = c.first_lacking-lacking.ensures ∙ lacking_at_lem _ _ c.requires.1 words c.invert.ensures _ in
    let told = lacking _ _ _ c.requires.0 c.requires.1 _ found c.if-lacking-text.true in
    record { value = rw c.refuse.ensures told.0; out_after = told.1 }

pub returns-then-out-text : goal.returns-then-out-text
returns-then-out-text c =
    let words : Below 65536 c.args.page.now = λ i h. omega (arith, c.shared_slice_known-1.given i) in
    let found = c.first_lacking-lacking.ensures ∙ lacking_at_lem _ _ c.requires.1 words c.invert.ensures _ in
    let told = short_write _ _ _ c.requires.0 c.requires.1 (rw found at c.if-lacking-text.false) c.if-out-text.true in
    record { value = rw c.refuse-then-out-text.ensures told.0; out_after = told.1 }

pub bytes_into-requires : goal.bytes_into-requires
bytes_into-requires c =
    let words : Below 65536 c.args.page.now = λ i h. omega (arith, c.shared_slice_known-1.given i) in
    let found = c.first_lacking-lacking.ensures ∙ lacking_at_lem _ _ c.requires.1 words c.invert.ensures _ in
    (c.if-out-text.false, text_small _ words _ (rw found at c.if-lacking-text.false))

pub returns : goal.returns
returns c =
    let words : Below 65536 c.args.page.now = λ i h. omega (arith, c.shared_slice_known-1.given i) in
    let found = c.first_lacking-lacking.ensures ∙ lacking_at_lem _ _ c.requires.1 words c.invert.ensures _ in
    let none = rw found at c.if-lacking-text.false in
    let told = writes _ _ _ c.requires.0 c.requires.1 none c.if-out-text.false in
    record { value = told.0; out_after = rw (c.bytes_into.ensures, bytes_are _ _ c.requires.1 words c.invert.ensures _ none) told.1 }
