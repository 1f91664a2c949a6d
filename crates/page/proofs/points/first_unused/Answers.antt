-- The first byte that is unused, or past all. Assumes nothing.
use Rattle.std.proofs.Common.{rules, ℕ, Bool, ◌≡◌, get_or}
use Rattle.std.specs.List.{position}
use Rattle.std.proofs.lemmas.Iterator.{YieldsList-from_slice}
use Rattle.std.proofs.lemmas.Iterator.Search.{position_from_yields_List}
use borrow.Author.Tests.{tests}
use lib.Dec.{eqb}
use Rattle.page_meaning.specs.Page.{UNUSED}
use Rattle.page_meaning.specs.Inner.Tables.{first_unused}
use Rattle.page.proofs.Loops.Finding.{first_position}
use Rattle.page.proofs.points.first_unused.Goals as goal

pub returns : goal.returns
unfolding first_unused
returns c =
    let unused : ℕ → Bool = λ b. eqb (get_or c.args.points.now b 0) UNUSED in
    let found : c.position.result ≡ position unused c.args.bytes.now =
    position_from_yields_List _ _ _ _ c.position.ensures.ran (YieldsList-from_slice c.args.bytes.now cc) (λ x b q k. search (rules, tests)) in
    rw (c.unwrap_or.ensures, found) (first_position unused c.args.bytes.now)
