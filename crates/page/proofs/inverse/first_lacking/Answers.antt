-- The first code point that the page lacks, or past all. Assumes nothing.
use Rattle.std.proofs.Common.{rules, ◌≡◌}
use Rattle.std.specs.List.{position}
use Rattle.std.proofs.lemmas.Iterator.{YieldsList-from_slice}
use Rattle.std.proofs.lemmas.Iterator.Search.{position_from_yields_List}
use borrow.Author.Tests.{tests}
use Rattle.page_meaning.specs.Inner.Tables.{lacking, first_lacking}
use Rattle.page.proofs.Loops.Finding.{first_position}
use Rattle.page.proofs.inverse.first_lacking.Goals as goal

pub returns : goal.returns
unfolding first_lacking
returns c =
    let found : c.position.result ≡ position (lacking c.args.inverse.now) c.args.text.now =
    position_from_yields_List _ _ _ _ c.position.ensures.ran (YieldsList-from_slice c.args.text.now cc) (λ x b q k. search (rules, tests)) in
    rw (c.unwrap_or.ensures, found) (first_position (lacking c.args.inverse.now) c.args.text.now)
