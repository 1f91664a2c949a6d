-- Past FFFF nothing is on a page; below it the inverse tells. Assumes nothing.
use borrow.Author.Tests.{le-leb, lt-leb}
use Rattle.page_meaning.specs.Page.{UNUSED}
use Rattle.page_meaning.specs.Inner.Tables.{lacking}
use Rattle.page.proofs.inverse.is_lacking.Goals as goal

pub returns-then-point-ge-UNUSED : goal.returns-then-point-ge-UNUSED
unfolding lacking
returns-then-point-ge-UNUSED c = rw (le-leb UNUSED _ c.if-point-ge-UNUSED.true)

pub returns : goal.returns
unfolding lacking
returns c = rw (lt-leb UNUSED _ c.if-point-ge-UNUSED.false)
