-- The tests of the definition, each on the entry that was read. Assumes nothing.
use Rattle.page_meaning.proofs.Laws.Page.{entry_tested}
use Rattle.page.proofs.check.is_bad.Goals as goal

pub returns : goal.returns
returns c = entry_tested _ _ _ _ c.requires.0 c.wide-x.ensures.0 c.is_repeated.ensures
