-- Zeros. Assumes nothing.
use borrow.Author.Rules.{rules}
use Rattle.md_lent_meaning.specs.Inner.Lent.{no_lent}
use Rattle.md_lent.proofs.numbers.no_lent.Goals as goal

pub returns : goal.returns
unfolding no_lent
returns c = search rules
