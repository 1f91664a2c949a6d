-- Each place is what the closure makes of the class there. Assumes nothing.
use borrow.Author.Rules.{rules}
use Rattle.md_second.proofs.classed.flags_of.Goals as goal

pub returns : goal.returns
returns c =
    record {
      long = c.list_of.ensures.0;
      at = λ j h. let made = c.list_of.ensures.1 j h in search rules;
    }
