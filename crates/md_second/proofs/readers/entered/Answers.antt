-- Each field is the definition's, and the counts that grow have room. Assumes nothing.
use Rattle.md_second.specs.Inner.Reading.{entered, odd_in}
use Rattle.md_second.proofs.readers.entered.Goals as goal

pub returns : goal.returns
unfolding entered odd_in
returns c =
    simp (
      c.is_foreign.ensures,
      c.pick.ensures.is,
      c.one-3.ensures.is,
      c.is_set-2.ensures,
      c.one-2.ensures.is,
      c.is_set.ensures,
      c.one.ensures.is,
      c.is_odd_symbol.ensures,
      c.is_set-letter.ensures,
    )
