-- The byte at `from` says what stands there; what is taken behind it joins. Assumes nothing.
use borrow.Author.Rules.{rules}
use Rattle.utf8_taking.proofs.Loops.Taking.{took_on}
use Rattle.utf8_taking.proofs.take_some.Goals as goal

pub take_two-r-requires : goal.take_two-r-requires
take_two-r-requires c = search rules

pub returns-then-a-lt-LEADS_THREE : goal.returns-then-a-lt-LEADS_THREE
returns-then-a-lt-LEADS_THREE c =
    took_on _ _ _ _ _ _ _ c.take_two-r.ensures _ _ _ c.take_letters.ensures

pub returns-then-a-lt-LEADS_FOUR : goal.returns-then-a-lt-LEADS_FOUR
returns-then-a-lt-LEADS_FOUR c =
    took_on _ _ _ _ _ _ _ c.take_threes-r.ensures _ _ _
    c.take_all_spaced.ensures
