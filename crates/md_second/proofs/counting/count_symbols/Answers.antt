-- The invariant: the three counts and the last printable character are those after i characters. Assumes nothing.
use Rattle.md_second.proofs.Loops.Upto.{upto_end}
use Rattle.md_counts.specs.TooManySymbolOrPunctuation.{counts}
use Rattle.md_second.proofs.Loops.Counting.{symbols_start, symbols_more}
use Rattle.md_second.proofs.counting.count_symbols.Goals as goal

pub loop-i-init : goal.loop-i-init
loop-i-init c = symbols_start _ _ _

pub loop-i-preserved : goal.loop-i-preserved
loop-i-preserved c =
    symbols_more _ _ c.loop-i.invariant c.loop-i-test.true c.is_set-printable.ensures c.is_mark-mark.ensures c.is_set.ensures
    c.is_plain_symbol.ensures c.one-punctuation.ensures.is c.one-symbols.ensures.is c.one-printed.ensures.is
    c.pick-last.ensures.is

pub returns : goal.returns
unfolding counts
returns c =
    rw (← upto_end _ _ _ _ _ c.loop-i.invariant c.loop-i-test.false) (simp (c.counts_of.ensures, c.at_least.ensures))
