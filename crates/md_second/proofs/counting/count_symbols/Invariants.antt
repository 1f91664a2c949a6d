use Rattle.md_second.proofs.Loops.Counting.{symbols_of, SymbolsUpto}
use Rattle.md_second.proofs.counting.count_symbols.Given as goal

abbrev pub invariant-loop-i : goal.invariant-loop-i
invariant-loop-i l = SymbolsUpto l.points l.flags l.n l.i (symbols_of l.printed l.punctuation l.symbols l.last)
