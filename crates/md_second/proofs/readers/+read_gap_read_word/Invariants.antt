-- Each reader's measure is how many characters are left. Assumes nothing.
use Prim.Native.Nat.{◌-◌}
use Rattle.md_second.proofs.Loops.Readers.{Wording, Gapping}
use Rattle.md_second.proofs.readers.+read_gap_read_word.Given as goal

abbrev pub decreases-read_gap : goal.decreases-read_gap
decreases-read_gap l = l.n - l.at

abbrev pub decreases-read_word : goal.decreases-read_word
decreases-read_word l = l.n - l.at

abbrev pub invariant-read_gap-loop-i : goal.invariant-read_gap-loop-i
invariant-read_gap-loop-i l = Gapping l.flags l.n l.at l.words l.case l.i

abbrev pub invariant-read_word-loop-i : goal.invariant-read_word-loop-i
invariant-read_word-loop-i l = Wording l.flags l.n l.at l.words l.word l.case l.i
