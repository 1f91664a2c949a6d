-- An accepted line is one more in its bin, a refused one changes nothing. Assumes nothing.
use Rattle.md_report.proofs.Loops.Counting.{bin_room, line_in, line_out}
use Rattle.md_report.proofs.count.add_line.Goals as goal

pub add_one-requires : goal.add_one-requires
add_one-requires c =
    bin_room _ _ _ _ c.requires.2 _ c.requires.0 c.bin_at.ensures.small

pub returns-then-word_of-eq-ACCEPTED : goal.returns-then-word_of-eq-ACCEPTED
returns-then-word_of-eq-ACCEPTED c =
    line_in _ _ _ _ c.requires.2 _ _ _ c.word_of.ensures c.if-word_of-eq-ACCEPTED.true c.bin_at.ensures c.add_one.ensures

pub returns-else-word_of-eq-ACCEPTED : goal.returns-else-word_of-eq-ACCEPTED
returns-else-word_of-eq-ACCEPTED c =
    line_out _ _ _ _ c.requires.2 _ c.word_of.ensures c.if-word_of-eq-ACCEPTED.false
