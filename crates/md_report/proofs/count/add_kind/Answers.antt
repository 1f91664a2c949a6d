-- The line is one more of its number. Assumes nothing.
use Rattle.md_report.proofs.Loops.Counting.{kind_room, kind_in}
use Rattle.md_report.proofs.count.add_kind.Goals as goal

pub add_one-requires : goal.add_one-requires
add_one-requires c =
    kind_room _ _ _ c.requires.1 _ c.requires.0 c.kind_of.ensures.small

pub returns : goal.returns
returns c =
    kind_in _ _ _ c.requires.1 _ _ _ c.word_of.ensures c.kind_of.ensures c.add_one.ensures
