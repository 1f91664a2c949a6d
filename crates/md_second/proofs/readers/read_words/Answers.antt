-- By the first character's kind, from nothing read. Assumes nothing.
use mathlib.Core.Path.{sym, ◌∙◌}
use Rattle.md_second.proofs.Loops.Readers.{to_word, to_gap}
use Rattle.md_second.proofs.readers.read_words.Goals as goal

pub read_gap-requires : goal.read_gap-requires
read_gap-requires c =
    to_gap _ _ _ c.unread-nothing.ensures c.requires.0 c.requires.1 (sym c.is_gap.ensures ∙ c.if-is_gap.true)

pub read_word-requires : goal.read_word-requires
read_word-requires c =
    to_word _ _ _ c.unread-nothing.ensures c.requires.0 c.requires.1 (sym c.is_gap.ensures ∙ c.if-is_gap.false)
