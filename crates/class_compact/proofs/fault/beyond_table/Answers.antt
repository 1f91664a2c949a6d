-- By the quick test. Assumes nothing.
use Rattle.class_compact_meaning.proofs.Laws.Calls.{beyond_sound, beyond_fault}
use mathlib.Core.Path.{sym, ◌∙◌}
use Rattle.class_compact.proofs.fault.beyond_table.Goals as goal

pub is_sound-requires : goal.is_sound-requires
is_sound-requires c = (c.requires.filled.sized, c.requires.order)

pub returns-then-is_sound : goal.returns-then-is_sound
returns-then-is_sound c = beyond_sound _ _ (sym c.if-is_sound.true ∙ c.is_sound.ensures)

pub fault-requires : goal.fault-requires
fault-requires c = c.requires.filled

pub returns : goal.returns
returns c = c.fault.ensures ∙ beyond_fault _ _ (sym c.if-is_sound.false ∙ c.is_sound.ensures)
