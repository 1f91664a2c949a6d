-- The shared bytes are laid over zeros, and the place behind them, lowest byte first. Assumes nothing.
use Rattle.class_compact_meaning.proofs.Laws.Packed.{compact_made}
use Rattle.class_compact.proofs.gather.compact_record.Goals as goal

pub returns : goal.returns
returns c =
    compact_made _ _ _ _ c.requires.0 c.requires.2 c.lay.ensures
