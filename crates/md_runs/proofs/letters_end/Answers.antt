-- The run ends with its piece at the latest. Assumes nothing.
use Rattle.std.proofs.Common.{arith}
use Rattle.md_runs.proofs.Laws.Runs.{run_ended}
use Rattle.md_runs.proofs.letters_end.Goals as goal

pub past_letters-requires : goal.past_letters-requires
past_letters-requires c = (omega (arith, c.piece_end.ensures.begins), c.piece_end.ensures.ends)

pub returns : goal.returns
returns c = run_ended _ _ _ _ _ _ c.piece_end.ensures c.past_letters.ensures
