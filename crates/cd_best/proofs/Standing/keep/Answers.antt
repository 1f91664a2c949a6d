-- The code is the definition, field by field.
-- Assumes nothing.
use Rattle.cd_best.proofs.Loops.Walking.{keep_is}
use Rattle.cd_best.proofs.Standing.keep.Goals as goal

pub returns : goal.returns
returns c =
    keep_is c.args.self c.args.at c.args.score _ _ c.better.ensures c.is_sufficient.ensures.0
