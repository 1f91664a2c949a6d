-- 0 is a scalar value, so the test for a scalar value is the whole test.
-- Assumes nothing.
use Rattle.class_records.proofs.Laws.Fields.{zero_scalar}
use Rattle.base.specs.Tests.{scalar}
use Rattle.class_records.specs.Records.{none_or_scalar}
use Rattle.class_records.proofs.none_or_scalar.Goals as goal

pub returns : goal.returns
unfolding scalar none_or_scalar
returns c = zero_scalar c.args.p
