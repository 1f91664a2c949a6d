-- The word of range and zero is at most 511 exactly where range is and zero is 0; the rest are calls.
-- Assumes nothing.
use Rattle.class_records.proofs.Laws.Fields.{word}
use Rattle.class_records.specs.Records.{good_fields}
use Rattle.class_records.proofs.fields_good.Goals as goal

pub returns : goal.returns
unfolding good_fields
returns c =
    cc (word c.args.r.range c.args.r.zero)
