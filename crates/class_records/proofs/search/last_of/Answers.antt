-- The last code point is the record's second word.
-- Assumes nothing.
use Rattle.class_records.specs.Records.{record_at}
use Rattle.class_records.proofs.search.last_of.Goals as goal

pub returns : goal.returns
unfolding record_at
returns c = c.u32_at.ensures.is
