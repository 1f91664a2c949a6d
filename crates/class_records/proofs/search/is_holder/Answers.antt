-- The record's first and last are its first two words.
-- Assumes nothing.
use Rattle.class_records.specs.Records.{holds, record_at}
use Rattle.class_records.proofs.search.is_holder.Goals as goal

pub returns : goal.returns
unfolding holds record_at
returns c = cc
