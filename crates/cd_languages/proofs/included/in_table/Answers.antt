-- A number is in the table exactly where its first record is a record.
-- Assumes nothing.
use Rattle.cd_languages.specs.Included.{in_table}
use Rattle.cd_languages.proofs.included.in_table.Goals as goal

pub returns : goal.returns
unfolding in_table
returns c = cc
