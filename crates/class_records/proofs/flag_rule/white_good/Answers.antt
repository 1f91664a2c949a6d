-- Of the four flags that WHITESPACE decides, only SEPARATOR is left: `white`.
-- Assumes nothing.
use Rattle.class_records.proofs.Laws.Rules.{white}
use Rattle.class_records.proofs.flag_rule.white_good.Goals as goal

pub returns : goal.returns
returns c = rw c.is_set.ensures (white _)
