-- Each sentence of the flag rule is a call, and the ASCII bits are clear where their mask leaves nothing.
-- Assumes nothing.
use Rattle.class_records.specs.Records.{good_flags}
use Rattle.base.specs.FlagRule.{flag_rule}
use Rattle.class_records.proofs.Laws.Rules.{ascii}
use Rattle.class_records.proofs.flag_rule.flags_good.Goals as goal

pub returns : goal.returns
unfolding good_flags flag_rule
returns c = cc (ascii c.args.f)
