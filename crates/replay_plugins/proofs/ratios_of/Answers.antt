-- No ratio of proper fractions is a NaN, and neither is their sum. Assumes nothing.
use Rattle.ratio.proofs.Laws.Fraction.{fractions_proper}
use Rattle.ratio.proofs.Laws.Rounded.{ratios_plain}
use Rattle.ratio_demand.proofs.Laws.Demand.{sum_plain}
use Rattle.md_eight.specs.declared.Detectors.{Detectors}
use Rattle.md_eight.specs.Inner.Detectors.{Countable}
use Rattle.md_eight.specs.Detectors.{counts, fractions, ratios}
use Rattle.replay_plugins.specs.Inner.Numbers.{Numbers}
use Rattle.replay_plugins.proofs.ratios_of.Goals as goal

numbers : (s : Detectors) → Countable s → Numbers (ratios s)
numbers s h =
    let p = fractions_proper (counts s) h in
    record { each = ratios_plain (fractions s) p; sum = sum_plain (fractions s) p }

pub returns : goal.returns
returns c = rw c.ratios.ensures (numbers c.args.s c.requires)
