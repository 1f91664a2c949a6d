-- The flat form of each answer at the host's boundary (01: "callable from the recorder's Rust host on numbers and byte slices"): exactly the
-- values that 01 gives an answer, as `values` of each enum says, in the order of the struct's fields. A truth is 1 or 0. How a struct is laid
-- out in memory and passed is the C ABI's, and is not said here.
-- Assumes nothing.
use Rattle.std.specs.Prelude.{ℕ, Result}
use Rattle.base.specs.declared.Refusal.{Refusal}
use Rattle.base.specs.Counted.{values}
use Rattle.base.specs.Numbers.{bump}
use Rattle.ratio.specs.declared.Shown.{Shown}
use Rattle.ratio.specs.declared.EightShown.{EightShown}
use Rattle.md_meaning.specs.Values.{Values as ScoreValues, values as score_values}
use Rattle.md_chooser_meaning.specs.declared.Side.{Side}
use Rattle.md_chooser_meaning.specs.declared.Unjudged.{Unjudged}
use Rattle.md_chooser_meaning.specs.Choose.{values as verdict_values}
use Rattle.ring_meaning.specs.Calls.{values as ring_values}
use Rattle.host.specs.declared.HostCounts.{HostCounts}
use Rattle.host.specs.declared.HostRead.{HostRead}
use Rattle.host.specs.declared.HostRing.{HostRing}
use Rattle.host.specs.declared.HostScore.{HostScore}
use Rattle.host.specs.declared.HostShown.{HostShown}
use Rattle.host.specs.declared.HostVerdict.{HostVerdict}
use Rattle.md_meaning.specs.declared.Score.{Score}
use Rattle.ring_meaning.specs.declared.Kept.{Kept}

unfoldable pub host_counted : Result ℕ Refusal → HostRead
host_counted a = record { number = (values a).number; place = (values a).place; count = (values a).count }

-- what is shown of one detector, and of the eight (02 [7])
unfoldable pub host_shown : Shown → HostShown
host_shown s = record { num = s.num; den = s.den; cut = bump s.cut }

unfoldable pub host_counts : EightShown → HostCounts
host_counts e =
    record {
      symbols = host_shown e.symbols;
      accents = host_shown e.accents;
      unprintable = host_shown e.unprintable;
      ranges = host_shown e.ranges;
      doubled = host_shown e.doubled;
      words = host_shown e.words;
      stops = host_shown e.stops;
      archaic = host_shown e.archaic;
    }

unfoldable pub flat_score : ScoreValues → HostScore
flat_score v =
    record {
      number = v.number;
      place = v.place;
      ratios = v.ratios;
      sum = v.sum;
      fed = v.fed;
      stopped = bump v.stopped;
      counts = host_counts v.counts;
    }

unfoldable pub host_score : Result Score Refusal → HostScore
host_score a = flat_score (score_values a)

unfoldable pub host_verdict : Result Side Unjudged → HostVerdict
host_verdict a =
    record {
      taken = (verdict_values a).taken;
      refused = (verdict_values a).refused;
      number = (verdict_values a).number;
      place = (verdict_values a).place;
    }

unfoldable pub host_ring : Result Kept Refusal → HostRing
host_ring a =
    record {
      number = (ring_values a).number;
      place = (ring_values a).place;
      head = (ring_values a).head;
      count = (ring_values a).count;
    }
