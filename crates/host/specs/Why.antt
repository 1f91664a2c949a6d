-- The flat form of a reason (02 [8]), and what a code point is, for a host that shows the characters behind a verdict: its flags and its range by the class table, refused with 5 as
-- the table's check says, then with 6 at 0 where the code point has no class.
-- Assumes nothing.
use Rattle.std.specs.Prelude.{Result, Ok, Err, Option, Some, None, ⊤}
use Rattle.base.specs.declared.Refusal.{Refusal}
use Rattle.base.specs.Refusals.{ACCEPTED, number_of}
use Rattle.base.specs.declared.refusals.Cause.TheVariants.{Unclassed}
use Rattle.md_reason_meaning.specs.Reason.{values}
use Rattle.host.specs.declared.HostClass.{HostClass}
use Rattle.host.specs.declared.HostReason.{HostReason}
use Rattle.classes.specs.declared.Class.{Class}
use Rattle.md_reason_meaning.specs.declared.Why.{Why}

unfoldable pub host_reason : Result Why Refusal → HostReason
host_reason a =
    record {
      number = (values a).number;
      place = (values a).place;
      detector = (values a).detector;
      count = (values a).count;
    }

-- what was found, unless the table is refused
unfoldable pub host_class : Result ⊤ Refusal → Option Class → HostClass
host_class (Ok u) (Some c) = record { number = ACCEPTED; place = 0; flags = c.flags; range = c.range }
host_class (Ok u) None = record { number = number_of Unclassed; place = 0; flags = 0; range = 0 }
host_class (Err r) found = record { number = number_of r.cause; place = r.place; flags = 0; range = 0 }
