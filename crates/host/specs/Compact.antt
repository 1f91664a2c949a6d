-- The flat form of packing's answer at the host's boundary (02 [9]): exactly its values, in the order of the struct's fields.
-- Assumes nothing.
use Rattle.base.specs.declared.Refusal.{Refusal}
use Rattle.std.specs.Prelude.{Result}
use Rattle.class_compact_meaning.specs.Calls.{values}
use Rattle.host.specs.declared.HostPacked.{HostPacked}
use Rattle.class_compact_meaning.specs.declared.Packed.{Packed}

unfoldable pub host_packed : Result Packed Refusal → HostPacked
host_packed a =
    record { number = (values a).number; place = (values a).place; records = (values a).records; letters = (values a).letters }
