-- What the chooser hands back, at the host's boundary: the text taken, how long the part of it is that stands "before its trailing U+000A run",
-- and a refusal's number and place. No slice crosses to a host; the part begins where the text begins. Where either text is refused the part is
-- empty. Not here: the verdict and the part (crate md_chooser).
-- Assumes nothing.
use Rattle.std.specs.Prelude.{ℕ, Result}
use Rattle.md_chooser_meaning.specs.declared.Side.{Side}
use Rattle.md_chooser_meaning.specs.declared.Unjudged.{Unjudged}
use Rattle.md_chooser_meaning.specs.Choose.{values}
use Rattle.host.specs.declared.HostChosen.{HostChosen}

unfoldable pub host_chosen : Result Side Unjudged → ℕ → HostChosen
host_chosen a length =
    record {
      taken = (values a).taken;
      length = length;
      number = (values a).number;
      place = (values a).place;
    }
