-- What `to_bits` asks of ratios and of their sum: that they are no NaN.
-- Assumes nothing.
use Rattle.ratio.specs.declared.Ratios.{Ratios}
use Rattle.ratio.specs.Inner.Finite.{Plain}
use Rattle.ratio.specs.Inner.Eight.{EachPlain}
use Rattle.ratio.specs.Eight.{sum}

pub record Numbers (r : Ratios) : Type 0 where
  pub each : EachPlain r
  pub sum : Plain (sum r)
