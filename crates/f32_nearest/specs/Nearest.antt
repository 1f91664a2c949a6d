-- The nearest f32 of an f64 (01, Layers and rankings: "then nearest f32, ties to even, worked out from the bits where no conversion is
-- supplied"): the f64's exact value, a fraction, rounded once at binary32. `round` is the kit's: IEEE 754's rounding to nearest, ties to
-- even. Of a NaN and of an infinity nothing is asked; they are what a conversion makes of them.
-- Assumes nothing.
use Rattle.std.specs.Prelude.{◌*◌, Float}
use Rattle.std.specs.Float.{nan, inf, fin, binary32}
use Rattle.std.specs.Float.Ieee.{up, down, round}

unfoldable pub nearest_f32 : Float → Float
nearest_f32 nan = nan
nearest_f32 (inf s) = inf s
nearest_f32 (fin s m e) = round binary32 s (m * up e) (down e)
