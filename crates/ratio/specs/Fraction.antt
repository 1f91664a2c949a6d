-- A fraction is its two counts (01, "Promises with no slack": "a fraction is its two counts (0 over 1 if cut off or over 0)"). What a
-- detector answers is its counts and whether it is kept; which fraction that is, how a fraction is compared with a cut-off, and how large
-- its counts may be. The laws stand in proofs/Laws/Fraction.
-- Assumes nothing.
use Rattle.std.specs.Prelude.{ℕ, ◌*◌, Bool, cond, not, ◌&&◌, leb, eqb}
use Rattle.ratio.specs.declared.Fraction.{Fraction}
use Rattle.ratio.specs.declared.Counts.{Counts}

-- the counts of a fraction, and whether no cut-off applies
abbrev pub counts_of : Fraction → Bool → Counts
counts_of f kept = record { numerator = f.num; denominator = f.den; kept = kept }

-- the counts as a fraction, whatever the cut-off says
abbrev pub share_of : Counts → Fraction
share_of c = record { num = c.numerator; den = c.denominator }

-- what is cut off or over 0
abbrev pub nothing : Fraction
nothing = record { num = 0; den = 1 }

-- "0 over 1 if cut off or over 0"
unfoldable pub fraction_of : Counts → Fraction
fraction_of c = cond (c.kept && not (eqb c.denominator 0)) (share_of c) nothing

-- the fraction is at least p/q
unfoldable pub at_least : ℕ → ℕ → Fraction → Bool
at_least p q f = leb (p * f.den) (q * f.num)
