-- Words of inner contracts and of laws, beside Eight: each eight as a list, in md.rs's order (`list_counts`, `list_fractions`), and what holds of
-- all of them (`EachSmall`, `EachProper`, `EachPlain`). No public promise rests on them.
-- Assumes nothing.
use Rattle.std.specs.Prelude.{List, [], ◌∷◌, get_or}
use Rattle.base.specs.Inner.All.{All}
use Rattle.ratio.specs.declared.Fraction.{Fraction}
use Rattle.ratio.specs.declared.Counts.{Counts}
use Rattle.ratio.specs.declared.EightCounts.{EightCounts}
use Rattle.ratio.specs.declared.Ratios.{Ratios}
use Rattle.ratio.specs.Fraction.{share_of, nothing}
use Rattle.ratio.specs.Eight.{Fractions, list_ratios}
use Rattle.ratio.specs.Inner.Fraction.{Small, Proper}
use Rattle.ratio.specs.Inner.Finite.{Plain}

abbrev pub list_counts : EightCounts → List Counts
list_counts c = c.symbols ∷ c.accents ∷ c.unprintable ∷ c.ranges ∷ c.doubled ∷ c.words ∷ c.stops ∷ c.archaic ∷ []

abbrev pub list_fractions : Fractions → List Fraction
list_fractions f = f.symbols ∷ f.accents ∷ f.unprintable ∷ f.ranges ∷ f.doubled ∷ f.words ∷ f.stops ∷ f.archaic ∷ []

-- the eight fractions of a list, 0 over 1 where it has ended
abbrev pub fractions_in : List Fraction → Fractions
fractions_in l = record {
  symbols = get_or l 0 nothing;
  accents = get_or l 1 nothing;
  unprintable = get_or l 2 nothing;
  ranges = get_or l 3 nothing;
  doubled = get_or l 4 nothing;
  words = get_or l 5 nothing;
  stops = get_or l 6 nothing;
  archaic = get_or l 7 nothing;
}

-- all eight are within their bounds; and not over 0; and no NaN
abbrev pub EachSmall : EightCounts → Type 0
EachSmall c = All (λ (d : Counts). Small (share_of d)) (list_counts c)

abbrev pub EachProper : Fractions → Type 0
EachProper f = All Proper (list_fractions f)

abbrev pub EachPlain : Ratios → Type 0
EachPlain r = All Plain (list_ratios r)
