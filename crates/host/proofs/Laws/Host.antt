-- The numbers that a burst holds of a line are the fields of its flat score, floats as bits (`row_fields`); and a text's number by which of the two it is
-- (`numbered`).
-- Assumes nothing.
use Rattle.std.specs.Prelude.{Result}
use Prim.Native.Nat.{ℕ, ◌+◌}
use denote.Enum.Declared.{tag_of}
use mathlib.Core.Path.{◌≡◌, refl}
use mathlib.Core.List.{List, [], ◌∷◌, ◌++◌}
use Rattle.base.specs.declared.Refusal.{Refusal}
use Rattle.ratio.specs.Rounded.{bits_of}
use Rattle.ratio.specs.Eight.{bits}
use Rattle.ratio.specs.Shown.{shown_numbers, numbers_of}
use Rattle.md_meaning.specs.declared.Score.{Score}
use Rattle.md_meaning.specs.Values.{values}
use Rattle.md_lines_meaning.specs.Burst.{numbers, row_numbers}
use Rattle.md_chooser_meaning.specs.contracts.Side.{the_type}
use Rattle.md_chooser_meaning.specs.declared.Side.{Side}
use Rattle.md_chooser_meaning.specs.declared.Side.TheVariants.{First, Second}
use Rattle.md_chooser_meaning.specs.Choose.{side_number}
use Rattle.host.specs.declared.HostCounts.{HostCounts}
use Rattle.host.specs.declared.HostScore.{HostScore}
use Rattle.host.specs.declared.HostShown.{HostShown}
use Rattle.host.specs.Host.{host_shown, host_counts, host_score, flat_score}

-- the fields of a flat score, in their order
abbrev pub shown_fields : HostShown → List ℕ
shown_fields s = s.num ∷ s.den ∷ s.cut ∷ []

abbrev pub count_fields : HostCounts → List ℕ
count_fields e =
    shown_fields e.symbols ++ shown_fields e.accents ++ shown_fields e.unprintable ++ shown_fields e.ranges
    ++ shown_fields e.doubled ++ shown_fields e.words ++ shown_fields e.stops ++ shown_fields e.archaic

abbrev pub fields : HostScore → List ℕ
fields s =
    s.number ∷ s.place ∷ (bits s.ratios ++ (bits_of s.sum ∷ s.fed ∷ s.stopped ∷ count_fields s.counts))

pub row_fields : (a : Result Score Refusal) → row_numbers a ≡ fields (host_score a)
unfolding row_numbers numbers shown_numbers numbers_of host_score flat_score host_counts host_shown
row_fields a = refl

pub numbered : (s : Side) → tag_of the_type s + 1 ≡ side_number s
unfolding side_number
numbered First = refl
numbered Second = refl
