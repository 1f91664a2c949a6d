-- Doubled accents keep the last Latin letter as its flags and base, flags 0 where there is none; plugins.rs keeps it as an Option. Here the state and the
-- step are written as the source has them, with the Option, and the two agree after every text (`doubled_as_source`): the same counts, whatever
-- the flags of the letters are. `remove_accent` is the class's base.
-- Assumes nothing.
use Prim.Native.Nat.{ℕ, ◌+◌}
use mathlib.Core.Path.{◌≡◌, refl}
use mathlib.Core.Bool.{Bool, false, cond, ◌&&◌, and-false}
use mathlib.Core.List.{List, [], ◌∷◌}
use lib.Dec.{eqb}
use Rattle.base.specs.Flags.{has, ACCENTUATED, UPPERCASE}
use Rattle.base.specs.Numbers.{bump}
use Rattle.base.proofs.Laws.Tests.{by_bool}
use Rattle.classes.specs.declared.Class.{Class}
use Rattle.md_neighbours.specs.declared.suspicious_duplicate_accent.SuspiciousDuplicateAccent.{SuspiciousDuplicateAccent}
use Rattle.md_neighbours.specs.SuspiciousDuplicateAccent.{start, latin_letter, both, letter, feed}

-- `last_latin_character: Option<MessDetectorChar>`
pub data Seen : Type 0 where
  none : Seen
  some : Class → Seen

-- SuspiciousDuplicateAccentPlugin
pub record Source : Type 0 where
  pub characters : ℕ
  pub successive : ℕ
  pub last : Seen

abbrev pub source_start : Source
source_start = record { characters = 0; successive = 0; last = none }

-- `self.last_latin_character.is_some()`, and it and the character are ACCENTUATED
unfoldable pub accented : Seen → Class → Bool
accented none c = false
accented (some l) c = has c.flags ACCENTUATED && has l.flags ACCENTUATED

-- both are UPPERCASE; asked only where both are accented
unfoldable pub capitals : Seen → Class → Bool
capitals none c = false
capitals (some l) c = has c.flags UPPERCASE && has l.flags UPPERCASE

-- `remove_accent` of both is the same; asked only where both are accented
unfoldable pub same_base_lem : Seen → Class → Bool
same_base_lem none c = false
same_base_lem (some l) c = eqb c.base l.base

-- one character, where it is eligible
unfoldable pub source_feed : Source → Class → Source
source_feed o c =
    cond (latin_letter c.flags)
    (record {
      characters = o.characters + 1;
      successive = o.successive + bump (accented o.last c && capitals o.last c) + bump (accented o.last c && same_base_lem o.last c);
      last = some c;
    })
    o

-- flags 0 stand for none
abbrev pub LastIs : Seen → SuspiciousDuplicateAccent → Type 0
LastIs none s = s.flags ≡ 0
LastIs (some l) s = (s.flags ≡ l.flags) × (s.base ≡ l.base)

pub record Same (s : SuspiciousDuplicateAccent) (o : Source) : Type 0 where
  pub characters : s.characters ≡ o.characters
  pub successive : s.successive ≡ o.successive
  pub last : LastIs o.last s

module _ (s : SuspiciousDuplicateAccent) (c : Class) where
  capitals_alike : (seen : Seen) → LastIs seen s
      → both s c.flags ACCENTUATED && both s c.flags UPPERCASE ≡ accented seen c && capitals seen c
  unfolding both accented capitals has
  capitals_alike none h = rw h (simp and-false)
  capitals_alike (some l) h = rw h.0

  bases_alike : (seen : Seen) → LastIs seen s → both s c.flags ACCENTUATED && eqb c.base s.base ≡ accented seen c && same_base_lem seen c
  unfolding both accented same_base_lem has
  bases_alike none h = rw h (simp and-false)
  bases_alike (some l) h = rw (h.0, h.1)

module _ (s : SuspiciousDuplicateAccent) (o : Source) (w : Same s o) (c : Class) where
  letter_alike : Same (letter s c)
      (record {
        characters = o.characters + 1;
        successive = o.successive + bump (accented o.last c && capitals o.last c) + bump (accented o.last c && same_base_lem o.last c);
        last = some c;
      })
  unfolding letter both accented
  letter_alike =
      record {
        characters = rw w.characters;
        successive = rw (w.successive, capitals_alike s c o.last w.last, bases_alike s c o.last w.last);
        last = (refl, refl);
      }

  feed_alike : Same (feed s c) (source_feed o c)
  unfolding feed source_feed
  feed_alike = by_bool (latin_letter c.flags) (λ e. rw e letter_alike) (λ e. rw e w)

-- a text's characters, one after the other
unfoldable pub fed_all : SuspiciousDuplicateAccent → List Class → SuspiciousDuplicateAccent
fed_all s [] = s
fed_all s (c ∷ cs) = fed_all (feed s c) cs

unfoldable pub source_all : Source → List Class → Source
source_all o [] = o
source_all o (c ∷ cs) = source_all (source_feed o c) cs

all_alike : (s : SuspiciousDuplicateAccent) (o : Source) → Same s o → (cs : List Class) → Same (fed_all s cs) (source_all o cs)
unfolding fed_all source_all
all_alike s o w [] = w
all_alike s o w (c ∷ cs) = all_alike (feed s c) (source_feed o c) (feed_alike s o w c) cs

pub doubled_as_source : (cs : List Class) → Same (fed_all start cs) (source_all source_start cs)
doubled_as_source cs = all_alike start source_start (record { characters = refl; successive = refl; last = refl }) cs
