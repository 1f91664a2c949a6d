-- Refusal 19 of 02 [6]: "exactly if the lent state has a threshold that isn't finite, a declared length over 65,536, more received than declared, a
-- range over 511, or a count above twice the number received". The counts are the 25 of `counts_in`; marks, flags, code points and last growths are
-- not looked at, and the range is, also where no last character is remembered. What passes is `Sound` (specs/Inner), by the laws of
-- proofs/Laws/State.
-- Assumes nothing.
use Rattle.std.specs.Prelude.{ℕ, ◌*◌, Bool, false, not, ◌||◌, List, [], ◌∷◌, ltb, Result, ⊤}
use Rattle.base.specs.declared.Refusal.{Refusal}
use Rattle.base.specs.Causes.{given}
use Rattle.base.specs.Limits.{LONGEST_TEXT, LAST_RANGE}
use Rattle.base.specs.declared.refusals.Cause.TheVariants.{BadState}
use Rattle.ratio.specs.Finite.{is_finite}
use Rattle.md_eight.specs.declared.Detectors.{Detectors}
use Rattle.md_eight.specs.Detectors.{last_range}
use Rattle.md_running_meaning.specs.declared.Running.{Running}

-- the detectors of a running state
abbrev pub eight_of : Running → Detectors
eight_of s = s.watched.eight

-- its counts: the characters fed, and each detector's
unfoldable pub counts_in : Running → List ℕ
counts_in s =
    s.fed
    ∷ (eight_of s).symbols.characters
    ∷ (eight_of s).symbols.punctuation
    ∷ (eight_of s).symbols.symbols
    ∷ (eight_of s).accents.characters
    ∷ (eight_of s).accents.accentuated
    ∷ (eight_of s).unprintable.characters
    ∷ (eight_of s).unprintable.unprintable
    ∷ (eight_of s).ranges.characters
    ∷ (eight_of s).ranges.suspicious
    ∷ (eight_of s).doubled.characters
    ∷ (eight_of s).doubled.successive
    ∷ (eight_of s).words.characters
    ∷ (eight_of s).words.words
    ∷ (eight_of s).words.foreign
    ∷ (eight_of s).words.spoilt
    ∷ (eight_of s).words.accents
    ∷ (eight_of s).words.uppercase
    ∷ (eight_of s).words.length
    ∷ (eight_of s).stops.wrong
    ∷ (eight_of s).stops.cjk
    ∷ (eight_of s).archaic.characters
    ∷ (eight_of s).archaic.since
    ∷ (eight_of s).archaic.run
    ∷ (eight_of s).archaic.total
    ∷ []

-- one of the numbers is above m
unfoldable pub any_above : ℕ → List ℕ → Bool
any_above m [] = false
any_above m (x ∷ l) = ltb m x || any_above m l

-- a count is at most this many times the number received
abbrev pub TWICE : ℕ
TWICE = 2

-- the five causes
unfoldable pub unsound : Running → Bool
unsound s =
    not (is_finite s.threshold)
    || (ltb LONGEST_TEXT s.length
    || (ltb s.length s.received
    || (ltb LAST_RANGE (last_range (eight_of s))
    || any_above (TWICE * s.received) (counts_in s))))

-- 19
unfoldable pub bad_state : Running → Result ⊤ Refusal
bad_state s = given (unsound s) BadState 0
