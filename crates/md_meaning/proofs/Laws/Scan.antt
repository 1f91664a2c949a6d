-- Laws of the scan's definition: the state after one character more, how large it can be, and when a scan stops; and of the answer unless there
-- is a cause (`unless_allowed`, `unless_refused`, `unless_at`, `unless_score`).
-- Assumes nothing.
use Rattle.std.specs.Prelude.{Result, Ok, Err, Option, Some, None, ⊤}
use Prim.Native.Nat.{ℕ, zero, suc, ◌+◌, ◌≤◌, ◌<◌}
use mathlib.Core.Path.{◌≡◌, refl, sym}
use mathlib.Core.List.{List, [], ◌∷◌}
use mathlib.Core.Bool.{Bool, true, false, true≢false}
use native.Mathlib.Nat.{le_of_suc-le-suc, not-suc-le-zero}
use native.Mathlib.Numerals.{add-one}
use native.Mathlib.Omega.{arith}
use lib.Ieee.{Float, le}
use lib.ListN.{length, get_or}
use Rattle.base.specs.declared.refusals.Cause.{Cause}
use Rattle.base.specs.declared.Refusal.{Refusal}
use Rattle.base.specs.Causes.{refused_at}
use Rattle.base.specs.Flags.{has, ASCII_ALPHABETIC, LATIN, ACCENTUATED}
use Rattle.base.specs.Limits.{LAST_RANGE}
use Rattle.classes.specs.declared.Class.{Class}
use Rattle.classes.specs.Lookup.{class_of}
use Rattle.classes.proofs.Laws.Lookup.{Lawful, class_lawful}
use Rattle.class_records.specs.Records.{good_table}
use Rattle.ratio.specs.declared.EightCounts.{EightCounts}
use Rattle.md_eight.specs.declared.Detectors.{Detectors}
use Rattle.md_eight.specs.Detectors.{start, counts, last_range}
use Rattle.md_eight.specs.Inner.Detectors.{FedCount, Slim}
use Rattle.md_eight.proofs.Laws.Recounted.{start_fed_count, feed_fed_count, start_slim, feed_slim}
use Rattle.md_eight.proofs.Loops.Detectors.{Within, start_within, feed_within, start_last, feed_last}
use Rattle.md_meaning.specs.declared.Score.{Score}
use Rattle.md_meaning.specs.Text.{char_at}
use Rattle.md_meaning.specs.Scan.{fed, class_in, class_at, unclassed, state_at, reaches, sum_of, scored, unless}
use Rattle.md_meaning.specs.Inner.Scan.{answered}

-- inside a list it does not matter what would stand past its end
pub get_d_any : (l : List ℕ) (i a b : ℕ) → i < length l → get_or l i a ≡ get_or l i b
get_d_any [] i a b h = absurd (not-suc-le-zero h)
get_d_any (x ∷ l) zero a b h = refl
get_d_any (x ∷ l) (suc i) a b h = get_d_any l i a b (le_of_suc-le-suc h)

pub reaches_threshold : (l : Option Float) (t x : Float) → l ≡ Some t → reaches l x ≡ le t x
unfolding reaches
reaches_threshold l t x e = rw e

pub reaches_never : (l : Option Float) (x : Float) → l ≡ None → reaches l x ≡ false
unfolding reaches
reaches_never l x e = rw e

module _ (classes text : List ℕ) where
  pub is_unclassed : (i : ℕ) → class_at classes text i ≡ None → unclassed classes text i ≡ true
  unfolding unclassed
  is_unclassed i e = rw e

  pub is_classed : (i : ℕ) (c : Class) → class_at classes text i ≡ Some c → unclassed classes text i ≡ false
  unfolding unclassed
  is_classed i c e = rw e

  -- a class that a good table gives has a range that the pair table knows
  pub class_range : good_table classes ≡ true → (i : ℕ) (c : Class) → class_at classes text i ≡ Some c → c.range ≤ LAST_RANGE
  unfolding class_at
  class_range g i c e = (class_lawful classes g (char_at text i) c e).range

module _ (classes pairs text : List ℕ) where
  pub state_start : state_at classes pairs text 0 ≡ start
  unfolding state_at
  state_start = refl

  -- one character more, where the lookup found its class
  pub state_more : (i : ℕ) (c : Class) → class_at classes text i ≡ Some c → state_at classes pairs text (i + 1) ≡ fed pairs (state_at classes pairs text i) c
  unfolding state_at
  state_more i c e = rw (add-one, e)

  -- after i characters the counts are what i characters can give
  pub state_within : (i : ℕ) → Within i (state_at classes pairs text i)
  unfolding state_at fed
  state_within zero = start_within
  state_within (suc i) = rw (← add-one i) (feed_within i (state_at classes pairs text i) (state_within i) _ _)

  -- and four of them are told by i
  pub state_fed_count : (i : ℕ) → FedCount (state_at classes pairs text i) i
  unfolding state_at fed
  state_fed_count zero = start_fed_count
  state_fed_count (suc i) = rw (← add-one i) (feed_fed_count (state_at classes pairs text i) i (state_fed_count i) _ _)

  in_range : (p : ℕ) (f : Option Class) → ((c : Class) → f ≡ Some c → c.range ≤ LAST_RANGE) → (class_in p f).range ≤ LAST_RANGE
  in_range p (Some c) r = r c refl
  in_range p None r = omega arith

  latin_in : (p : ℕ) (f : Option Class) → ((c : Class) → f ≡ Some c → Lawful p c) → has (class_in p f).flags ASCII_ALPHABETIC ≡ true → has (class_in p f).flags LATIN ≡ true
  unfolding has
  latin_in p (Some c) r h = (r c refl).latin h
  latin_in p None r h = absurd (true≢false (sym h))

  plain_in : (p : ℕ) (f : Option Class) → ((c : Class) → f ≡ Some c → Lawful p c) → has (class_in p f).flags ASCII_ALPHABETIC ≡ true → has (class_in p f).flags ACCENTUATED ≡ false
  unfolding has
  plain_in p (Some c) r h = (r c refl).plain h
  plain_in p None r h = absurd (true≢false (sym h))

  -- over a good table no word is watched: ASCII letters alone enter one, and they are Latin and have no accent
  pub state_slim : good_table classes ≡ true → (i : ℕ) → Slim (state_at classes pairs text i)
  unfolding state_at fed class_at
  state_slim g zero = start_slim
  state_slim g (suc i) =
      let lawful = class_lawful classes g (char_at text i) in
      feed_slim (state_at classes pairs text i) (state_slim g i) _ _
      (latin_in (char_at text i) (class_of classes (char_at text i)) lawful)
      (plain_in (char_at text i) (class_of classes (char_at text i)) lawful)

  -- over a good table the range that the ranges detector remembers is one that the pair table knows
  pub state_range : good_table classes ≡ true → (i : ℕ) → last_range (state_at classes pairs text i) ≤ LAST_RANGE
  unfolding state_at fed
  state_range g zero = start_last LAST_RANGE
  state_range g (suc i) =
      feed_last LAST_RANGE (state_at classes pairs text i) _ _ (state_range g i)
      (in_range (char_at text i) (class_at classes text i) (class_range classes text g i))

module _ (c : Result ⊤ Refusal) (x : Result Score Refusal) where
  pub unless_allowed : c ≡ Ok tt → unless c x ≡ x
  unfolding unless
  unless_allowed e = rw e

  pub unless_refused : (r : Refusal) → c ≡ Err r → unless c x ≡ Err r
  unfolding unless
  unless_refused r e = rw e

  pub unless_at : (cause : Cause) (place : ℕ) → c ≡ refused_at cause place → unless c x ≡ refused_at cause place
  unfolding unless refused_at
  unless_at cause place e = rw e

-- a score is an accepted answer
pub unless_score : (c : Result ⊤ Refusal) (x : Result Score Refusal) (s : Score) → unless c x ≡ Ok s → (c ≡ Ok tt) × (x ≡ Ok s)
unfolding unless
unless_score (Ok u) x s e = (refl, e)
unless_score (Err r) x s e = let z : ◌≡◌ {A = ℕ} 0 1 = cc in absurd (omega arith)

-- the answer that the counts of a state make is the state's
pub answered_state : (c : EightCounts) (s : Detectors) (n : ℕ) (early : Bool) → c ≡ counts s → answered c n early ≡ scored s n early
unfolding answered scored sum_of
answered_state c s n early e = rw e
