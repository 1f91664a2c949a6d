-- The watched state is the scan's state (`watched_eight`), and each of its places is that of the last growth (`last_growth`). For those that step a state
-- that they did not start: what a step does to the eight (`watch_eight`) and to each place (`watch_growth`).
-- Assumes nothing.
use Rattle.std.specs.Prelude.{Some}
use Prim.Native.Nat.{ℕ, zero, suc, ◌+◌, ◌≤◌}
use mathlib.Core.Path.{◌≡◌, refl, sym, ap, ◌∙◌}
use mathlib.Core.Bool.{Bool, cond}
use mathlib.Core.List.{List}
use native.Mathlib.Numerals.{add-one}
use native.Mathlib.Omega.{arith}
use lib.Dec.{ltb}
use Rattle.base.specs.Inner.Limits.{LARGEST}
use Rattle.classes.specs.declared.Class.{Class}
use Rattle.ratio.specs.declared.EightCounts.{EightCounts}
use Rattle.classes.specs.Pairs.{suspicious}
use Rattle.md_eight.specs.declared.Detectors.{Detectors}
use Rattle.md_eight.specs.Detectors.{feed, counts, last_range}
use Rattle.md_eight.proofs.Loops.Detectors.{Within, feed_within, within_room, within_countable}
use Rattle.md_meaning.specs.Text.{char_at}
use Rattle.md_meaning.specs.Scan.{fed, class_in, class_at, state_at}
use Rattle.md_growth.specs.declared.Growths.{Growths}
use Rattle.md_growth.specs.declared.Watched.{Watched}
use Rattle.md_growth.specs.Growth.{no_growths, grown_after, start, watch}
use Rattle.md_growth.specs.Text.{numerator_of, growth_of, last_of, watched_next, numerator_at, grows, watched_at}
use Rattle.md_growth.specs.Inner.Growth.{Watchable}

-- ---- one step
pub watch_eight : (w : Watched) (c : Class) (suspicious : Bool) (place : ℕ) → (watch w c suspicious place).eight ≡ feed w.eight c suspicious
unfolding watch
watch_eight w c suspicious place = refl

none_grown : (d : ℕ) → growth_of d no_growths ≡ 0
unfolding growth_of no_growths
none_grown zero = refl
none_grown (suc zero) = refl
none_grown (suc (suc zero)) = refl
none_grown (suc (suc (suc zero))) = refl
none_grown (suc (suc (suc (suc zero)))) = refl
none_grown (suc (suc (suc (suc (suc zero))))) = refl
none_grown (suc (suc (suc (suc (suc (suc zero)))))) = refl
none_grown (suc (suc (suc (suc (suc (suc (suc zero))))))) = refl
none_grown (suc (suc (suc (suc (suc (suc (suc (suc zero)))))))) = refl
none_grown (suc (suc (suc (suc (suc (suc (suc (suc (suc d))))))))) = refl

module _ (g : Growths) (b a : EightCounts) (place : ℕ) where
  growth_after : (d : ℕ) → growth_of d (grown_after g b a place) ≡ cond (ltb (numerator_of d b) (numerator_of d a)) place (growth_of d g)
  unfolding growth_of numerator_of grown_after
  growth_after zero = refl
  growth_after (suc zero) = refl
  growth_after (suc (suc zero)) = refl
  growth_after (suc (suc (suc zero))) = refl
  growth_after (suc (suc (suc (suc zero)))) = refl
  growth_after (suc (suc (suc (suc (suc zero))))) = refl
  growth_after (suc (suc (suc (suc (suc (suc zero)))))) = refl
  growth_after (suc (suc (suc (suc (suc (suc (suc zero))))))) = refl
  growth_after (suc (suc (suc (suc (suc (suc (suc (suc zero)))))))) = refl
  growth_after (suc (suc (suc (suc (suc (suc (suc (suc (suc d))))))))) = refl

-- a place moves exactly where the numerator of the counts grows
pub watch_growth : (d : ℕ) (w : Watched) (c : Class) (suspicious : Bool) (place : ℕ) → growth_of d (watch w c suspicious place).grown
    ≡ cond (ltb (numerator_of d (counts w.eight)) (numerator_of d (counts (feed w.eight c suspicious)))) place (growth_of d w.grown)
unfolding watch
watch_growth d w c suspicious place = growth_after w.grown (counts w.eight) (counts (feed w.eight c suspicious)) place d

-- after k characters there is room for one more
pub within_watchable : (k : ℕ) (w : Watched) → Within k w.eight → k + 1 ≤ LARGEST → (c : Class) (suspicious : Bool) → Watchable w c suspicious
within_watchable k w h l c suspicious =
    record {
      room = within_room k w.eight h (omega arith);
      before = within_countable k w.eight h (omega arith);
      after = within_countable (k + 1) (feed w.eight c suspicious) (feed_within k w.eight h c suspicious) l;
    }

-- ---- over a text
module _ (classes pairs text : List ℕ) where
  pub watched_start : watched_at classes pairs text 0 ≡ start
  unfolding watched_at
  watched_start = refl

  -- one character more, where the lookup found its class
  pub watched_more : (i : ℕ) (c : Class) → class_at classes text i ≡ Some c
      → watched_at classes pairs text (i + 1) ≡ watched_next pairs (watched_at classes pairs text i) c (i + 1)
  unfolding watched_at
  watched_more i c e = ap (watched_at classes pairs text) (add-one i) ∙ rw e

  next_eight : (w : Watched) (c : Class) (place : ℕ) → (watched_next pairs w c place).eight ≡ fed pairs w.eight c
  unfolding watched_next watch fed
  next_eight w c place = refl

  -- its eight are the scan's
  pub watched_eight : (i : ℕ) → (watched_at classes pairs text i).eight ≡ state_at classes pairs text i
  unfolding watched_at state_at start
  watched_eight zero = refl
  watched_eight (suc i) =
      next_eight (watched_at classes pairs text i) _ (i + 1) ∙ ap (λ (s : Detectors). fed pairs s (class_in (char_at text i) (class_at classes text i))) (watched_eight i)

  next_growth : (d : ℕ) (w : Watched) (c : Class) (place : ℕ) → growth_of d (watched_next pairs w c place).grown
      ≡ cond (ltb (numerator_of d (counts w.eight)) (numerator_of d (counts (fed pairs w.eight c)))) place (growth_of d w.grown)
  unfolding watched_next fed
  next_growth d w c place = watch_growth d w c (suspicious pairs (last_range w.eight) c.range) place

  state_next : (i : ℕ) → state_at classes pairs text (i + 1) ≡ fed pairs (state_at classes pairs text i) (class_in (char_at text i) (class_at classes text i))
  unfolding state_at
  state_next i = ap (state_at classes pairs text) (add-one i)

  grows_by : (d i : ℕ) → grows classes pairs text d i
      ≡ ltb (numerator_at classes pairs text d i) (numerator_of d (counts (fed pairs (state_at classes pairs text i) (class_in (char_at text i) (class_at classes text i)))))
  unfolding grows
  grows_by d i = rw (state_next i)

  -- each place is that of the last growth: the last index before i at which the numerator grew, and 1, or 0 where it never has
  pub last_growth : (d i : ℕ) → growth_of d (watched_at classes pairs text i).grown ≡ last_of (grows classes pairs text d) i
  unfolding watched_at last_of start
  last_growth d zero = none_grown d
  last_growth d (suc i) =
      next_growth d (watched_at classes pairs text i) _ (i + 1) ∙ rw (watched_eight i, last_growth d i, grows_by d i)
