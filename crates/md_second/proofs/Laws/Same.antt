-- The states by the lists are the scan's own (`eight_same`), and so the score by the lists is the scan's (`list_same`). Each detector reads of a character what
-- its list has, and nothing else (`_reads`).
-- Assumes nothing.
use Rattle.std.specs.Prelude.{Option, Some, None}
use Prim.Native.Nat.{ℕ, zero, suc, ◌+◌, ◌≤◌, ◌<◌}
use mathlib.Core.Path.{◌≡◌, refl, sym, ap, ◌∙◌}
use mathlib.Core.Bool.{Bool, ◌&&◌}
use mathlib.Core.List.{List}
use native.Mathlib.Omega.{arith}
use lib.Ieee.{Float, le}
use lib.ListN.{length, get_or}
use borrow.Author.Tests.{lt-ltb, le-ltb}
use Rattle.base.specs.Causes.{refused_at}
use Rattle.base.specs.First.{first}
use Rattle.base.specs.Limits.{LAST_RANGE}
use Rattle.base.specs.declared.refusals.Cause.TheVariants.{Unclassed}
use Rattle.base.proofs.Laws.Causes.{given_yes, free_given}
use Rattle.base.proofs.Laws.First.{first_is, first_none, first_before, first_found, first_within}
use Rattle.base.proofs.Laws.Tests.{split}
use Rattle.classes.specs.declared.Class.{Class}
use Rattle.classes.specs.Inner.Tables.{Tables}
use Rattle.classes.specs.Pairs.{suspicious}
use Rattle.md_counts.specs.TooManySymbolOrPunctuation as symbols
use Rattle.md_counts.specs.TooManyAccentuated as accents
use Rattle.md_counts.specs.Unprintable as unprintable
use Rattle.md_counts.specs.CjkInvalidStop as stops_of
use Rattle.md_neighbours.specs.SuspiciousRange as ranges_of
use Rattle.md_neighbours.specs.SuspiciousDuplicateAccent as doubled
use Rattle.md_words.specs.SuperWeirdWord as weird_words
use Rattle.md_words.specs.ArchaicUpperLower as archaic
use Rattle.md_eight.specs.Detectors.{start, feed}
use Rattle.md_meaning.specs.Text.{char_at, total, checkpoint}
use Rattle.md_meaning.specs.Scan.{fed, class_in, class_at, state_at, stops, sum_of, reaches, accepted_score, no_class, first_unclassed}
use Rattle.md_meaning.specs.Inner.Scan.{scan}
use Rattle.md_meaning.proofs.Laws.Scan.{class_range, unless_allowed, unless_at}
use Rattle.md_second.specs.Second.{SECOND_LONGEST}
use Rattle.md_second.specs.Inner.After.{seen, symbols_after, accents_after, unprintable_after, ranges_after, doubled_after, words_after, stops_after, archaic_after, eight_after}
use Rattle.md_second.specs.Inner.Lists.{class_here, point_at, flags_at, range_at, base_at, Laid}
use Rattle.md_second.specs.Inner.Listed.{Listed, stops_there, list_score}

-- ---- what a detector reads of a character
symbols_reads : (s : _) (c : Class) (p f : ℕ) → p ≡ c.point → f ≡ c.flags → symbols.feed s (seen p f 0 0) ≡ symbols.feed s c
unfolding symbols.feed symbols.printable symbols.adds symbols.repeated
symbols_reads s c p f d e = rw (d, e)

accents_reads : (s : _) (c : Class) (f : ℕ) → f ≡ c.flags → accents.feed s (seen 0 f 0 0) ≡ accents.feed s c
unfolding accents.feed accents.counted
accents_reads s c f e = rw e

unprintable_reads : (s : _) (c : Class) (f : ℕ) → f ≡ c.flags → unprintable.feed s (seen 0 f 0 0) ≡ unprintable.feed s c
unfolding unprintable.feed
unprintable_reads s c f e = rw e

ranges_reads : (s : _) (c : Class) (f r : ℕ) (b : Bool) → f ≡ c.flags → r ≡ c.range → ranges_of.feed s (seen 0 f r 0) b ≡ ranges_of.feed s c b
unfolding ranges_of.feed ranges_of.followed
ranges_reads s c f r b d e = rw (d, e)

doubled_reads : (s : _) (c : Class) (f b : ℕ) → f ≡ c.flags → b ≡ c.base → doubled.feed s (seen 0 f 0 b) ≡ doubled.feed s c
unfolding doubled.feed doubled.letter
doubled_reads s c f b d e = rw (d, e)

words_reads : (s : _) (c : Class) (f : ℕ) → f ≡ c.flags → weird_words.feed s (seen 0 f 0 0) ≡ weird_words.feed s c
unfolding weird_words.feed
words_reads s c f e = rw e

stops_reads : (s : _) (c : Class) (p f : ℕ) → p ≡ c.point → f ≡ c.flags → stops_of.feed s (seen p f 0 0) ≡ stops_of.feed s c
unfolding stops_of.feed
stops_reads s c p f d e = rw (d, e)

archaic_reads : (s : _) (c : Class) (f : ℕ) → f ≡ c.flags → archaic.feed s (seen 0 f 0 0) ≡ archaic.feed s c
unfolding archaic.feed
archaic_reads s c f e = rw e

-- ---- two tests that agree below n have the same first
first_same : (f g : ℕ → Bool) (n : ℕ) → ((i : ℕ) → i < n → f i ≡ g i) → first f n ≡ first g n
first_same f g n e =
    split (first f n) n
    (λ l. sym (first_is g n (first f n) l (sym (e (first f n) l) ∙ first_found f n l) (λ j k. sym (e j (omega arith)) ∙ first_before f n j k)))
    (λ l. let w = first_within f n in
    let z : first f n ≡ n = omega arith in
    z ∙ sym (first_none g n (λ j k. sym (e j k) ∙ first_before f n j (omega arith))))

-- a class that was found has a range that the pair table knows, and 0 is one
in_range : (q : ℕ) (x : Option Class) → ((c : Class) → x ≡ Some c → c.range ≤ LAST_RANGE) → (class_in q x).range ≤ LAST_RANGE
in_range q (Some c) h = h c refl
in_range q None h = omega arith

module _ (classes pairs text points flags ranges bases : List ℕ)
    (p : Laid (point_at classes text) (total text) points) (f : Laid (flags_at classes text) (total text) flags)
    (r : Laid (range_at classes text) (total text) ranges) (b : Laid (base_at classes text) (total text) bases) where
  -- ---- one character more
  eight_more : (i : ℕ) → i < total text
      → eight_after points flags ranges bases pairs (suc i) ≡ fed pairs (eight_after points flags ranges bases pairs i) (class_here classes text i)
  unfolding eight_after symbols_after accents_after unprintable_after ranges_after doubled_after words_after stops_after archaic_after fed feed
  eight_more i h =
      let c = class_here classes text i in
      rw (
        symbols_reads (symbols_after points flags i) c (get_or points i 0) (get_or flags i 0) (p.at i h) (f.at i h),
        accents_reads (accents_after flags i) c (get_or flags i 0) (f.at i h),
        unprintable_reads (unprintable_after flags i) c (get_or flags i 0) (f.at i h),
        ranges_reads (ranges_after flags ranges pairs i) c (get_or flags i 0) (get_or ranges i 0) (suspicious pairs (ranges_after flags ranges pairs i).last (get_or ranges i 0))
            (f.at i h) (r.at i h),
        doubled_reads (doubled_after flags bases i) c (get_or flags i 0) (get_or bases i 0) (f.at i h) (b.at i h),
        words_reads (words_after flags i) c (get_or flags i 0) (f.at i h),
        stops_reads (stops_after points flags i) c (get_or points i 0) (get_or flags i 0) (p.at i h) (f.at i h),
        archaic_reads (archaic_after flags i) c (get_or flags i 0) (f.at i h),
        r.at i h,
      )

  pub eight_same : (i : ℕ) → i ≤ total text → eight_after points flags ranges bases pairs i ≡ state_at classes pairs text i
  unfolding state_at start eight_after symbols_after accents_after unprintable_after ranges_after doubled_after words_after stops_after archaic_after
  eight_same zero h = refl
  eight_same (suc i) h = eight_more i (omega arith) ∙ ap (λ s. fed pairs s (class_here classes text i)) (eight_same i (omega arith))

  -- ---- the same stop, the same score
  stops_same : (threshold : Float) (i : ℕ) → i < total text
      → stops_there points flags ranges bases pairs (length text) threshold i ≡ stops classes pairs text (Some threshold) i
  unfolding stops_there stops reaches
  stops_same threshold i h = ap (λ s. checkpoint (length text) i && le threshold (sum_of s)) (eight_same (i + 1) (omega arith))

  pub list_same : (threshold : Float)
      → list_score points flags ranges bases pairs (length text) threshold ≡ accepted_score classes pairs text (Some threshold)
  unfolding list_score accepted_score
  list_same threshold =
      let k = first_same (stops_there points flags ranges bases pairs (length text) threshold) (stops classes pairs text (Some threshold)) (total text)
      (stops_same threshold) in
      let at = first (stops classes pairs text (Some threshold)) (total text) in
      split at (total text)
      (λ l. simp (k, lt-ltb at (total text) l) (rw (eight_same (at + 1) (omega arith))))
      (λ l. simp (k, le-ltb at (total text) l) (rw (eight_same (total text) (omega arith))))

  pub listed_all : Tables classes pairs → length text ≤ SECOND_LONGEST → Listed points flags ranges bases pairs (length text + 1)
  listed_all t h =
      record {
        points = record { room = omega arith; long = omega (arith, p.long) };
        flags = record { room = omega arith; long = omega (arith, f.long) };
        ranges = record { room = omega arith; long = omega (arith, r.long) };
        bases = record { room = omega arith; long = omega (arith, b.long) };
        pairs = t.fits;
        known = λ j l. rw (r.at j l) (in_range (char_at text j) (class_at classes text j) (class_range classes text t.good j));
        some = omega arith;
      }

-- ---- the first character that has no class
module _ (classes pairs text : List ℕ) (threshold : Float) (bad : ℕ) (e : bad ≡ first_unclassed classes text) where
  pub scan_classless : bad ≤ length text → refused_at Unclassed bad ≡ scan classes pairs text (Some threshold)
  unfolding scan no_class
  scan_classless h = sym (unless_at _ _ Unclassed bad (rw (← e) (given_yes _ Unclassed bad (lt-ltb bad (total text) (omega arith)))))

  pub scan_classed : length text < bad → accepted_score classes pairs text (Some threshold) ≡ scan classes pairs text (Some threshold)
  unfolding scan no_class
  scan_classed h = sym (unless_allowed _ _ (rw (← e) (free_given _ Unclassed bad (le-ltb bad (total text) (omega arith)))))
