-- Runs of characters of one kind, fed to the eight at once, are the same characters fed one by one: a run of one is `feed`, and a run of one more is `feed` after
-- the run. And where `feed` does not read the pair's bit.
-- Assumes nothing.
use Prim.Native.Nat.{ℕ, ◌+◌}
use mathlib.Core.Path.{◌≡◌, refl, sym, ◌∙◌}
use mathlib.Core.Bool.{Bool, true, false, not, ◌&&◌, and_comm, and-false}
use borrow.Author.Tests.{not-true}
use Rattle.base.specs.Flags.{has, WHITESPACE, UNPRINTABLE, SYMBOL, COMMON_SAFE, PUNCTUATION, SEPARATOR, ASCII_ALPHABETIC}
use Rattle.base.specs.Flags.{LATIN, ALPHABETIC, ACCENTUATED, CASE_VARIABLE, LOWERCASE, UPPERCASE}
use Rattle.base.proofs.Laws.Tests.{and_l, and_r}
use Rattle.classes.specs.declared.Class.{Class}
use Rattle.md_counts.specs.CjkInvalidStop.{wrong_stop}
use Rattle.md_counts.specs.Inner.TooManySymbolOrPunctuation.{marked}
use Rattle.md_neighbours.specs.SuspiciousDuplicateAccent.{latin_letter}
use Rattle.md_neighbours.specs.SuspiciousRange.{forgets}
use Rattle.md_neighbours.specs.Inner.SuspiciousRange as in_ranges
use Rattle.md_words.specs.SuperWeirdWord.{closes}
use Rattle.md_words.specs.ArchaicUpperLower.{changes}
use Rattle.md_counts.proofs.Laws.TooManySymbolOrPunctuation as symbols
use Rattle.md_counts.proofs.Laws.TooManyAccentuated as accents
use Rattle.md_counts.proofs.Laws.Unprintable as unprintable
use Rattle.md_neighbours.proofs.Laws.SuspiciousRange as ranges
use Rattle.md_neighbours.proofs.Laws.SuspiciousDuplicateAccent as doubled
use Rattle.md_words.proofs.Laws.SuperWeirdWord as words
use Rattle.md_counts.proofs.Laws.CjkInvalidStop as stops
use Rattle.md_words.proofs.Laws.ArchaicUpperLower as archaic
use Rattle.md_eight.specs.declared.Detectors.{Detectors}
use Rattle.md_eight.specs.Detectors.{start, feed, last_range}
use Rattle.md_eight.specs.Inner.Runs.{is_plain, is_cased, is_uncased, cased_run, uncased_run, lower_class, space_class}

-- what the tests of the flags say, as each detector asks it
record Plain (f : ℕ) : Type 0 where
  printable : has f UNPRINTABLE ≡ false
  unmarked : marked f ≡ false
  unclosed : closes f ≡ false
  kept : forgets f ≡ false
  symbol : has f SYMBOL ≡ false

plain_says : (f : ℕ) → is_plain f ≡ true → Plain f
unfolding is_plain marked closes forgets
plain_says f e =
    let n1 = not (has f UNPRINTABLE) in
    let n2 = not (has f WHITESPACE) in
    let n3 = not (has f PUNCTUATION) in
    let n4 = not (has f SEPARATOR) in
    let n5 = not (has f SYMBOL) in
    let n6 = not (has f COMMON_SAFE) in
    let e5 = and_l (n1 && n2 && n3 && n4 && n5) n6 e in
    let e4 = and_l (n1 && n2 && n3 && n4) n5 e5 in
    let e3 = and_l (n1 && n2 && n3) n4 e4 in
    let e2 = and_l (n1 && n2) n3 e3 in
    let white = not-true (has f WHITESPACE) (and_r n1 n2 e2) in
    let punctuation = not-true (has f PUNCTUATION) (and_r (n1 && n2) n3 e3) in
    let separator = not-true (has f SEPARATOR) (and_r (n1 && n2 && n3) n4 e4) in
    let symbol = not-true (has f SYMBOL) (and_r (n1 && n2 && n3 && n4) n5 e5) in
    let common = not-true (has f COMMON_SAFE) (and_r (n1 && n2 && n3 && n4 && n5) n6 e) in
    record {
      printable = not-true (has f UNPRINTABLE) (and_l n1 n2 e2);
      unmarked = rw (punctuation, symbol);
      unclosed = rw (white, punctuation, separator);
      kept = rw (white, punctuation, common);
      symbol = symbol;
    }

record Cased (f : ℕ) : Type 0 where
  plain : Plain f
  case : has f ALPHABETIC && has f CASE_VARIABLE ≡ true
  unaccented : has f LATIN && has f ACCENTUATED ≡ false
  steady : changes f f ≡ false

cased_says : (f : ℕ) → is_cased f ≡ true → Cased f
unfolding is_cased changes
cased_says f e =
    let p = is_plain f in
    let a = has f ALPHABETIC in
    let v = has f CASE_VARIABLE in
    let l = has f LATIN && has f ACCENTUATED in
    let b = has f UPPERCASE && has f LOWERCASE in
    let e3 = and_l (p && a && v && not l) (not b) e in
    let e2 = and_l (p && a && v) (not l) e3 in
    let e1 = and_l (p && a) v e2 in
    let one = not-true b (and_r (p && a && v && not l) (not b) e) in
    record {
      plain = plain_says f (and_l p a e1);
      case = rw (and_r p a e1) (and_r (p && a) v e2);
      unaccented = not-true l (and_r (p && a && v) (not l) e3);
      steady = rw one (and_comm (has f LOWERCASE) (has f UPPERCASE) ∙ one);
    }

record Uncased (f : ℕ) : Type 0 where
  plain : Plain f
  letter : has f ASCII_ALPHABETIC ≡ false
  case : has f ALPHABETIC && has f CASE_VARIABLE ≡ false
  latin : latin_letter f ≡ false

uncased_says : (f : ℕ) → is_uncased f ≡ true → Uncased f
unfolding is_uncased latin_letter
uncased_says f e =
    let p = is_plain f in
    let n1 = not (has f ASCII_ALPHABETIC) in
    let n2 = not (has f CASE_VARIABLE) in
    let n3 = not (has f LATIN) in
    let e2 = and_l (p && n1 && n2) n3 e in
    let e1 = and_l (p && n1) n2 e2 in
    record {
      plain = plain_says f (and_l p n1 e1);
      letter = not-true (has f ASCII_ALPHABETIC) (and_r p n1 e1);
      case = rw (not-true (has f CASE_VARIABLE) (and_r (p && n1) n2 e2)) (and-false (has f ALPHABETIC));
      latin = rw (not-true (has f LATIN) (and_r (p && n1 && n2) n3 e)) (and-false (has f ALPHABETIC));
    }

-- letters with case
pub cased_one : (s : Detectors) (c : Class) (x y : Bool)
    → is_cased c.flags ≡ true
    → wrong_stop c.point ≡ false
    → cased_run s c 1 c.point c.base x y ≡ feed s c x
unfolding cased_run feed
cased_one s c x y e w =
    let k = cased_says c.flags e in
    let p = k.plain in
    simp (
      symbols.run_one s.symbols c p.printable p.unmarked,
      accents.run_one s.accents c,
      unprintable.run_one s.unprintable c p.printable,
      ranges.run_one s.ranges c p.printable p.kept x y,
      doubled.run_one s.doubled c k.unaccented,
      words.run_one s.words c p.unclosed p.symbol,
      stops.run_one s.stops c w,
      archaic.cased_one s.archaic c k.case,
    )

pub cased_more : (s : Detectors) (c d : Class) (m p b : ℕ) (x y : Bool)
    → is_cased c.flags ≡ true
    → d.flags ≡ c.flags
    → d.range ≡ c.range
    → wrong_stop d.point ≡ false
    → cased_run s c (m + 2) d.point d.base x y ≡ feed (cased_run s c (m + 1) p b x y) d y
unfolding cased_run feed
cased_more s c d m p b x y e f r w =
    let k = cased_says d.flags (rw f e) in
    let q = k.plain in
    simp (
      sym f,
      sym r,
      symbols.run_more s.symbols d q.printable q.unmarked m p,
      accents.run_more s.accents d m,
      unprintable.run_more s.unprintable d q.printable m,
      ranges.run_more s.ranges d q.printable q.kept x y m,
      doubled.run_more s.doubled d k.unaccented m b,
      words.run_more s.words d q.unclosed q.symbol m,
      stops.run_more s.stops d w m,
      archaic.cased_more s.archaic d m k.case k.steady,
    )

pub cased_last : (s : Detectors) (c : Class) (m p b : ℕ) (x y : Bool) → last_range (cased_run s c m p b x y) ≡ c.range
unfolding cased_run in_ranges.feed_run
cased_last s c m p b x y = refl

-- a state that feeding reaches: archaic case keeps nothing where it has seen nothing since the last separator
abbrev pub Settled : Detectors → Type 0
Settled s = archaic.Settled s.archaic

pub start_settled : Settled start
unfolding start
start_settled = archaic.start_settled

pub feed_settled : (s : Detectors) (c : Class) (x : Bool) → Settled (feed s c x)
unfolding feed
feed_settled s c x = archaic.feed_settled s.archaic c

-- characters without case
pub uncased_one : (s : Detectors) (c : Class) (x y : Bool)
    → Settled s
    → is_uncased c.flags ≡ true
    → wrong_stop c.point ≡ false
    → uncased_run s c 1 c.point x y ≡ feed s c x
unfolding uncased_run feed
uncased_one s c x y t e w =
    let k = uncased_says c.flags e in
    let p = k.plain in
    simp (
      symbols.run_one s.symbols c p.printable p.unmarked,
      accents.run_one s.accents c,
      unprintable.run_one s.unprintable c p.printable,
      ranges.run_one s.ranges c p.printable p.kept x y,
      doubled.feed_passes s.doubled c k.latin,
      words.feed_passes s.words c p.unclosed p.symbol k.letter,
      stops.run_one s.stops c w,
      archaic.uncased_one s.archaic c k.case t,
    )

pub uncased_more : (s : Detectors) (c d : Class) (m p : ℕ) (x y : Bool)
    → is_uncased c.flags ≡ true
    → d.flags ≡ c.flags
    → d.range ≡ c.range
    → wrong_stop d.point ≡ false
    → uncased_run s c (m + 2) d.point x y ≡ feed (uncased_run s c (m + 1) p x y) d y
unfolding uncased_run feed
uncased_more s c d m p x y e f r w =
    let k = uncased_says d.flags (rw f e) in
    let q = k.plain in
    simp (
      sym f,
      sym r,
      symbols.run_more s.symbols d q.printable q.unmarked m p,
      accents.run_more s.accents d m,
      unprintable.run_more s.unprintable d q.printable m,
      ranges.run_more s.ranges d q.printable q.kept x y m,
      doubled.feed_passes s.doubled d k.latin,
      words.feed_passes s.words d q.unclosed q.symbol k.letter,
      stops.run_more s.stops d w m,
      archaic.uncased_more s.archaic d k.case m,
    )

pub uncased_last : (s : Detectors) (c : Class) (m p : ℕ) (x y : Bool) → last_range (uncased_run s c m p x y) ≡ c.range
unfolding uncased_run in_ranges.feed_run
uncased_last s c m p x y = refl

-- the space forgets the last range, so that the pair's bit is not read
forgets_any : (s : Detectors) (c : Class) (x y : Bool) → has c.flags UNPRINTABLE ≡ false → forgets c.flags ≡ true → feed s c x ≡ feed s c y
unfolding feed
forgets_any s c x y e f = simp (ranges.feed_forgets s.ranges c x e f, ranges.feed_forgets s.ranges c y e f)

pub space_any : (s : Detectors) (x y : Bool) → feed s space_class x ≡ feed s space_class y
unfolding has forgets
space_any s x y = forgets_any s space_class x y refl refl

-- an ASCII lower-case letter may stand in a run
pub lower_cased : (p : ℕ) → is_cased (lower_class p).flags ≡ true
unfolding is_cased is_plain has
lower_cased p = refl
