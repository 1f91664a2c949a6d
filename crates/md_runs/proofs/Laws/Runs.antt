-- Characters of one kind in a row, fed at once, come to the state that the definition reaches one by one (`cased_run_lem`, `uncased_run_lem`), by induction over their
-- number; and each step of the scan that feeds a run or a single character has advanced (`Advanced`).
-- Assumes nothing.
use Rattle.std.specs.Prelude.{Some, None}
use Rattle.std.proofs.Common.{
  ◌≡◌,
  ℕ,
  zero,
  suc,
  ◌+◌,
  ◌-◌,
  ◌<◌,
  ◌≤◌,
  Bool,
  true,
  false,
  not,
  ◌&&◌,
  eqb,
  ltb,
  leb,
  List,
  length,
  get_or,
  sym,
  refl,
  ap,
  ◌∙◌,
  add-one,
  arith,
  lt-ltb,
  ne_eqb,
  eqb-true,
  leb-false,
  leb-true,
}
use lib.ListN.{get_or-eq_default}
use borrow.Author.Tests.{not-true}
use Rattle.base.specs.Limits.{BUILTIN_END, NEWLINE, LAST_RANGE, LONGEST_TEXT}
use Rattle.base.proofs.Laws.Tests.{split, and_l, and_r, within_lo, within_hi}
use Rattle.class_records.specs.declared.Record.{Record}
use Rattle.class_records.specs.Records.{records, record_at, holder}
use Rattle.classes.specs.declared.Class.{Class}
use Rattle.classes.specs.Inner.Tables.{Tables}
use Rattle.classes.specs.Lookup.{or_self, record_class}
use Rattle.classes.specs.Pairs.{suspicious}
use Rattle.classes.proofs.Laws.Lookup.{class_builtin, class_lent, lent_none, class_lawful}
use Rattle.md_counts.specs.CjkInvalidStop.{wrong_stop, STOP_UP, STOP_DOWN}
use Rattle.md_eight.specs.declared.Detectors.{Detectors}
use Rattle.md_eight.specs.Detectors.{feed, last_range}
use Rattle.md_eight.specs.Inner.Detectors.{Room, Slim}
use Rattle.md_eight.specs.Inner.Runs.{is_cased, is_uncased, cased_run, uncased_run, lower_class, LOWER_FIRST, LOWER_LAST, BASIC_LATIN, SPACE, space_class}
use Rattle.md_eight.proofs.Loops.Detectors.{within_room}
use Rattle.md_eight.proofs.Laws.Runs.{cased_one, cased_more, cased_last, uncased_one, uncased_more, uncased_last, Settled, start_settled, feed_settled, lower_cased}
use Rattle.md_eight.proofs.Laws.Runs.{space_any}
use Rattle.md_runs.specs.declared.Alike.{Alike}
use Rattle.md_runs.specs.declared.Fed.{Fed}
use Rattle.md_meaning.specs.Text.{char_at, checkpoint}
use Rattle.md_meaning.specs.Scan.{fed, class_in, class_at, state_at}
use Rattle.md_rest.specs.Inner.Rest.{Past}
use Rattle.md_text.specs.Inner.Pieces.{Piece}
use Rattle.md_runs.specs.Inner.Runs.{Run, Low, High, HeldAt, Lent, AlikeOf, Spaced, Before, Advanced}
use Rattle.md_runs.proofs.Laws.Ascii.{lower_class_lem, lower_stop, space_class_lem}
use Rattle.class_records.proofs.Laws.Records.{held_past}
use Rattle.md_rest.proofs.Laws.Rest.{held_class, holder_hold, holder_holds}
use Rattle.md_meaning.proofs.Laws.Scan.{get_d_any, is_classed, state_within, state_range, state_slim, class_range}

pub untrue : {A : Type 0} → false ≡ true → A
untrue e = let z : ◌≡◌ {A = ℕ} 0 1 = cc in absurd (omega arith)

-- a run that ends with its piece at the latest
pub run_ended : (text : List ℕ) (low high i end r : ℕ) → Piece (length text) i end → Past text low high (i + 1) end r → Run text low high i r
run_ended text low high i end r p s =
    record {
      begins = omega (arith, s.begins);
      ends = omega (arith, s.ends, p.ends);
      quiet = λ j a b. p.quiet j a (omega (arith, b, s.ends));
      least = λ j a b. s.least j (omega (arith, a)) b;
      most = λ j a b. s.most j (omega (arith, a)) b;
    }

-- ---- the wrong stops
pub right_is : (q : ℕ) → (q ≡ STOP_UP → ⊥) → (q ≡ STOP_DOWN → ⊥) → wrong_stop q ≡ false
right_is q a b = rw (ne_eqb q STOP_UP a, ne_eqb q STOP_DOWN b)

right_side : {A : Type 0} (p : ℕ) → wrong_stop p ≡ false → (p < STOP_UP → A) → (STOP_DOWN < p → A) → A
right_side p w a b =
    split p STOP_UP a (λ h. split STOP_DOWN p b (λ l. absurd (between h l)))
  where
    no : true ≡ false → ⊥
    no e = let z : ◌≡◌ {A = ℕ} 0 1 = cc in omega arith

    between : STOP_UP ≤ p → p ≤ STOP_DOWN → ⊥
    between h l =
        split p STOP_DOWN
        (λ m. let e : p ≡ STOP_UP = omega (arith, h, m) in no (rw e at w))
        (λ m. let e : p ≡ STOP_DOWN = omega (arith, l, m) in no (rw e at w))

module _ (first p : ℕ) where
  pub low_past : leb first STOP_DOWN && ltb STOP_DOWN p ≡ true → Low first p (STOP_DOWN + 1)
  low_past e =
      record { least = omega (arith, leb-true first STOP_DOWN (and_l (leb first STOP_DOWN) (ltb STOP_DOWN p) e)); past = λ h. omega arith }

  pub low_first : leb first STOP_DOWN && ltb STOP_DOWN p ≡ false → Low first p first
  low_first e = record { least = omega arith; past = λ h. leb-false first STOP_DOWN (left (leb first STOP_DOWN) (rw (lt-ltb STOP_DOWN p h) at e)) }
    where
      left : (a : Bool) → a && true ≡ false → a ≡ false
      left true e = e
      left false e = refl

module _ (last p : ℕ) where
  pub high_before : leb STOP_UP last && ltb p STOP_UP ≡ true → High last p (STOP_UP - 1)
  high_before e =
      record { most = omega (arith, leb-true STOP_UP last (and_l (leb STOP_UP last) (ltb p STOP_UP) e)); before = λ h. omega arith }

  pub high_last : leb STOP_UP last && ltb p STOP_UP ≡ false → High last p last
  high_last e = record { most = omega arith; before = λ h. leb-false STOP_UP last (left (leb STOP_UP last) (rw (lt-ltb p STOP_UP h) at e)) }
    where
      left : (a : Bool) → a && true ≡ false → a ≡ false
      left true e = e
      left false e = refl

pub alike_made : (classes : List ℕ) (p low high b at : ℕ) (r : Record) → Lent classes p at → r ≡ record_at classes at
    → Low r.first p low → High r.last p high → b ≡ r.base
    → AlikeOf classes p (record { low = low; high = high; base = b })
alike_made classes p low high b at r l f lo hi m =
    let is : r ≡ record_at classes (holder classes p) = f ∙ rw l.is in
    record {
      base = m ∙ rw is;
      from = λ q h. rw (← is) (omega (arith, lo.least, h));
      to = λ q h. rw (← is) (omega (arith, hi.most, h));
      right = λ q a z. right_side p l.right
          (λ k. right_is q (λ y. omega (arith, y, z, hi.before k)) (λ y. omega (arith, y, z, hi.before k)))
          (λ k. right_is q (λ y. omega (arith, y, a, lo.past k)) (λ y. omega (arith, y, a, lo.past k)));
    }

-- ---- runs of the scan
module _ (classes pairs text : List ℕ) where
  -- what the definition feeds at j
  abbrev pub at : ℕ → Class
  at j = class_in (char_at text j) (class_at classes text j)

  abbrev pub after : ℕ → Detectors
  after = state_at classes pairs text

  step : (j : ℕ) → after (j + 1) ≡ feed (after j) (at j) (suspicious pairs (last_range (after j)) (at j).range)
  unfolding state_at fed
  step j = rw (add-one j)

  settled : (j : ℕ) → Settled (after j)
  unfolding state_at fed
  settled zero = start_settled
  settled (suc j) = feed_settled (after j) (at j) (suspicious pairs (last_range (after j)) (at j).range)

  -- k characters behind i are of its kind
  pub record Alikes (i k : ℕ) : Type 0 where
    pub flags : (j : ℕ) → j ≤ k → (at (i + j)).flags ≡ (at i).flags
    pub range : (j : ℕ) → j ≤ k → (at (i + j)).range ≡ (at i).range
    pub right : (j : ℕ) → j ≤ k → wrong_stop (at (i + j)).point ≡ false

  fewer : (i k : ℕ) → Alikes i (suc k) → Alikes i k
  fewer i k a =
      record {
        flags = λ j h. a.flags j (omega (arith, h));
        range = λ j h. a.range j (omega (arith, h));
        right = λ j h. a.right j (omega (arith, h));
      }

  first_right : (i k : ℕ) → Alikes i k → wrong_stop (at i).point ≡ false
  first_right i k a = let e : i + 0 ≡ i = omega arith in rw e at (a.right 0 (omega arith))

  -- one more, whatever the run before it came to
  one_more : (i k : ℕ) (s : Detectors) → Alikes i (suc k) → s ≡ after (i + k + 1) → last_range s ≡ (at i).range
      → feed s (at (i + suc k)) (suspicious pairs (at i).range (at i).range) ≡ after (i + suc k + 1)
  one_more i k s a e l =
      let z : i + suc k ≡ i + k + 1 = omega arith in
      let j = i + suc k in
      let here : after j ≡ s = rw z (sym e) in
      let pair : suspicious pairs (last_range s) (at j).range ≡ suspicious pairs (at i).range (at i).range =
      ap (λ (x : ℕ). suspicious pairs x (at j).range) l ∙ ap (λ (x : ℕ). suspicious pairs (at i).range x) (a.range (suc k) (omega arith)) in
      sym (step j ∙ ap (λ (x : Detectors). feed x (at j) (suspicious pairs (last_range x) (at j).range)) here ∙ ap (λ (x : Bool). feed s (at j) x) pair)

  pub cased_run_lem : (i k : ℕ) → Alikes i k → is_cased (at i).flags ≡ true
      → cased_run (after i) (at i) (k + 1) (at (i + k)).point (at (i + k)).base (suspicious pairs (last_range (after i)) (at i).range)
      (suspicious pairs (at i).range (at i).range)
      ≡ after (i + k + 1)
  cased_run_lem i zero a e =
      let z : i + 0 ≡ i = omega arith in
      rw z (cased_one (after i) (at i) (suspicious pairs (last_range (after i)) (at i).range) (suspicious pairs (at i).range (at i).range) e (first_right i zero a)
      ∙ sym (step i))
  cased_run_lem i (suc k) a e =
      let x = suspicious pairs (last_range (after i)) (at i).range in
      let y = suspicious pairs (at i).range (at i).range in
      let z : suc k + 1 ≡ k + 2 = omega arith in
      rw z (cased_more (after i) (at i) (at (i + suc k)) k (at (i + k)).point (at (i + k)).base x y e
      (a.flags (suc k) (omega arith)) (a.range (suc k) (omega arith)) (a.right (suc k) (omega arith))
      ∙ one_more i k (cased_run (after i) (at i) (k + 1) (at (i + k)).point (at (i + k)).base x y) a
      (cased_run_lem i k (fewer i k a) e) (cased_last (after i) (at i) (k + 1) (at (i + k)).point (at (i + k)).base x y))

  pub uncased_run_lem : (i k : ℕ) → Alikes i k → is_uncased (at i).flags ≡ true
      → uncased_run (after i) (at i) (k + 1) (at (i + k)).point (suspicious pairs (last_range (after i)) (at i).range)
      (suspicious pairs (at i).range (at i).range)
      ≡ after (i + k + 1)
  uncased_run_lem i zero a e =
      let z : i + 0 ≡ i = omega arith in
      rw z (uncased_one (after i) (at i) (suspicious pairs (last_range (after i)) (at i).range) (suspicious pairs (at i).range (at i).range) (settled i) e
      (first_right i zero a)
      ∙ sym (step i))
  uncased_run_lem i (suc k) a e =
      let x = suspicious pairs (last_range (after i)) (at i).range in
      let y = suspicious pairs (at i).range (at i).range in
      let z : suc k + 1 ≡ k + 2 = omega arith in
      rw z (uncased_more (after i) (at i) (at (i + suc k)) k (at (i + k)).point x y e
      (a.flags (suc k) (omega arith)) (a.range (suc k) (omega arith)) (a.right (suc k) (omega arith))
      ∙ one_more i k (uncased_run (after i) (at i) (k + 1) (at (i + k)).point x y) a
      (uncased_run_lem i k (fewer i k a) e) (uncased_last (after i) (at i) (k + 1) (at (i + k)).point x y))

  at_is : (j : ℕ) (x : Class) → class_at classes text j ≡ Some x → at j ≡ x
  at_is j x e = rw e

cased_class : (s : Detectors) (c d : Class) (m p b : ℕ) (x y : Bool) → c.flags ≡ d.flags → c.range ≡ d.range → cased_run s c m p b x y ≡ cased_run s d m p b x y
unfolding cased_run
cased_class s c d m p b x y f r = rw (f, r)

uncased_class : (s : Detectors) (c d : Class) (m p : ℕ) (x y : Bool) → c.flags ≡ d.flags → c.range ≡ d.range → uncased_run s c m p x y ≡ uncased_run s d m p x y
unfolding uncased_run
uncased_class s c d m p x y f r = rw (f, r)

-- what the test for a lower-case letter says
pub lower_told : (p : ℕ) → leb LOWER_FIRST p && leb p LOWER_LAST ≡ true → (LOWER_FIRST ≤ p) × (p ≤ LOWER_LAST)
lower_told p e =
    (leb-true LOWER_FIRST p (and_l (leb LOWER_FIRST p) (leb p LOWER_LAST) e), leb-true p LOWER_LAST (and_r (leb LOWER_FIRST p) (leb p LOWER_LAST) e))

-- a step from i on, where the lookup found c
module _ (classes pairs text : List ℕ) (s : Detectors) (c : Class) (i : ℕ) (b : Before classes pairs text s c i) where
  pub before_point : c.point ≡ char_at text i
  unfolding class_at
  before_point = (class_lawful classes b.tables.good (char_at text i) c b.class).point

  pub before_room : Room s
  before_room = within_room i s (rw b.state (state_within classes pairs text i)) (omega (arith, b.inside, b.short))

  pub before_last : last_range s ≤ LAST_RANGE
  before_last = rw b.state (state_range classes pairs text b.tables.good i)

  pub before_range : c.range ≤ LAST_RANGE
  before_range = class_range classes text b.tables.good i c b.class

  -- what is not the newline stands in the text
  pub before_inside : (c.point ≡ NEWLINE → ⊥) → i < length text
  before_inside other =
      split i (length text) (λ h. h) (λ h. absurd (other (before_point ∙ get_or-eq_default text NEWLINE h)))

  pub before_looked : (at : ℕ) → HeldAt classes (char_at text i) at → HeldAt classes c.point at
  before_looked at k = rw before_point k

  -- a code point past the built-in table that has a class is held by a record
  pub before_held : BUILTIN_END ≤ c.point → holder classes c.point < records classes
  unfolding class_at
  before_held h =
      split (holder classes c.point) (records classes)
      (λ l. l)
      (λ l. absurd (never (sym (lent_none classes c.point l) ∙ sym (class_lent classes c.point h) ∙ rw (← before_point) at b.class)))
    where
      never : None ≡ Some c → ⊥
      never e = no (told e)
        where
          told : None ≡ Some c → ◌≡◌ {A = ℕ} 0 1
          told e = cc

          no : ◌≡◌ {A = ℕ} 0 1 → ⊥
          no z = omega arith

  here : at classes pairs text i ≡ c
  here = at_is classes pairs text i c b.class

  -- one character
  pub advanced_one : (t : Detectors) → t ≡ fed pairs s c → Advanced classes pairs text i (record { state = t; next = i + 1 })
  unfolding fed
  advanced_one t e =
      record {
        begins = omega arith;
        ends = omega (arith, b.inside);
        state = e ∙ rw (b.state, ← here) (sym (step classes pairs text i));
        classed = λ j a z. let q : j ≡ i = omega (arith, a, z) in rw q (is_classed classes text i c b.class);
        quiet = λ j a z. absurd (omega (arith, a, z));
      }

  -- a run, each character of which has the class k gives it
  module _ (k : ℕ → Class) (m next : ℕ) (z : i + m + 1 ≡ next)
      (found : (j : ℕ) → i ≤ j → j < next → class_at classes text j ≡ Some (k j))
      (flags : (j : ℕ) → (k j).flags ≡ (k i).flags)
      (range : (j : ℕ) → (k j).range ≡ (k i).range)
      (right : (j : ℕ) → i ≤ j → j < next → wrong_stop (k j).point ≡ false)
      (quiet : (j : ℕ) → i ≤ j → j + 1 < next → checkpoint (length text) j ≡ false)
      (inside : next ≤ length text) where
    is : (j : ℕ) → i ≤ j → j < next → at classes pairs text j ≡ k j
    is j a l = at_is classes pairs text j (k j) (found j a l)

    first : at classes pairs text i ≡ k i
    first = is i (omega arith) (omega (arith, z))

    alikes : Alikes classes pairs text i m
    alikes =
        record {
          flags = λ j h. rw (is (i + j) (omega arith) (omega (arith, h, z)), first) (flags (i + j));
          range = λ j h. rw (is (i + j) (omega arith) (omega (arith, h, z)), first) (range (i + j));
          right = λ j h. rw (is (i + j) (omega arith) (omega (arith, h, z))) (right (i + j) (omega arith) (omega (arith, h, z)));
        }

    advanced : (t : Detectors) → t ≡ state_at classes pairs text next → Advanced classes pairs text i (record { state = t; next = next })
    advanced t e =
        record {
          begins = omega (arith, z);
          ends = omega (arith, inside);
          state = e;
          classed = λ j a l. is_classed classes text j (k j) (found j a l);
          quiet = quiet;
        }

    module _ (n q p : ℕ) (en : n ≡ m + 1) (eq : q ≡ i + m) (pe : p ≡ (k q).point) (d : Class) (f : d.flags ≡ (k i).flags) (r : d.range ≡ (k i).range) where
      last : at classes pairs text (i + m) ≡ k q
      last = is (i + m) (omega arith) (omega (arith, z)) ∙ rw eq

      pub advanced_cased : (u : ℕ) → u ≡ (k q).base → is_cased (k i).flags ≡ true → (t : Detectors)
          → t ≡ cased_run s d n p u (suspicious pairs (last_range s) d.range) (suspicious pairs d.range d.range)
          → Advanced classes pairs text i (record { state = t; next = next })
      advanced_cased u ue e t te =
          let run = cased_run_lem classes pairs text i m alikes (rw first e) in
          advanced t
          (te
          ∙ cased_class s d (at classes pairs text i) n p u _ _ (rw first f) (rw first r)
          ∙ (rw (en, pe, ue, ← last, b.state, r, ← first) run)
          ∙ ap (state_at classes pairs text) z)

      pub advanced_uncased : is_uncased (k i).flags ≡ true → (t : Detectors)
          → t ≡ uncased_run s d n p (suspicious pairs (last_range s) d.range) (suspicious pairs d.range d.range)
          → Advanced classes pairs text i (record { state = t; next = next })
      advanced_uncased e t te =
          let run = uncased_run_lem classes pairs text i m alikes (rw first e) in
          advanced t
          (te
          ∙ uncased_class s d (at classes pairs text i) n p _ _ (rw first f) (rw first r)
          ∙ (rw (en, pe, ← last, b.state, r, ← first) run)
          ∙ ap (state_at classes pairs text) z)

  -- ASCII's lower-case letters
  module _ (lo : LOWER_FIRST ≤ c.point) (hi : c.point ≤ LOWER_LAST) where
    pub lower_inside : i < length text
    lower_inside = before_inside (λ e. omega (arith, e, lo))

    -- a run of them, of what the step has read
    module _ (next : ℕ) (w : Run text LOWER_FIRST LOWER_LAST i next) where
      lower_from : (j : ℕ) → i ≤ j → j < next → LOWER_FIRST ≤ char_at text j
      lower_from j a z = split i j (λ m. w.least j m z) (λ m. let q : j ≡ i = omega (arith, a, m) in rw (q, ← before_point) lo)

      lower_to : (j : ℕ) → i ≤ j → j < next → char_at text j ≤ LOWER_LAST
      lower_to j a z = split i j (λ m. w.most j m z) (λ m. let q : j ≡ i = omega (arith, a, m) in rw (q, ← before_point) hi)

      pub lower_step : (v : ℕ) (x y : Bool) → v ≡ last_range s → x ≡ suspicious pairs v BASIC_LATIN → y ≡ suspicious pairs BASIC_LATIN BASIC_LATIN → (t : Detectors)
          → t ≡ cased_run s (lower_class (get_or text (next - 1) 0)) (next - i) (get_or text (next - 1) 0) (get_or text (next - 1) 0) x y
          → Advanced classes pairs text i (record { state = t; next = next })
      unfolding class_at
      lower_step v x y ve xe ye t te =
          let d : get_or text (next - 1) 0 ≡ char_at text (next - 1) = get_d_any text (next - 1) 0 NEWLINE (omega (arith, w.begins, w.ends)) in
          advanced_cased (λ j. lower_class (char_at text j)) (next - i - 1) next (omega (arith, w.begins))
          (λ j a z. class_builtin classes (char_at text j) (omega (arith, lower_to j a z)) ∙ ap Some (lower_class_lem (char_at text j) (lower_from j a z) (lower_to j a z)))
          (λ j. refl)
          (λ j. refl)
          (λ j a z. lower_stop (char_at text j) (lower_from j a z) (lower_to j a z))
          w.quiet
          w.ends
          (next - i) (next - 1) (char_at text (next - 1)) (omega (arith, w.begins)) (omega (arith, w.begins)) refl
          (lower_class (char_at text (next - 1))) refl refl
          (char_at text (next - 1)) refl (lower_cased (char_at text i)) t (te ∙ rw (d, xe, ye, ve))

  -- where a run may be, that of a lent record
  pub lent_step : (at : ℕ) → HeldAt classes c.point at → (g w : Bool) → (g ≡ true → BUILTIN_END ≤ c.point) → w ≡ wrong_stop c.point → g && not w ≡ true
      → Lent classes c.point at
  lent_step at h g w ge we t =
      let past = ge (and_l g (not w) t) in
      record { good = b.tables.good; is = h past; held = before_held past; right = sym we ∙ not-true w (and_r g (not w) t) }

  -- characters of one record
  pub lent_inside : (at : ℕ) → Lent classes c.point at → i < length text
  lent_inside at l =
      before_inside (λ e. omega (arith, e, held_past classes l.good c.point (holder classes c.point) l.held (holder_hold classes c.point l.held)))

  module _ (rec : ℕ) (l : Lent classes c.point rec) (near : Alike) (n : AlikeOf classes c.point near) (next : ℕ) (w : Run text near.low near.high i next) where
    abbrev held : Record
    held = record_at classes (holder classes c.point)

    from : (j : ℕ) → i ≤ j → j < next → held.first ≤ char_at text j
    from j a z =
        split i j (λ m. n.from (char_at text j) (w.least j m z))
        (λ m. let q : j ≡ i = omega (arith, a, m) in rw (q, ← before_point) (within_lo _ held.last _ (holder_holds classes c.point l.held)))

    to : (j : ℕ) → i ≤ j → j < next → char_at text j ≤ held.last
    to j a z =
        split i j (λ m. n.to (char_at text j) (w.most j m z))
        (λ m. let q : j ≡ i = omega (arith, a, m) in rw (q, ← before_point) (within_hi held.first _ _ (holder_holds classes c.point l.held)))

    found : (j : ℕ) → i ≤ j → j < next → class_at classes text j ≡ Some (record_class held (char_at text j))
    unfolding class_at
    found j a z = held_class classes l.good (char_at text j) (holder classes c.point) l.held (from j a z) (to j a z)

    right : (j : ℕ) → i ≤ j → j < next → wrong_stop (char_at text j) ≡ false
    right j a z =
        split i j (λ m. n.right (char_at text j) (w.least j m z) (w.most j m z))
        (λ m. let q : j ≡ i = omega (arith, a, m) in rw (q, ← before_point) l.right)

    same : c ≡ record_class held (char_at text i)
    same = sym here ∙ at_is classes pairs text i _ (found i (omega arith) w.begins)

    pub lent_cased : is_cased c.flags ≡ true → (u : ℕ) → u ≡ or_self near.base (char_at text (next - 1)) → (t : Detectors)
        → t
        ≡ cased_run s c (next - i) (char_at text (next - 1)) u (suspicious pairs (last_range s) c.range) (suspicious pairs c.range c.range)
        → Advanced classes pairs text i (record { state = t; next = next })
    unfolding record_class
    lent_cased e u ue t te =
        advanced_cased (λ j. record_class held (char_at text j)) (next - i - 1) next (omega (arith, w.begins)) found (λ j. refl) (λ j. refl) right w.quiet w.ends
        (next - i) (next - 1) (char_at text (next - 1)) (omega (arith, w.begins)) (omega (arith, w.begins)) refl c (ap (λ (x : Class). x.flags) same) (ap (λ (x : Class). x.range) same)
        u (ue ∙ rw n.base) (rw same at e) t te

    pub lent_uncased : is_uncased c.flags ≡ true → (t : Detectors)
        → t ≡ uncased_run s c (next - i) (char_at text (next - 1)) (suspicious pairs (last_range s) c.range) (suspicious pairs c.range c.range)
        → Advanced classes pairs text i (record { state = t; next = next })
    unfolding record_class
    lent_uncased e t te =
        advanced_uncased (λ j. record_class held (char_at text j)) (next - i - 1) next (omega (arith, w.begins)) found (λ j. refl) (λ j. refl) right w.quiet w.ends
        (next - i) (next - 1) (char_at text (next - 1)) (omega (arith, w.begins)) (omega (arith, w.begins)) refl c (ap (λ (x : Class). x.flags) same) (ap (λ (x : Class). x.range) same)
        (rw same at e) t te

    -- the same of what a step has read: the last character p, its range before the run, and the pair's bits
    read_last : get_or text (next - 1) 0 ≡ char_at text (next - 1)
    read_last = get_d_any text (next - 1) 0 NEWLINE (omega (arith, w.begins, w.ends))

    pub cased_step : is_cased c.flags ≡ true → (u v : ℕ) (x y : Bool) → u ≡ or_self near.base (get_or text (next - 1) 0) → v ≡ last_range s
        → x ≡ suspicious pairs v c.range → y ≡ suspicious pairs c.range c.range → (t : Detectors)
        → t ≡ cased_run s c (next - i) (get_or text (next - 1) 0) u x y → Advanced classes pairs text i (record { state = t; next = next })
    cased_step e u v x y ue ve xe ye t te = lent_cased e u (ue ∙ rw read_last) t (te ∙ rw (read_last, xe, ye, ve))

    pub uncased_step : is_uncased c.flags ≡ true → (v : ℕ) (x y : Bool) → v ≡ last_range s
        → x ≡ suspicious pairs v c.range → y ≡ suspicious pairs c.range c.range → (t : Detectors)
        → t ≡ uncased_run s c (next - i) (get_or text (next - 1) 0) x y → Advanced classes pairs text i (record { state = t; next = next })
    uncased_step e v x y ve xe ye t te = lent_uncased e t (te ∙ rw (read_last, xe, ye, ve))

  -- the space
  pub advanced_space : (t : Detectors) → c.point ≡ SPACE → t ≡ feed s space_class false → Advanced classes pairs text i (record { state = t; next = i + 1 })
  unfolding fed class_at
  advanced_space t p e =
      let q : char_at text i ≡ SPACE = sym before_point ∙ p in
      let k : Some c ≡ Some space_class = sym b.class ∙ rw q (class_builtin classes SPACE (omega arith)) ∙ ap Some space_class_lem in
      let d : c ≡ space_class = cc in
      advanced_one t (e ∙ space_any s false (suspicious pairs (last_range s) c.range) ∙ rw d)

-- a step after a step whose last character is no checkpoint
advanced_both : (classes pairs text : List ℕ) (i : ℕ) (r t : Fed) → Advanced classes pairs text i r → checkpoint (length text) (r.next - 1) ≡ false
    → Advanced classes pairs text r.next t → Advanced classes pairs text i t
advanced_both classes pairs text i r t a q d =
    record {
      begins = omega (arith, a.begins, d.begins);
      ends = d.ends;
      state = d.state;
      classed = λ j x y. split j r.next (λ m. a.classed j x m) (λ m. d.classed j m y);
      quiet = λ j x y. split (j + 1) r.next
          (λ m. a.quiet j x m)
          (λ m. split j r.next (λ k. let e : j ≡ r.next - 1 = omega (arith, m, k) in rw e q) (λ k. d.quiet j k y));
    }

-- the space behind a step
module _ (classes pairs text : List ℕ) (i : ℕ) (r : Fed) (g : Tables classes pairs) (h : length text ≤ LONGEST_TEXT) (a : Advanced classes pairs text i r)
    (p : Spaced text r.next) where
  spaced_before : Before classes pairs text r.state space_class r.next
  unfolding class_at
  spaced_before =
      record {
        tables = g;
        short = h;
        inside = omega (arith, p.inside);
        state = a.state;
        class = rw p.space (class_builtin classes SPACE (omega arith) ∙ ap Some space_class_lem);
      }

  pub spaced_room : Room r.state
  spaced_room = before_room classes pairs text r.state space_class r.next spaced_before

  pub advanced_spaced : (t : Detectors) → t ≡ feed r.state space_class false → Advanced classes pairs text i (record { state = t; next = r.next + 1 })
  advanced_spaced t e =
      advanced_both classes pairs text i r _ a p.quiet (advanced_space classes pairs text r.state space_class r.next spaced_before t refl e)

-- a step whose state is carried on as t
pub advanced_as : (classes pairs text : List ℕ) (i : ℕ) (r : Fed) → Advanced classes pairs text i r → (t : Detectors) → t ≡ r.state
    → Advanced classes pairs text i (record { state = t; next = r.next })
advanced_as classes pairs text i r a t e =
    record { begins = a.begins; ends = a.ends; state = e ∙ a.state; classed = a.classed; quiet = a.quiet }

-- no word is watched after a step
pub advanced_slim : (classes pairs text : List ℕ) (i : ℕ) (r : Fed) → Tables classes pairs → Advanced classes pairs text i r → Slim r.state
advanced_slim classes pairs text i r g a = rw a.state (state_slim classes pairs text g.good r.next)

-- what the tests for it say
pub spaced_is : (text : List ℕ) (i : ℕ) (q : Bool) → q ≡ checkpoint (length text) (i - 1) → q ≡ false → i < length text → eqb (get_or text i 0) SPACE ≡ true → Spaced text i
spaced_is text i q e f h t =
    record { inside = h; space = sym (get_d_any text i 0 NEWLINE h) ∙ eqb-true (get_or text i 0) SPACE t; quiet = sym e ∙ f }
