-- A line that is fed character by character from a fresh opening (Line): the state after k characters follows the scan (`line_follows`), each of its calls is
-- accepted (`feeding_accepted`), and closing gives the whole call's answer (`line_whole`; `closing_whole` of a text that has no cause of refusal).
-- Assumes nothing.
use Rattle.std.specs.Prelude.{Ok, Option, Some, None}
use Prim.Native.Nat.{ℕ, zero, suc, ◌+◌, ◌*◌, ◌≤◌, ◌<◌}
use mathlib.Core.Path.{◌≡◌, refl, sym, ap, ◌∙◌}
use mathlib.Core.Bool.{Bool, true, false, cond}
use mathlib.Core.List.{List, [], ◌∷◌}
use native.Mathlib.Nat.{not-suc-le-zero, le_of_suc-le-suc}
use native.Mathlib.Numerals.{add-one}
use native.Mathlib.Omega.{arith}
use lib.Ieee.{Float}
use lib.Dec.{lit<}
use lib.ListN.{length, get_or, get_or-eq_default}
use borrow.Author.Tests.{lt-ltb, le-ltb, ltb-false}
use Rattle.base.specs.Inner.All.{All}
use Rattle.base.specs.First.{first}
use Rattle.base.specs.Limits.{LONGEST_TEXT, LAST_RANGE, NEWLINE}
use Rattle.base.specs.declared.refusals.Cause.TheVariants.{TooLong}
use Rattle.base.proofs.Laws.Causes.{first_free, given_free}
use Rattle.base.proofs.Laws.First.{first_is, first_none}
use Rattle.base.proofs.Laws.Tests.{by_bool, split}
use Rattle.classes.specs.declared.Class.{Class}
use Rattle.classes.specs.Inner.Tables.{Tables}
use Rattle.classes.specs.Lookup.{builtin_class, class_of, missing}
use Rattle.classes.proofs.Laws.Lookup.{class_builtin}
use Rattle.ratio.specs.Finite.{is_finite}
use Rattle.md_eight.specs.declared.Detectors.{Detectors}
use Rattle.md_eight.specs.Detectors.{feed, last_range}
use Rattle.md_eight.proofs.Loops.Detectors.{Within}
use Rattle.md_meaning.specs.Text.{char_at, total, checkpoint}
use Rattle.md_meaning.specs.Scan.{fed, class_in, class_at, unclassed, state_at, stops, sum_of, reaches, scored, accepted_score}
use Rattle.md_meaning.specs.Inner.Lent.{of_lent, bad_lent}
use Rattle.md_meaning.proofs.Laws.Lent.{free_lent}
use Rattle.md_meaning.proofs.Laws.Scan.{is_classed, state_more, state_within, state_range}
use Rattle.md_meaning.specs.MessRatio.{mess_ratio}
use Rattle.md_meaning.proofs.Laws.Accepted.{Faultless, faultless_scored}
use Rattle.md_growth.specs.declared.Watched.{Watched}
use Rattle.md_growth.specs.Text.{watched_next, watched_at}
use Rattle.md_growth.proofs.Laws.Growth.{watched_start, watched_more, watched_eight}
use Rattle.md_running_meaning.specs.declared.Running.{Running}
use Rattle.md_running_meaning.specs.State.{TWICE, eight_of, counts_in, bad_state}
use Rattle.md_running_meaning.specs.Opening.{fresh, long_line, open_causes}
use Rattle.md_running_meaning.specs.Feeding.{stops_at, arrived, fed_on, step, feed_causes, feed_line}
use Rattle.md_running_meaning.specs.Closing.{ended, close_line}
use Rattle.md_running_meaning.specs.Line.{line_at, Going, Stopped, Phase, going, over, Follows}
use Rattle.md_running_meaning.specs.Inner.Sound.{Sound}
use Rattle.md_running_meaning.proofs.Laws.State.{sound_free}
use Rattle.md_running_meaning.proofs.Laws.Feeding.{step_stopped, step_going, accepted_free, accepted_state}
use Rattle.md_running_meaning.proofs.Laws.Closing.{newline_any, close_on, close_stopped, close_ended}

-- ---- a scan's counts pass 19
infixr 40 ◌and◌
abbrev ◌and◌ : {A B : Type 0} → A → B → A × B
x and y = (x, y)

all_at : (P : ℕ → Type 0) (l : List ℕ) → All P l → (i : ℕ) → i < length l → P (get_or l i 0)
all_at P [] a i h = absurd (not-suc-le-zero h)
all_at P (x ∷ l) a zero h = a.0
all_at P (x ∷ l) a (suc i) h = all_at P l a.1 i (le_of_suc-le-suc h)

module _ (m k : ℕ) (s : Running) (w : Within m (eight_of s)) (l : m ≤ k) (f : s.fed ≤ k) where
  all_small : All (λ (n : ℕ). n ≤ TWICE * k) (counts_in s)
  unfolding counts_in
  all_small =
      let a = w.symbols in
      let b = w.accents in
      let c = w.unprintable in
      let d = w.ranges in
      let e = w.doubled in
      let g = w.words in
      let h = w.stops in
      let r = w.archaic in
      omega (arith, f)
      and omega (arith, l, a.characters)
      and omega (arith, l, a.characters, a.counted)
      and omega (arith, l, a.characters, a.counted)
      and omega (arith, l, b.characters)
      and omega (arith, l, b.characters, b.accentuated)
      and omega (arith, l, c.characters)
      and omega (arith, l, c.characters, c.unprintable)
      and omega (arith, l, d.characters)
      and omega (arith, l, d.characters, d.suspicious)
      and omega (arith, l, e.characters)
      and omega (arith, l, e.characters, e.successive)
      and omega (arith, l, g.characters)
      and omega (arith, l, g.words)
      and omega (arith, l, g.words, g.foreign)
      and omega (arith, l, g.characters, g.spoilt)
      and omega (arith, l, g.characters, g.accents)
      and omega (arith, l, g.characters, g.uppercase)
      and omega (arith, l, g.characters)
      and omega (arith, l, h.counted)
      and omega (arith, l, h.counted)
      and omega (arith, l, r.characters)
      and omega (arith, l, r.characters, r.total)
      and omega (arith, l, r.characters, r.total, r.run)
      and omega (arith, l, r.characters, r.total)
      and tt

found_class : (p : ℕ) (f : Option Class) → missing f ≡ false → f ≡ Some (class_in p f)
found_class p (Some c) e = refl
found_class p None e = let z : true ≡ false = e in bad z
  where
    bad : {f : Option Class} {c : Class} → true ≡ false → f ≡ Some c
    bad z = cc

module _ (text : List ℕ) (most : Float) (classes pairs : List ℕ) where
  -- the scan stops after the character at i
  abbrev halts : ℕ → Bool
  halts = stops classes pairs text (Some most)

  -- what an opening that is accepted has
  record Openable : Type 0 where
    pub short : length text ≤ LONGEST_TEXT
    pub finite : is_finite most ≡ true
    pub tables : Tables classes pairs

  module _ (o : Openable) where
    -- how many were fed, at most k
    phase_sound : (k m : ℕ) (s : Running) → Follows text most classes pairs k s → k ≤ length text
        → eight_of s ≡ state_at classes pairs text m → m ≤ k → s.fed ≤ k → Sound s
    unfolding counts_in
    phase_sound k m s g h e l f =
        record {
          finite = rw g.threshold o.finite;
          short = rw g.declared o.short;
          declared = rw (g.declared, g.received) h;
          range = rw e (state_range classes pairs text o.tables.good m);
          counts =
              rw g.received
              (all_at (λ (n : ℕ). n ≤ TWICE * k) (counts_in s) (all_small m k s (rw e (state_within classes pairs text m)) l f));
        }

    by_phase : (k : ℕ) (s : Running) → Follows text most classes pairs k s → k ≤ length text → Phase text most classes pairs k s → Sound s
    by_phase k s g h (going p) = phase_sound k k s g h p.eight (omega arith) (let e = p.fed in omega arith)
    by_phase k s g h (over i p) =
        phase_sound k (i + 1) s g h p.eight (let b = p.before in omega arith) (let b = p.before in let e = p.fed in omega arith)

    -- a state that follows the scan passes 19
    follows_sound : (k : ℕ) (s : Running) → Follows text most classes pairs k s → k ≤ length text → Sound s
    follows_sound k s g h = by_phase k s g h g.phase

    follows_start : Follows text most classes pairs 0 (fresh (length text) most)
    unfolding fresh
    follows_start =
        record {
          declared = refl;
          threshold = refl;
          received = refl;
          phase =
              going
              (record {
                none = λ j h. absurd (not-suc-le-zero h);
                stopped = refl;
                fed = refl;
                eight = ap (λ (w : Watched). w.eight) (sym (watched_start classes pairs text)) ∙ watched_eight classes pairs text 0;
                watched = sym (watched_start classes pairs text);
              });
        }

    -- ---- one character more
    module _ (k : ℕ) (s : Running) (g : Follows text most classes pairs k s) (c : Class) (e : class_at classes text k ≡ Some c) where
      module _ (p : Going text most classes pairs k s) where
        next_watched : watched_next pairs s.watched c (s.received + 1) ≡ watched_at classes pairs text (k + 1)
        next_watched = rw (p.watched, g.received) (sym (watched_more classes pairs text k c e))

        next_eight : (watched_next pairs s.watched c (s.received + 1)).eight ≡ state_at classes pairs text (k + 1)
        next_eight = rw next_watched (watched_eight classes pairs text (k + 1))

        next_stops : stops_at s (watched_next pairs s.watched c (s.received + 1)).eight s.received ≡ halts k
        unfolding stops_at stops
        next_stops = rw (next_eight, g.declared, g.received, g.threshold)

        none_yet : halts k ≡ false → (j : ℕ) → j < k + 1 → halts j ≡ false
        none_yet f j h = split j k (λ l. p.none j l) (λ l. let z : k ≡ j = omega arith in rw z at f)

        going_more : Phase text most classes pairs (k + 1) (fed_on pairs s c)
        unfolding fed_on
        going_more =
            by_bool (halts k)
            (λ t. over k
            (record {
              before = omega arith;
              here = t;
              none = p.none;
              stopped = next_stops ∙ t;
              fed = rw g.received;
              eight = next_eight;
              watched = next_watched;
            }))
            (λ t. going
            (record {
              none = none_yet t;
              stopped = next_stops ∙ t;
              fed = rw g.received;
              eight = next_eight;
              watched = next_watched;
            }))

        going_follows : Follows text most classes pairs (k + 1) (fed_on pairs s c)
        unfolding fed_on
        going_follows = record { declared = g.declared; threshold = g.threshold; received = rw g.received; phase = going_more }

      module _ (i : ℕ) (p : Stopped text most classes pairs i k s) where
        over_follows : Follows text most classes pairs (k + 1) (arrived s)
        unfolding arrived
        over_follows =
            record {
              declared = g.declared;
              threshold = g.threshold;
              received = rw g.received;
              phase =
                  over i
                  (record {
                    before = let b = p.before in omega arith;
                    here = p.here;
                    none = p.none;
                    stopped = p.stopped;
                    fed = p.fed;
                    eight = p.eight;
                    watched = p.watched;
                  });
            }

      step_follows : Phase text most classes pairs k s → Follows text most classes pairs (k + 1) (step pairs s c)
      step_follows (going p) = rw (← step_going pairs s c p.stopped) (going_follows p)
      step_follows (over i p) = rw (← step_stopped pairs s c p.stopped) (over_follows i p)

    -- ---- the calls
    line_start : line_at text most classes pairs 0 ≡ fresh (length text) most
    unfolding line_at
    line_start = refl

    line_more : (k : ℕ) → line_at text most classes pairs (k + 1) ≡ (feed_line (line_at text most classes pairs k) (char_at text k) classes pairs).state
    unfolding line_at
    line_more k = ap (line_at text most classes pairs) (add-one k)

    module _ (k : ℕ) (s : Running) (g : Follows text most classes pairs k s) (h : k < length text) (m : unclassed classes text k ≡ false) where
      accepted : feed_causes s (char_at text k) classes pairs ≡ Ok tt
      unfolding unclassed class_at
      accepted =
          accepted_free s (char_at text k) classes pairs (follows_sound k s g (omega arith))
          (let a = g.received in let b = g.declared in omega arith) o.tables m

      feed_follows : Follows text most classes pairs (k + 1) (feed_line s (char_at text k) classes pairs).state
      unfolding unclassed class_at
      feed_follows =
          rw (accepted_state s (char_at text k) classes pairs accepted)
          (step_follows k s g (class_in (char_at text k) (class_of classes (char_at text k)))
          (found_class (char_at text k) (class_of classes (char_at text k)) m) g.phase)

    -- the state after k characters that have classes
    follows : (k : ℕ) → k ≤ length text → ((i : ℕ) → i < k → unclassed classes text i ≡ false)
        → Follows text most classes pairs k (line_at text most classes pairs k)
    follows zero h m = rw line_start follows_start
    follows (suc k) h m =
        rw (← add-one k, line_more k)
        (feed_follows k (line_at text most classes pairs k) (follows k (omega arith) (λ i l. m i (omega arith))) (omega arith) (m k (omega arith)))

    fed_accepted : (k : ℕ) → k < length text → ((i : ℕ) → i < k + 1 → unclassed classes text i ≡ false)
        → feed_causes (line_at text most classes pairs k) (char_at text k) classes pairs ≡ Ok tt
    fed_accepted k h m =
        accepted k (line_at text most classes pairs k) (follows k (omega arith) (λ i l. m i (omega arith))) h (m k (omega arith))

    -- ---- the end
    module _ (s : Running) (g : Follows text most classes pairs (length text) s) where
      -- behind the text stands the newline
      newline_last : class_at classes text (length text) ≡ Some (builtin_class NEWLINE)
      unfolding class_at
      newline_last = rw (get_or-eq_default text NEWLINE {n = length text} (omega arith)) (class_builtin classes NEWLINE (lit< tt))

      received_all : s.length ≤ s.received
      received_all = let a = g.received in let b = g.declared in omega arith

      module _ (p : Going text most classes pairs (length text) s) where
        ended_eight : ended s ≡ state_at classes pairs text (length text + 1)
        unfolding ended fed
        ended_eight =
            rw p.eight
            (sym (state_more classes pairs text (length text) (builtin_class NEWLINE) newline_last ∙ newline_any (state_at classes pairs text (length text)) _))

        ended_stops : stops_at s (ended s) s.length ≡ halts (length text)
        unfolding stops_at stops
        ended_stops = rw (ended_eight, g.declared, g.threshold)

        none_before : (j : ℕ) → j < length text → halts j ≡ false
        none_before = p.none

        going_whole : scored (ended s) (s.length + 1) (stops_at s (ended s) s.length) ≡ accepted_score classes pairs text (Some most)
        unfolding accepted_score
        going_whole =
            rw (ended_stops, ended_eight, g.declared)
            (by_bool (halts (length text))
            (λ t. let n = first_is halts (total text) (length text) (omega arith) t p.none in
            rw (t) (sym (rw (n, lt-ltb (length text) (total text) (omega arith)))))
            (λ t. let n = first_none halts (total text) (λ j l. split j (length text) (λ q. p.none j q) (λ q. let z : length text ≡ j = omega arith in rw z at t)) in
            rw (t) (sym (rw (n, le-ltb (total text) (total text) (omega arith))))))

      over_whole : (i : ℕ) (p : Stopped text most classes pairs i (length text) s)
          → scored (eight_of s) s.fed true ≡ accepted_score classes pairs text (Some most)
      unfolding accepted_score
      over_whole i p =
          let b = p.before in
          let n = first_is halts (total text) i (omega arith) p.here p.none in
          rw (p.eight, p.fed) (sym (rw (n, lt-ltb i (total text) (omega arith))))

      closed_whole : Phase text most classes pairs (length text) s → close_line s ≡ accepted_score classes pairs text (Some most)
      closed_whole (going p) =
          sym (close_on s (sound_free s (follows_sound (length text) s g (omega arith)))) ∙ sym (close_ended s received_all p.stopped) ∙ going_whole p
      closed_whole (over i p) =
          sym (close_on s (sound_free s (follows_sound (length text) s g (omega arith)))) ∙ sym (close_stopped s received_all p.stopped) ∙ over_whole i p

  openable : open_causes (length text) most classes pairs ≡ Ok tt → Openable
  unfolding open_causes long_line bad_lent
  openable e =
      let a = first_free (long_line (length text)) (of_lent most classes pairs) e in
      let l = free_lent classes pairs most a.1 in
      record { short = ltb-false LONGEST_TEXT (length text) (given_free _ TooLong 0 a.0); finite = l.0; tables = l.1 }

  -- closing gives the whole call's answer
  pub closing_whole : Faultless text most classes pairs → close_line (line_at text most classes pairs (length text)) ≡ mess_ratio text most classes pairs
  closing_whole f =
      let o : Openable = record { short = f.short; finite = f.finite; tables = f.tables } in
      let g = follows o (length text) (omega arith) (λ i l. f.classed i (omega arith)) in
      closed_whole o (line_at text most classes pairs (length text)) g g.phase ∙ sym (faultless_scored text most classes pairs f)

  -- ---- for readers: from an opening that is accepted on
  module _ (opened : open_causes (length text) most classes pairs ≡ Ok tt) where
    pub line_follows : (k : ℕ) → k ≤ length text → ((i : ℕ) → i < k → unclassed classes text i ≡ false)
        → Follows text most classes pairs k (line_at text most classes pairs k)
    line_follows k h m = follows (openable opened) k h m

    pub feeding_accepted : (k : ℕ) → k < length text → ((i : ℕ) → i < k + 1 → unclassed classes text i ≡ false)
        → feed_causes (line_at text most classes pairs k) (char_at text k) classes pairs ≡ Ok tt
    feeding_accepted k h m = fed_accepted (openable opened) k h m

    -- "For a text with every character classed, fed in full from a fresh opening with the same tables each time, the result equals the whole call"
    pub line_whole : ((i : ℕ) → i < length text → unclassed classes text i ≡ false)
        → close_line (line_at text most classes pairs (length text)) ≡ mess_ratio text most classes pairs
    line_whole m =
        let o = openable opened in
        closing_whole
        (record {
          short = o.short;
          finite = o.finite;
          tables = o.tables;
          classed = λ i l. split i (length text) (λ h. m i h)
              (λ h. let z : length text ≡ i = omega arith in
              rw (← z) (is_classed classes text (length text) (builtin_class NEWLINE) (newline_last o _ (follows o (length text) (omega arith) m))));
        })
