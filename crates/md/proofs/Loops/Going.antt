-- The scan under way: what holds before the character at i, and what each way on shows. The index of the stop and that of the first
-- unclassed character are still to be looked for from i on.
-- Assumes nothing.
use Rattle.std.specs.Prelude.{Result, Option, Some, None, Float}
use Prim.Native.Nat.{ℕ, ◌+◌, ◌≤◌, ◌<◌}
use mathlib.Core.Path.{◌≡◌, refl, sym, ◌∙◌}
use mathlib.Core.List.{List}
use mathlib.Core.Bool.{Bool, true, false, ◌&&◌}
use native.Mathlib.Omega.{arith}
use lib.ListN.{length}
use borrow.Author.Tests.{lt-ltb, le-ltb}
use Rattle.base.specs.Causes.{refused_at}
use Rattle.base.specs.declared.Refusal.{Refusal}
use Rattle.base.proofs.Laws.Causes.{given_yes, free_given}
use Rattle.base.specs.First.{first}
use Rattle.base.specs.Inner.First.{first_from}
use Rattle.base.proofs.Laws.First.{first_start, first_hit, first_miss, first_end}
use Rattle.base.specs.Limits.{LONGEST_TEXT}
use Rattle.base.specs.Inner.Limits.{LARGEST}
use Rattle.base.specs.declared.refusals.Cause.TheVariants.{Unclassed}
use Rattle.classes.specs.declared.Class.{Class}
use Rattle.classes.specs.Inner.Tables.{Tables}
use Rattle.md_eight.specs.declared.Detectors.{Detectors}
use Rattle.md_eight.specs.Detectors.{start}
use Rattle.md_eight.specs.Inner.Detectors.{Countable, FedCount}
use Rattle.md_eight.proofs.Loops.Detectors.{within_countable}
use Rattle.md_meaning.specs.Text.{total, checkpoint}
use Rattle.md_meaning.specs.Scan.{class_at, unclassed, state_at, stops, sum_of, reaches, scored, accepted_score, no_class}
use Rattle.md_meaning.specs.Inner.Scan.{scan}
use Rattle.md_meaning.proofs.Laws.Scan.{is_unclassed, state_start, state_within, state_fed_count, unless_allowed, unless_at}
use Rattle.md_rest.proofs.Laws.Rest.{first_passed}
use Rattle.md_runs.specs.declared.Fed.{Fed}
use Rattle.md_runs.specs.Inner.Runs.{Before, Advanced}
use Rattle.md.specs.Inner.Going.{stopped_after}
use Rattle.md_meaning.specs.declared.Score.{Score}

module _ (classes text : List ℕ) (s : Detectors) (i bad : ℕ) (b : bad ≡ first_from (unclassed classes text) (total text) (i + 1)) where
  pub stopped_missing : bad ≤ length text → refused_at Unclassed bad ≡ stopped_after classes text s i
  unfolding stopped_after
  stopped_missing h = sym (unless_at _ _ Unclassed bad (rw (← b) (given_yes _ Unclassed bad (lt-ltb bad (total text) (omega arith)))))

  pub stopped_scored : length text < bad → scored s (i + 1) true ≡ stopped_after classes text s i
  unfolding stopped_after
  stopped_scored h = sym (unless_allowed _ _ (rw (← b) (free_given _ Unclassed bad (le-ltb bad (total text) (omega arith)))))

module _ (classes pairs text : List ℕ) (limit : Option Float) where
  pub record Going (n : ℕ) (s : Detectors) (i : ℕ) : Type 0 where
    pub below : i ≤ n
    pub counted : n ≡ total text
    pub state : s ≡ state_at classes pairs text i
    pub running : first_from (stops classes pairs text limit) (total text) i ≡ first (stops classes pairs text limit) (total text)
    pub classed : first_from (unclassed classes text) (total text) i ≡ first (unclassed classes text) (total text)

  pub going_start : (s : Detectors) → s ≡ start → Going (total text) s 0
  going_start s e =
      record {
        below = omega arith;
        counted = refl;
        state = e ∙ sym (state_start classes pairs text);
        running = first_start (stops classes pairs text limit) (total text);
        classed = first_start (unclassed classes text) (total text);
      }

  module _ {n : ℕ} {s : Detectors} {i : ℕ} (g : Going n s i) where
    pub going_countable : n ≤ LARGEST → Countable s
    going_countable h = within_countable i s (rw g.state (state_within classes pairs text i)) (omega (arith, g.below))

    -- what a step asks for
    pub going_before : Tables classes pairs → length text ≤ LONGEST_TEXT → (c : Class) → i < n → class_at classes text i ≡ Some c → Before classes pairs text s c i
    going_before t h c l e = record { tables = t; short = h; inside = omega (arith, l, g.counted); state = g.state; class = e }

    -- the character has no class
    pub going_missing : i < n → class_at classes text i ≡ None → refused_at Unclassed i ≡ scan classes pairs text limit
    unfolding scan no_class
    going_missing h e =
        let l : i < total text = omega (arith, g.counted) in
        let u : first (unclassed classes text) (total text) ≡ i =
        sym g.classed ∙ first_hit (unclassed classes text) (total text) i l (is_unclassed classes text i e) in
        sym (unless_at _ _ Unclassed i (rw u (given_yes _ Unclassed i (lt-ltb i (total text) l))))

    -- a step of the scan
    module _ (r : Fed) (v : Advanced classes pairs text i r) where
      pub fed_countable : n ≤ LARGEST → Countable r.state
      fed_countable m = within_countable r.next r.state (rw v.state (state_within classes pairs text r.next)) (omega (arith, m, v.ends, g.counted))

      pub fed_counted : FedCount r.state r.next
      fed_counted = rw v.state (state_fed_count classes pairs text r.next)

      -- the last character that it fed stands at j, and its state is carried on as t
      module _ (j : ℕ) (z : j + 1 ≡ r.next) (t : Detectors) (e : t ≡ r.state) where
        fed_state : t ≡ state_at classes pairs text (j + 1)
        fed_state = e ∙ v.state ∙ rw z

        fed_classed : first_from (unclassed classes text) (total text) (j + 1) ≡ first (unclassed classes text) (total text)
        fed_classed =
            rw z (sym (first_passed (unclassed classes text) (total text) i r.next (omega (arith, v.begins)) v.ends v.classed) ∙ g.classed)

        fed_over : (o : Bool) → o ≡ (checkpoint (length text) j && reaches limit (sum_of t)) → stops classes pairs text limit j ≡ o
        unfolding stops
        fed_over o p = sym (p ∙ rw fed_state)

        -- no checkpoint stands before j
        fed_quiet : (k : ℕ) → i ≤ k → k < j → stops classes pairs text limit k ≡ false
        unfolding stops
        fed_quiet k a l = rw (v.quiet k a (omega (arith, l, z)))

        fed_running : first_from (stops classes pairs text limit) (total text) i ≡ first_from (stops classes pairs text limit) (total text) j
        fed_running = first_passed (stops classes pairs text limit) (total text) i j (omega (arith, z, v.begins)) (omega (arith, z, v.ends)) fed_quiet

        -- the scan goes on
        pub going_on : (o : Bool) → o ≡ (checkpoint (length text) j && reaches limit (sum_of t)) → o ≡ false → Going n t r.next
        going_on o p q =
            record {
              below = omega (arith, v.ends, g.counted);
              counted = g.counted;
              state = e ∙ v.state;
              running =
                  rw (← z)
                  (sym (fed_running ∙ first_miss (stops classes pairs text limit) (total text) j (omega (arith, z, v.ends)) (fed_over o p ∙ q)) ∙ g.running);
              classed = rw (← z) fed_classed;
            }

        -- the scan stops
        pub going_stopped : (o : Bool) → o ≡ (checkpoint (length text) j && reaches limit (sum_of t)) → o ≡ true
            → (a : Result Score Refusal) → a ≡ stopped_after classes text t j → a ≡ scan classes pairs text limit
        unfolding scan no_class accepted_score stopped_after
        going_stopped o p q a d =
            let h' : j < total text = omega (arith, z, v.ends) in
            let k : first (stops classes pairs text limit) (total text) ≡ j =
            sym g.running ∙ fed_running ∙ first_hit (stops classes pairs text limit) (total text) j h' (fed_over o p ∙ q) in
            d ∙ simp (k, lt-ltb j (total text) h', fed_classed) (rw fed_state)

    -- every character was fed
    pub going_ended : n ≤ i → scored s n false ≡ scan classes pairs text limit
    unfolding scan no_class accepted_score
    going_ended l =
        let e : i ≡ total text = omega (arith, g.counted, g.below) in
        let u : first (unclassed classes text) (total text) ≡ i = sym g.classed ∙ first_end (unclassed classes text) (total text) i e in
        let k : first (stops classes pairs text limit) (total text) ≡ i =
        sym g.running ∙ first_end (stops classes pairs text limit) (total text) i e in
        let l' : total text ≤ i = omega arith in
        sym (unless_allowed _ _ (rw u (free_given _ Unclassed i (le-ltb i (total text) l')))
        ∙ simp (k, le-ltb i (total text) l') (rw (g.state, g.counted, e)))
