-- Laws of a feeding call: what it hands back where a cause is there and where none is (`fed_refused`, `fed_allowed`); one law for each way in which its
-- checks return (`call_bad`, `call_full`, `call_on`), what passed them (`free_call`); the call behind them (`feed_refused`, `feed_on`) and its two ends
-- (`none_here`, `found_here`). And for readers: a refusal leaves the state as it is (`refused_stays`), and a sound state with room takes a classed
-- character (`accepted_free`, `accepted_state`).
-- Assumes nothing.
use Rattle.std.specs.Prelude.{Result, Ok, Err, Some, None, ⊤}
use Prim.Native.Nat.{ℕ, ◌+◌, ◌-◌, ◌≤◌, ◌<◌}
use mathlib.Core.Path.{◌≡◌, refl, sym, ap, ◌∙◌}
use mathlib.Core.Bool.{true, false}
use mathlib.Core.List.{List, [], ◌∷◌}
use native.Mathlib.Omega.{arith}
use borrow.Author.Tests.{lt-ltb, le-ltb, ltb-false}
use Rattle.base.specs.declared.Refusal.{Refusal}
use Rattle.base.specs.Causes.{refused_at, given, first_of}
use Rattle.base.specs.Counted.{count_unless}
use Rattle.base.specs.declared.refusals.Cause.TheVariants.{Unclassed, LineFull}
use Rattle.base.proofs.Laws.Causes.{first_one, first_refused, first_on, first_given, first_passed, first_free, given_free, free_given, first_front, first_past}
use Rattle.base.proofs.Laws.Counted.{not_counted}
use Rattle.classes.specs.declared.Class.{Class}
use Rattle.classes.specs.Check.{bad_classes}
use Rattle.classes.specs.Inner.Tables.{Tables}
use Rattle.classes.specs.Lookup.{class_of, missing}
use Rattle.classes.specs.Pairs.{bad_pairs}
use Rattle.md_meaning.specs.Inner.Lent.{of_tables, bad_tables}
use Rattle.md_meaning.proofs.Laws.Lent.{free_checked, checked_free}
use Rattle.md_meaning.specs.Scan.{class_in}
use Rattle.md_running_meaning.specs.declared.Running.{Running}
use Rattle.md_running_meaning.specs.declared.Fed.{Fed}
use Rattle.md_running_meaning.specs.State.{bad_state}
use Rattle.md_running_meaning.specs.Feeding.{arrived, fed_on, step, line_full, no_class_here, state_unless, fed_unless, feed_causes, feed_line}
use Rattle.md_running_meaning.specs.Inner.Sound.{Sound}
use Rattle.md_running_meaning.specs.Inner.Step.{HasRoom, bad_call}
use Rattle.md_running_meaning.proofs.Laws.State.{free_sound, sound_free}

module _ (c : Result ⊤ Refusal) (s next : Running) (n : ℕ) where
  pub fed_refused : (r : Refusal) → c ≡ Err r → fed_unless (Err r) s s 0 ≡ fed_unless c s next n
  unfolding fed_unless state_unless count_unless
  fed_refused r e = rw e

  pub fed_allowed : c ≡ Ok tt → record { state = next; answer = Ok n } ≡ fed_unless c s next n
  unfolding fed_unless state_unless count_unless
  fed_allowed e = rw e

-- ---- a stopped line, and one that is not
module _ (pairs : List ℕ) (s : Running) (c : Class) where
  pub step_stopped : s.stopped ≡ true → arrived s ≡ step pairs s c
  unfolding step
  step_stopped e = rw e

  pub step_going : s.stopped ≡ false → fed_on pairs s c ≡ step pairs s c
  unfolding step
  step_going e = rw e

-- ---- the checks before the characters are looked at
module _ (s : Running) (n : ℕ) (classes pairs : List ℕ) where
  pub call_bad : (r : Refusal) → bad_state s ≡ Err r → bad_call s n classes pairs ≡ Err r
  unfolding bad_call
  call_bad r e = first_refused _ (bad_state s) r e

  module _ (e : bad_state s ≡ Ok tt) where
    passed : bad_call s n classes pairs ≡ first_of (line_full s n ∷ of_tables classes pairs)
    unfolding bad_call
    passed = first_on _ (bad_state s) e

    pub call_full : s.length - s.received < n → bad_call s n classes pairs ≡ refused_at LineFull 0
    unfolding line_full
    call_full h = passed ∙ first_given (of_tables classes pairs) _ LineFull 0 (lt-ltb _ _ h)

    pub call_on : n ≤ s.length - s.received → bad_call s n classes pairs ≡ bad_tables classes pairs
    unfolding line_full bad_tables
    call_on h = passed ∙ first_passed (of_tables classes pairs) _ LineFull 0 (le-ltb _ _ h)

  pub record Passed : Type 0 where
    pub sound : Sound s
    pub room : n ≤ s.length - s.received
    pub tables : Tables classes pairs

  pub free_call : bad_call s n classes pairs ≡ Ok tt → Passed
  unfolding bad_call line_full bad_tables
  free_call e =
      let a = first_free (bad_state s) (line_full s n ∷ of_tables classes pairs) e in
      let b = first_free (line_full s n) (of_tables classes pairs) a.1 in
      record {
        sound = free_sound s a.0;
        room = ltb-false (s.length - s.received) n (given_free _ LineFull 0 b.0);
        tables = free_checked classes pairs b.1;
      }

  pub call_free : Passed → bad_call s n classes pairs ≡ Ok tt
  call_free p = call_on (sound_free s p.sound) p.room ∙ checked_free classes pairs p.tables

pub one_room : (s : Running) (classes pairs : List ℕ) → Passed s 1 classes pairs → HasRoom s
one_room s classes pairs p = record { left = omega (arith, p.room); short = p.sound.short }

-- ---- the call
pub none_here : (s : Running) (point : ℕ) (classes : List ℕ) → class_of classes point ≡ None
    → no_class_here s point classes ≡ Err (record { cause = Unclassed; place = s.received })
unfolding no_class_here given refused_at
none_here s point classes e = rw e

module _ (s : Running) (point : ℕ) (classes pairs : List ℕ) where
  abbrev next : Running
  next = step pairs s (class_in point (class_of classes point))

  pub feed_refused : (r : Refusal) → bad_call s 1 classes pairs ≡ Err r → fed_unless (Err r) s s 0 ≡ feed_line s point classes pairs
  unfolding feed_line feed_causes bad_call
  feed_refused r e =
      fed_refused _ s next (s.received + 1) r
      (first_front (bad_state s ∷ line_full s 1 ∷ bad_classes classes ∷ bad_pairs pairs ∷ []) (no_class_here s point classes ∷ []) r e)

  causes_on : bad_call s 1 classes pairs ≡ Ok tt → feed_causes s point classes pairs ≡ no_class_here s point classes
  unfolding feed_causes bad_call
  causes_on e =
      first_past (bad_state s ∷ line_full s 1 ∷ bad_classes classes ∷ bad_pairs pairs ∷ []) (no_class_here s point classes ∷ []) e ∙ first_one _

  pub feed_on : bad_call s 1 classes pairs ≡ Ok tt → fed_unless (no_class_here s point classes) s next (s.received + 1) ≡ feed_line s point classes pairs
  unfolding feed_line
  feed_on e = ap (λ (c : Result ⊤ Refusal). fed_unless c s next (s.received + 1)) (sym (causes_on e))

  pub found_here : (c : Class) → class_of classes point ≡ Some c
      → record { state = step pairs s c; answer = Ok (s.received + 1) } ≡ fed_unless (no_class_here s point classes) s next (s.received + 1)
  unfolding no_class_here given fed_unless state_unless count_unless
  found_here c e = rw e

  -- ---- for readers
  pub refused_stays : (r : Refusal) → (feed_line s point classes pairs).answer ≡ Err r → (feed_line s point classes pairs).state ≡ s
  unfolding feed_line fed_unless state_unless
  refused_stays r e = rw (not_counted (feed_causes s point classes pairs) _ r e)

  pub accepted_free : Sound s → s.received < s.length → Tables classes pairs → missing (class_of classes point) ≡ false
      → feed_causes s point classes pairs ≡ Ok tt
  unfolding no_class_here
  accepted_free g h t m =
      causes_on (call_free s 1 classes pairs (record { sound = g; room = omega arith; tables = t }))
      ∙ free_given _ Unclassed s.received m

  pub accepted_state : feed_causes s point classes pairs ≡ Ok tt → (feed_line s point classes pairs).state ≡ next
  unfolding feed_line fed_unless state_unless
  accepted_state e = rw e
