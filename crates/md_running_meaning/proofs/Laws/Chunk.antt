-- Laws of a chunk: how its states go on (`steps_start`, `steps_more`, `steps_length`, `steps_received`), what is refused within (`within-at`, `within_none`),
-- the call behind the checks (`chunk_refused`, `chunk_on`, `chunk_room`); and for readers, that an accepted chunk leaves what its characters leave one by one, each
-- single call being accepted (`chunk_one_by_one`, `chunk_each`), and a refused one the state given (`chunk_stays`).
-- Assumes nothing.
use Rattle.std.specs.Prelude.{Result, Ok, Err, Some, ⊤}
use Prim.Native.Nat.{ℕ, zero, suc, ◌+◌, ◌-◌, ◌≤◌, ◌<◌}
use mathlib.Core.Path.{◌≡◌, refl, sym, ap, ◌∙◌}
use mathlib.Core.Bool.{Bool, true, false, cond, ◌||◌, true≢false}
use mathlib.Core.List.{List, [], ◌∷◌}
use native.Mathlib.Numerals.{add-one}
use native.Mathlib.Nat.{add-zero}
use native.Mathlib.Omega.{arith}
use lib.Dec.{ltb}
use lib.ListN.{length}
use borrow.Author.Tests.{lt-ltb, le-ltb}
use Rattle.base.specs.declared.Refusal.{Refusal}
use Rattle.base.specs.Causes.{refused_at, given}
use Rattle.base.specs.First.{first}
use Rattle.base.specs.declared.refusals.Cause.TheVariants.{Unclassed, BadState}
use Rattle.base.proofs.Laws.Causes.{first_one, first_refused, first_on, first_free, first_front, first_past, given_free}
use Rattle.base.proofs.Laws.Counted.{not_counted}
use Rattle.base.proofs.Laws.First.{first_before, first_found}
use Rattle.base.proofs.Laws.Tests.{by_bool, split}
use Rattle.classes.specs.declared.Class.{Class}
use Rattle.classes.specs.Check.{bad_classes}
use Rattle.classes.specs.Lookup.{class_of, missing}
use Rattle.classes.specs.Pairs.{bad_pairs}
use Rattle.md_meaning.specs.Text.{char_at}
use Rattle.md_meaning.specs.Scan.{class_in, class_at, unclassed}
use Rattle.md_running_meaning.specs.declared.Running.{Running}
use Rattle.md_running_meaning.specs.State.{unsound, bad_state}
use Rattle.md_running_meaning.specs.Feeding.{arrived, fed_on, step, line_full, state_unless, fed_unless, feed_causes, feed_line}
use Rattle.md_running_meaning.specs.Chunk.{steps_at, halts_at, halt, refusal_at, refused_within, chunk_causes, feed_chunk, one_by_one}
use Rattle.md_running_meaning.specs.Inner.Step.{bad_call}
use Rattle.md_running_meaning.specs.Inner.Chunk.{Chunk}
use Rattle.md_running_meaning.proofs.Laws.State.{unsound_bad, sound_good, sound_of, free_unsound}
use Rattle.md_running_meaning.proofs.Laws.Feeding.{fed_refused, free_call, accepted_free, accepted_state}

neither_l : (a b : Bool) → a || b ≡ false → a ≡ false
neither_l true b e = e
neither_l false b e = refl

neither_r : (a b : Bool) → a || b ≡ false → b ≡ false
neither_r true b e = let z : true ≡ false = e in bad z
  where
    bad : {b : Bool} → true ≡ false → b ≡ false
    bad z = cc
neither_r false b e = e

-- ---- one step
module _ (pairs : List ℕ) (s : Running) (c : Class) where
  step_length : (step pairs s c).length ≡ s.length
  unfolding step arrived fed_on
  step_length = by_bool s.stopped (λ e. rw e) (λ e. rw e)

  step_received : (step pairs s c).received ≡ s.received + 1
  unfolding step arrived fed_on
  step_received = by_bool s.stopped (λ e. rw e) (λ e. rw e)

module _ (s : Running) (text classes pairs : List ℕ) where
  abbrev at : ℕ → Running
  at = steps_at s text classes pairs

  pub steps_start : at 0 ≡ s
  unfolding steps_at
  steps_start = refl

  pub steps_more : (i : ℕ) (c : Class) → class_at classes text i ≡ Some c → at (i + 1) ≡ step pairs (at i) c
  unfolding steps_at
  steps_more i c e = ap at (add-one i) ∙ rw e

  pub steps_length : (i : ℕ) → (at i).length ≡ s.length
  unfolding steps_at
  steps_length zero = refl
  steps_length (suc i) = step_length pairs (at i) _ ∙ steps_length i

  pub steps_received : (i : ℕ) → (at i).received ≡ s.received + i
  unfolding steps_at
  steps_received zero = sym (add-zero s.received)
  steps_received (suc i) = let h = steps_received i in let k = step_received pairs (at i) (class_in (char_at text i) (class_at classes text i)) in omega (arith, h, k)

  -- ---- what is refused within
  pub halts_unsound : (i : ℕ) → unsound (at i) ≡ true → halts_at s text classes pairs i ≡ true
  unfolding halts_at
  halts_unsound i e = rw e

  pub halts_unclassed : (i : ℕ) → unsound (at i) ≡ false → unclassed classes text i ≡ true → halts_at s text classes pairs i ≡ true
  unfolding halts_at
  halts_unclassed i e f = rw (e, f)

  pub halts_not : (i : ℕ) → unsound (at i) ≡ false → unclassed classes text i ≡ false → halts_at s text classes pairs i ≡ false
  unfolding halts_at
  halts_not i e f = rw (e, f)

  pub within_unsound : (i : ℕ) → i < length text → halt s text classes pairs ≡ i → unsound (at i) ≡ true
      → refused_within s text classes pairs ≡ Err (record { cause = BadState; place = 0 })
  unfolding refused_within refusal_at refused_at
  within_unsound i h e u = rw (e, lt-ltb i (length text) h) (first_refused _ (bad_state (at i)) _ (unsound_bad (at i) u))

  pub within_unclassed : (i : ℕ) → i < length text → halt s text classes pairs ≡ i → unsound (at i) ≡ false → unclassed classes text i ≡ true
      → refused_within s text classes pairs ≡ Err (record { cause = Unclassed; place = (at i).received })
  unfolding refused_within refusal_at refused_at given
  within_unclassed i h e u m =
      rw (e, lt-ltb i (length text) h)
      (first_on _ (bad_state (at i)) (sound_good (at i) u) ∙ first_one _ ∙ rw m (ap (λ (n : ℕ). Err (record { cause = Unclassed; place = n })) (sym (steps_received i))))

  pub within_none : halt s text classes pairs ≡ length text → refused_within s text classes pairs ≡ Ok tt
  unfolding refused_within
  within_none e = rw (e, le-ltb (length text) (length text) (omega arith))

  -- ---- the call
  abbrev next : Running
  next = at (length text)

  pub chunk_refused : (r : Refusal) → bad_call s (length text) classes pairs ≡ Err r → fed_unless (Err r) s s 0 ≡ feed_chunk s text classes pairs
  unfolding feed_chunk chunk_causes bad_call
  chunk_refused r e =
      fed_refused _ s next (s.received + length text) r
      (first_front (bad_state s ∷ line_full s (length text) ∷ bad_classes classes ∷ bad_pairs pairs ∷ []) (refused_within s text classes pairs ∷ []) r e)

  causes_within : bad_call s (length text) classes pairs ≡ Ok tt → chunk_causes s text classes pairs ≡ refused_within s text classes pairs
  unfolding chunk_causes bad_call
  causes_within e =
      first_past (bad_state s ∷ line_full s (length text) ∷ bad_classes classes ∷ bad_pairs pairs ∷ []) (refused_within s text classes pairs ∷ []) e ∙ first_one _

  pub chunk_on : bad_call s (length text) classes pairs ≡ Ok tt
      → fed_unless (refused_within s text classes pairs) s next (s.received + length text) ≡ feed_chunk s text classes pairs
  unfolding feed_chunk
  chunk_on e = ap (λ (c : Result ⊤ Refusal). fed_unless c s next (s.received + length text)) (sym (causes_within e))

  pub chunk_room : bad_call s (length text) classes pairs ≡ Ok tt → Chunk s text classes pairs
  chunk_room e =
      let p = free_call s (length text) classes pairs e in
      let d = p.sound.declared in
      let r = p.room in
      record { left = omega (arith, d, r); short = p.sound.short; tables = p.tables }

  -- ---- for readers
  pub chunk_stays : (r : Refusal) → (feed_chunk s text classes pairs).answer ≡ Err r → (feed_chunk s text classes pairs).state ≡ s
  unfolding feed_chunk fed_unless state_unless
  chunk_stays r e = rw (not_counted (chunk_causes s text classes pairs) _ r e)

  free_before : chunk_causes s text classes pairs ≡ Ok tt → bad_call s (length text) classes pairs ≡ Ok tt
  unfolding chunk_causes bad_call
  free_before e =
      let a = first_free (bad_state s) _ e in
      let b = first_free (line_full s (length text)) _ a.1 in
      let c = first_free (bad_classes classes) _ b.1 in
      let d = first_free (bad_pairs pairs) _ c.1 in
      first_on _ (bad_state s) a.0 ∙ first_on _ (line_full s (length text)) b.0 ∙ first_on _ (bad_classes classes) c.0 ∙ first_one _ ∙ d.0

  -- where nothing is refused within, the first that is refused is none
  halt_free : refused_within s text classes pairs ≡ Ok tt → halt s text classes pairs < length text
      → halts_at s text classes pairs (halt s text classes pairs) ≡ false
  unfolding refused_within refusal_at
  halt_free e l =
      let f : refusal_at s text classes pairs (halt s text classes pairs) ≡ (Ok tt) = rw (lt-ltb (halt s text classes pairs) (length text) l) at e in
      let a = first_free (bad_state (at (halt s text classes pairs))) _ f in
      let b = first_free (given (unclassed classes text (halt s text classes pairs)) Unclassed (s.received + halt s text classes pairs)) [] a.1 in
      halts_not (halt s text classes pairs) (free_unsound _ a.0) (given_free _ Unclassed _ b.0)

  module _ (e : chunk_causes s text classes pairs ≡ Ok tt) where
    -- no character is refused
    none_halts : (k : ℕ) → k < length text → halts_at s text classes pairs k ≡ false
    none_halts k h =
        split (halt s text classes pairs) (length text)
        (λ l. absurd
        (true≢false (sym (first_found (halts_at s text classes pairs) (length text) l) ∙ halt_free (sym (causes_within (free_before e)) ∙ e) l)))
        (λ l. first_before (halts_at s text classes pairs) (length text) k (omega arith))

    -- each single call is accepted, and leaves the chunk's next state
    pub chunk_each : (k : ℕ) → k < length text → feed_causes (at k) (char_at text k) classes pairs ≡ Ok tt
    unfolding halts_at unclassed class_at
    chunk_each k h =
        let room = chunk_room (free_before e) in
        let l = room.left in
        let a = steps_received k in
        let b = steps_length k in
        let n = none_halts k h in
        accepted_free (at k) (char_at text k) classes pairs
        (sound_of (at k) (neither_l (unsound (at k)) (missing (class_of classes (char_at text k))) n))
        (omega (arith, l, a, b, h)) room.tables
        (neither_r (unsound (at k)) (missing (class_of classes (char_at text k))) n)

    same_at : (k : ℕ) → k ≤ length text → one_by_one s text classes pairs k ≡ at k
    unfolding one_by_one steps_at class_at
    same_at zero h = refl
    same_at (suc k) h =
        ap (λ (t : Running). (feed_line t (char_at text k) classes pairs).state) (same_at k (omega arith))
        ∙ accepted_state (at k) (char_at text k) classes pairs (chunk_each k (omega arith))

    -- "an accepted chunk leaves exactly what feeding its characters one by one leaves"
    pub chunk_one_by_one : (feed_chunk s text classes pairs).state ≡ one_by_one s text classes pairs (length text)
    unfolding feed_chunk fed_unless state_unless
    chunk_one_by_one = rw e (sym (same_at (length text) (omega arith)))
