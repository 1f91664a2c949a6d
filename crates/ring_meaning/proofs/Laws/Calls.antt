-- One law for each way in which a call returns: `open_refused`, `open_kept`; `put_bad`, `put_full`, `put_kept`; `flush_bad`, `flush_room`, `flush_kept`.
-- Assumes nothing.
use Rattle.std.specs.Prelude.{Result, Ok, ⊤}
use Prim.Native.Nat.{ℕ, min, ◌+◌, ◌-◌, ◌*◌, ◌%◌, ◌≤◌, ◌<◌}
use mathlib.Core.Path.{◌≡◌, sym, ◌∙◌}
use mathlib.Core.Bool.{true, false}
use mathlib.Core.List.{List, [], ◌∷◌, flatten}
use lib.ListN.{length}
use borrow.Author.Tests.{lt-ltb, le-ltb, eq-eqb, ne_eqb}
use Rattle.base.specs.declared.refusals.Cause.{Cause}
use Rattle.base.specs.declared.Refusal.{Refusal}
use Rattle.base.specs.Causes.{refused_at, first_of}
use Rattle.base.specs.Put.{put}
use Rattle.base.specs.declared.refusals.Cause.TheVariants.{NoRoom, BadRing, RingFull}
use Rattle.base.proofs.Laws.Causes.{given_yes, free_given, first_given, first_passed}
use Rattle.base.proofs.Laws.Counted.{after_allowed, after_refused}
use Rattle.ring_meaning.specs.declared.Verdict.{Verdict}
use Rattle.ring_meaning.specs.Record.{RECORD, record_of}
use Rattle.ring_meaning.specs.Ring.{slots, wrong_size, wrong_ring, records_from}
use Rattle.ring_meaning.specs.Calls.{kept_unless, open_answer, bad_ring, full, put_causes, put_answer, ring_unless, ring_after}
use Rattle.ring_meaning.specs.Calls.{no_room, flush_causes, flush_answer, out_after}
use Rattle.ring_meaning.specs.declared.Kept.{Kept}

-- a refusal is the same whatever was to be kept
kept_at : (c : Result ⊤ Refusal) (head count : ℕ) (cause : Cause) → c ≡ refused_at cause 0 → refused_at cause 0 ≡ kept_unless c head count
unfolding kept_unless refused_at
kept_at c head count cause e = rw e

module _ (ring : List ℕ) where
  pub open_refused : wrong_size ring ≡ true → refused_at BadRing 0 ≡ open_answer ring
  unfolding open_answer
  open_refused e = kept_at _ 0 0 BadRing (given_yes _ BadRing 0 e)

  pub open_kept : wrong_size ring ≡ false → kept_unless (Ok tt) 0 0 ≡ open_answer ring
  unfolding open_answer
  open_kept e = rw (free_given (wrong_size ring) BadRing 0 e)

module _ (ring : List ℕ) (head count : ℕ) where
  -- ---- the answer of a put is a, and the ring is left as new
  abbrev pub Puts : Verdict → Result Kept Refusal → List ℕ → Type 0
  Puts v a new = (a ≡ put_answer ring head count) × (new ≡ ring_after ring head count v)

  ring_refused : (cause : Cause) (v : Verdict) → put_causes ring head count ≡ refused_at cause 0 → ring ≡ ring_after ring head count v
  unfolding ring_after ring_unless refused_at
  ring_refused cause v e = rw e

  put_at_lem : (cause : Cause) (v : Verdict) → put_causes ring head count ≡ refused_at cause 0
      → Puts v (refused_at cause 0) ring
  unfolding put_answer
  put_at_lem cause v e = (kept_at _ head (count + 1) cause e, ring_refused cause v e)

  pub put_bad : (v : Verdict) → wrong_ring ring head count ≡ true → Puts v (refused_at BadRing 0) ring
  unfolding put_causes bad_ring
  put_bad v e = put_at_lem BadRing v (first_given _ _ BadRing 0 e)

  module _ (good : wrong_ring ring head count ≡ false) where
    put_past : put_causes ring head count ≡ first_of (full ring head count ∷ [])
    unfolding put_causes bad_ring
    put_past = first_passed _ _ BadRing 0 good

    pub put_full : (v : Verdict) → count ≡ slots ring → Puts v (refused_at RingFull 0) ring
    unfolding full
    put_full v e = put_at_lem RingFull v (put_past ∙ first_given [] _ RingFull 0 (eq-eqb count (slots ring) e))

    pub put_kept : (v : Verdict) → (count ≡ slots ring → ⊥)
        → Puts v (kept_unless (Ok tt) head (count + 1)) (put ring (RECORD * ((head + count) % slots ring)) (record_of v))
    unfolding full put_answer ring_after ring_unless first_of
    put_kept v e = let a = put_past ∙ first_passed [] _ RingFull 0 (ne_eqb count (slots ring) e) in (rw a, rw a)

  -- ---- the answer of a flush is a, and the output is left as new
  module _ (most : ℕ) (out : List ℕ) where
    abbrev pub Flushes : Result Kept Refusal → List ℕ → Type 0
    Flushes a new = (a ≡ flush_answer ring head count most (length out)) × (new ≡ out_after ring head count most out)

    flush_at : (cause : Cause) → flush_causes ring head count most (length out) ≡ refused_at cause 0
        → Flushes (refused_at cause 0) out
    unfolding flush_answer out_after refused_at
    flush_at cause e = (kept_at _ _ _ cause e, sym (after_refused _ out _ _ e))

    pub flush_bad : wrong_ring ring head count ≡ true → Flushes (refused_at BadRing 0) out
    unfolding flush_causes bad_ring
    flush_bad e = flush_at BadRing (first_given _ _ BadRing 0 e)

    module _ (good : wrong_ring ring head count ≡ false) where
      flush_past : flush_causes ring head count most (length out) ≡ first_of (no_room ring head count most (length out) ∷ [])
      unfolding flush_causes bad_ring
      flush_past = first_passed _ _ BadRing 0 good

      pub flush_room : length out < RECORD * min most count → Flushes (refused_at NoRoom 0) out
      unfolding no_room
      flush_room h = flush_at NoRoom (flush_past ∙ first_given [] _ NoRoom 0 (lt-ltb (length out) (RECORD * min most count) h))

      pub flush_kept : RECORD * min most count ≤ length out
          → Flushes (kept_unless (Ok tt) ((head + min most count) % slots ring) (count - min most count))
          (put out 0 (flatten (records_from ring head (min most count))))
      unfolding no_room flush_answer out_after first_of
      flush_kept h =
          let a = flush_past ∙ first_passed [] _ NoRoom 0 (le-ltb (length out) (RECORD * min most count) h) in
          (rw a, sym (after_allowed _ out _ a))
