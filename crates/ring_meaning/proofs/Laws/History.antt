-- The history law (02, [11]): from an accepted opening on, over any list of calls and answers, the accepted puts are the flushed records and
-- then those in the ring, in this order and byte for byte (`history`); so there are as many (`history_counts`); and what is kept behind the last
-- call passes the test of the next, so that none is refused with 15 (`history_good`). `steps` is what one call keeps.
-- Assumes nothing.
use Rattle.std.specs.Prelude.{Result, Ok, Err}
use Prim.Native.Nat.{ℕ, zero, suc, min, ◌+◌, ◌-◌, ◌*◌, ◌%◌, ◌≤◌, ◌<◌}
use mathlib.Core.Path.{◌≡◌, refl, sym, ap, ◌∙◌}
use mathlib.Core.Bool.{false}
use mathlib.Core.List.{List, [], ◌∷◌, ◌++◌, append-nil, append_assoc, flatten}
use native.Mathlib.Nat.{mod-lt}
use native.Mathlib.Omega.{arith}
use lib.Dec.{eqb}
use lib.ListN.{length, length-append}
use lib.Seq.{take_at, drop_at}
use borrow.Author.Tests.{eqb-true, eqb-false}
use Rattle.base.specs.declared.Refusal.{Refusal}
use Rattle.base.specs.Causes.{refused_at}
use Rattle.base.specs.Put.{put}
use Rattle.base.specs.declared.refusals.Cause.TheVariants.{NoRoom, BadRing, RingFull}
use Rattle.base.proofs.Laws.Put.{put_first}
use Rattle.base.proofs.Laws.Tests.{by_bool, split}
use Rattle.ring_meaning.specs.declared.Kept.{Kept}
use Rattle.ring_meaning.specs.declared.Verdict.{Verdict}
use Rattle.ring_meaning.specs.Record.{RECORD, record_of}
use Rattle.ring_meaning.specs.Ring.{slots, slot, wrong_size, wrong_ring, records_from}
use Rattle.ring_meaning.specs.Inner.Ring.{GoodSize, GoodRing}
use Rattle.ring_meaning.specs.Calls.{kept_unless, open_answer, put_answer, ring_after, flush_answer, out_after}
use Rattle.ring_meaning.specs.History.{State, Event, Put, Flush, keeping, next, Answered, History, lastly, opened}
use Rattle.ring_meaning.specs.History.{put_in, puts, first_records, came_out, flushed, in_ring}
use Rattle.ring_meaning.proofs.Laws.Calls.{open_refused, open_kept, put_full, put_kept, flush_room, flush_kept}
use Rattle.ring_meaning.proofs.Laws.Record.{record_length}
use Rattle.ring_meaning.proofs.Laws.Ring.{length_same, slot_length, records_appended, records_split, records_wrap, records_count}
use Rattle.ring_meaning.proofs.Laws.Size.{good_size, good_length, ring_good}

abbrev pub Good : State → Type 0
Good s = GoodRing s.ring s.head s.count

-- what one call keeps: a good ring, and the records that were in it and that it put are those that came out and that are in it
abbrev pub Step : State → Event → Type 0
Step s e = Good (next s e) × (in_ring s ++ put_in e ≡ came_out s e ++ in_ring (next s e))

-- ---- the records at the front of bytes are those that were written there
front_records : (ring rest : List ℕ) → GoodSize ring → (at n : ℕ) → first_records (flatten (records_from ring at n) ++ rest) n ≡ records_from ring at n
unfolding first_records records_from flatten
front_records ring rest g at zero = refl
front_records ring rest g at (suc n) =
    let x = slot ring (at % slots ring) in
    let l : length x ≡ RECORD = slot_length ring g (at % slots ring) (mod-lt at g.some) in
    let more = flatten (records_from ring (at + 1) n) in
    rw (append_assoc x more rest, take_at x (more ++ rest) RECORD l, drop_at x (more ++ rest) RECORD l)
    (ap (λ (y : List (List ℕ)). x ∷ y) (front_records ring rest g (at + 1) n))

-- ---- a put
put_refused : (s : State) (v : Verdict) → Good s → Step s (Put v s.ring (refused_at RingFull 0))
unfolding kept_unless refused_at next keeping put_in came_out in_ring
put_refused s v g = (g, append-nil (records_from s.ring s.head s.count))

put_accepted : (s : State) (v : Verdict) → Good s → s.count < slots s.ring
    → Step s (Put v (put s.ring (RECORD * ((s.head + s.count) % slots s.ring)) (record_of v)) (kept_unless (Ok tt) s.head (s.count + 1)))
unfolding kept_unless next keeping put_in came_out in_ring
put_accepted s v g h =
    let r = record_length v in
    let same = length_same s.ring g.size (record_of v) r ((s.head + s.count) % slots s.ring) (mod-lt (s.head + s.count) g.size.some) in (
      good_length _ s.ring s.head (s.count + 1) same (record { size = g.size; inside = g.inside; held = omega arith }),
      sym (records_appended s.ring s.head s.count g h (record_of v) r),
    )

put_steps : (s : State) (v : Verdict) (left : List ℕ) (a : Result Kept Refusal) → Good s
    → a ≡ put_answer s.ring s.head s.count
    → left ≡ ring_after s.ring s.head s.count v
    → Step s (Put v left a)
put_steps s v left a g e f =
    let good = ring_good s.ring s.head s.count g in
    by_bool (eqb s.count (slots s.ring))
    (λ t. let p = put_full s.ring s.head s.count good v (eqb-true s.count (slots s.ring) t) in
    rw (e ∙ sym p.0, f ∙ sym p.1) (put_refused s v g))
    (λ t. let p = put_kept s.ring s.head s.count good v (eqb-false s.count (slots s.ring) t) in
    rw (e ∙ sym p.0, f ∙ sym p.1) (put_accepted s v g (less t)))
  where
    less : eqb s.count (slots s.ring) ≡ false → s.count < slots s.ring
    less t = below s.count (slots s.ring) g.held (eqb-false s.count (slots s.ring) t)
      where
        below : (m n : ℕ) → m ≤ n → (m ≡ n → ⊥) → m < n
        below m n h ne = split m n (λ l. l) (λ l. absurd (ne (omega arith)))

-- ---- a flush
flush_refused : (s : State) (most : ℕ) (out : List ℕ) → Good s → Step s (Flush most out out (refused_at NoRoom 0))
unfolding kept_unless refused_at next keeping put_in came_out in_ring
flush_refused s most out g = (g, append-nil (records_from s.ring s.head s.count))

flush_accepted : (s : State) (most : ℕ) (out : List ℕ) → Good s
    → Step s
    (Flush most out (put out 0 (flatten (records_from s.ring s.head (min most s.count))))
    (kept_unless (Ok tt) ((s.head + min most s.count) % slots s.ring) (s.count - min most s.count)))
unfolding kept_unless next keeping put_in came_out in_ring
flush_accepted s most out g =
    let n = min most s.count in
    let fall : s.count - (s.count - n) ≡ n = omega arith in
    let whole : n + (s.count - n) ≡ s.count = omega arith in (
      record { size = g.size; inside = mod-lt (s.head + n) g.size.some; held = omega (arith, g.held) },
      append-nil (records_from s.ring s.head s.count)
          ∙ ap (records_from s.ring s.head) (sym whole)
          ∙ records_split s.ring s.head n (s.count - n)
          ∙ ap (λ (x : List (List ℕ)). x ++ records_from s.ring (s.head + n) (s.count - n)) (sym (written fall))
          ∙ ap
          (λ (x : List (List ℕ)). first_records (put out 0 (flatten (records_from s.ring s.head n))) (s.count - (s.count - n)) ++ x)
          (sym (records_wrap s.ring (s.head + n) (s.count - n))),
    )
  where
    written : s.count - (s.count - min most s.count) ≡ min most s.count
        → first_records (put out 0 (flatten (records_from s.ring s.head (min most s.count)))) (s.count - (s.count - min most s.count))
        ≡ records_from s.ring s.head (min most s.count)
    written fall =
        rw (fall, put_first out (flatten (records_from s.ring s.head (min most s.count))))
        (front_records s.ring _ g.size s.head (min most s.count))

flush_steps : (s : State) (most : ℕ) (out left : List ℕ) (a : Result Kept Refusal) → Good s
    → a ≡ flush_answer s.ring s.head s.count most (length out)
    → left ≡ out_after s.ring s.head s.count most out
    → Step s (Flush most out left a)
flush_steps s most out left a g e f =
    let good = ring_good s.ring s.head s.count g in
    split (length out) (RECORD * min most s.count)
    (λ h. let p = flush_room s.ring s.head s.count most out good h in rw (e ∙ sym p.0, f ∙ sym p.1) (flush_refused s most out g))
    (λ h. let p = flush_kept s.ring s.head s.count most out good h in rw (e ∙ sym p.0, f ∙ sym p.1) (flush_accepted s most out g))

-- ---- any call, and any list of them
pub steps : (s : State) (e : Event) → Good s → Answered s e → Step s e
unfolding Answered
steps s (Put v left a) g h = put_steps s v left a g h.0 h.1
steps s (Flush most out left a) g h = flush_steps s most out left a g h.0 h.1

pub kept_good : (s : State) (es : List Event) → Good s → History s es → Good (lastly s es)
unfolding History lastly
kept_good s [] g h = g
kept_good s (e ∷ es) g h = kept_good (next s e) es (steps s e g h.0).0 h.1

pub kept_records_lem : (s : State) (es : List Event) → Good s → History s es → in_ring s ++ puts es ≡ flushed s es ++ in_ring (lastly s es)
unfolding History lastly puts flushed
kept_records_lem s [] g h = append-nil (in_ring s)
kept_records_lem s (e ∷ es) g h =
    let step = steps s e g h.0 in
    sym (append_assoc (in_ring s) (put_in e) (puts es))
    ∙ ap (λ (x : List (List ℕ)). x ++ puts es) step.1
    ∙ append_assoc (came_out s e) (in_ring (next s e)) (puts es)
    ∙ ap (λ (x : List (List ℕ)). came_out s e ++ x) (kept_records_lem (next s e) es step.0 h.1)
    ∙ sym (append_assoc (came_out s e) (flushed (next s e) es) (in_ring (lastly (next s e) es)))

-- ---- from opening on
open_none : (ring : List ℕ) (k : Kept) → open_answer ring ≡ Ok k → (k.head ≡ 0) × (k.count ≡ 0) × (wrong_size ring ≡ false)
unfolding kept_unless refused_at
open_none ring k e = by_bool (wrong_size ring) (λ t. never (open_refused ring t ∙ e)) (λ t. let p = same (open_kept ring t ∙ e) in (p.0, p.1, t))
  where
    same : ◌≡◌ {A = Result Kept Refusal} (Ok (record { head = 0; count = 0 })) (Ok k) → (k.head ≡ 0) × (k.count ≡ 0)
    same f = let q : ◌≡◌ {A = Kept} (record { head = 0; count = 0 }) k = cc in (sym (ap (λ (x : Kept). x.head) q), sym (ap (λ (x : Kept). x.count) q))

    never : {A : Type 0} → ◌≡◌ {A = Result Kept Refusal} (Err (record { cause = BadRing; place = 0 })) (Ok k) → A
    never f = let z : ◌≡◌ {A = ℕ} 0 1 = cc in absurd (omega arith)

module _ (ring : List ℕ) (k : Kept) (o : open_answer ring ≡ Ok k) where
  open_good : Good (opened ring k)
  unfolding opened
  open_good =
      let p = open_none ring k o in
      let size = good_size ring p.2 in
      record { size = size; inside = rw p.0 size.some; held = rw p.1 (omega arith) }

  open_empty : in_ring (opened ring k) ≡ []
  unfolding opened in_ring records_from
  open_empty = rw (open_none ring k o).1

  module _ (es : List Event) (h : History (opened ring k) es) where
    pub history : puts es ≡ flushed (opened ring k) es ++ in_ring (lastly (opened ring k) es)
    history =
        ap (λ (x : List (List ℕ)). x ++ puts es) (sym open_empty) ∙ kept_records_lem (opened ring k) es open_good h

    -- "accepted puts equal flushed records plus those in the ring"
    pub history_counts : length (puts es) ≡ length (flushed (opened ring k) es) + (lastly (opened ring k) es).count
    unfolding in_ring
    history_counts =
        let s = lastly (opened ring k) es in
        ap length history ∙ length-append (flushed (opened ring k) es) (in_ring s)
        ∙ ap (λ (n : ℕ). length (flushed (opened ring k) es) + n) (records_count s.ring s.head s.count)

    -- what is kept passes the test of the next call
    pub history_good : wrong_ring (lastly (opened ring k) es).ring (lastly (opened ring k) es).head (lastly (opened ring k) es).count ≡ false
    history_good = ring_good _ _ _ (kept_good (opened ring k) es open_good h)
