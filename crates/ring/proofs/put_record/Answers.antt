-- Each return is one of the causes, in their order, or the record behind the newest one. Assumes nothing.
use mathlib.Core.Path.{sym, ap, ◌∙◌}
use native.Mathlib.Omega.{arith}
use lib.ListN.{length}
use Rattle.ring_meaning.proofs.Laws.Calls.{put_bad, put_full, put_kept}
use Rattle.ring_meaning.proofs.Laws.Record.{record_length}
use Rattle.ring_meaning.proofs.Laws.Ring.{free_inside}
use Rattle.ring_meaning.proofs.Laws.Size.{good_ring}
use Rattle.ring.proofs.put_record.Goals as goal

pub returns-then-wrong_ring : goal.returns-then-wrong_ring
returns-then-wrong_ring c =
    let told = put_bad _ _ _ _ (sym c.wrong_ring.ensures ∙ c.if-wrong_ring.true) in
    record { value = rw c.refuse.ensures told.0; ring_after = told.1 }

pub overflow_sub-unused : goal.overflow_sub-unused
overflow_sub-unused c = (good_ring _ _ _ (sym c.wrong_ring.ensures ∙ c.if-wrong_ring.false)).held

pub returns-then-unused-eq0 : goal.returns-then-unused-eq0
returns-then-unused-eq0 c =
    let fine = sym c.wrong_ring.ensures ∙ c.if-wrong_ring.false in
    let told = put_full _ _ _ fine _ (omega (arith, (good_ring _ _ _ fine).held, c.if-unused-eq0.true)) in
    record { value = rw c.refuse-then-unused-eq0.ensures told.0; ring_after = told.1 }

pub wrapped-free-requires : goal.wrapped-free-requires
wrapped-free-requires c =
    let good = good_ring _ _ _ (sym c.wrong_ring.ensures ∙ c.if-wrong_ring.false) in
    omega (arith, good.inside, good.held)

pub overflow_mul-free : goal.overflow_mul-free
overflow_mul-free c =
    let inside = free_inside _ _ _ (good_ring _ _ _ (sym c.wrong_ring.ensures ∙ c.if-wrong_ring.false)) _ c.wrapped-free.ensures in
    omega (arith, inside)

pub put_bytes-requires : goal.put_bytes-requires
put_bytes-requires c =
    let inside = free_inside _ _ _ (good_ring _ _ _ (sym c.wrong_ring.ensures ∙ c.if-wrong_ring.false)) _ c.wrapped-free.ensures in
    omega (arith, inside, ap length c.record_of-record.ensures, record_length c.args.verdict)

pub overflow_add-count : goal.overflow_add-count
overflow_add-count c =
    let good = good_ring _ _ _ (sym c.wrong_ring.ensures ∙ c.if-wrong_ring.false) in
    omega (arith, good.held, good.size.few)

pub returns : goal.returns
returns c =
    let room = c.if-unused-eq0.false in
    let told = put_kept c.args.ring.now c.args.head c.args.count (sym c.wrong_ring.ensures ∙ c.if-wrong_ring.false) c.args.verdict (λ e. room (omega (arith, e))) in
    record { value = rw c.ring_kept.ensures told.0; ring_after = cc told.1 }
