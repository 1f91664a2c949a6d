-- Each return is one of the causes, in their order, or the oldest records. Assumes nothing.
use mathlib.Core.Path.{sym, ◌∙◌}
use native.Mathlib.Omega.{arith}
use Rattle.ring_meaning.proofs.Laws.Calls.{flush_bad, flush_room, flush_kept}
use Rattle.ring_meaning.proofs.Laws.Ring.{slot_small}
use Rattle.ring_meaning.proofs.Laws.Size.{good_ring, good_fewer}
use Rattle.ring.proofs.flush_records.Goals as goal

pub returns-then-wrong_ring : goal.returns-then-wrong_ring
returns-then-wrong_ring c =
    let told = flush_bad _ _ _ _ _ (sym c.wrong_ring.ensures ∙ c.if-wrong_ring.true) in
    record { value = rw c.refuse.ensures told.0; out_after = told.1 }

pub returns-then-out-n : goal.returns-then-out-n
returns-then-out-n c =
    let told = flush_room c.args.ring.now c.args.head c.args.count c.args.most _ (sym c.wrong_ring.ensures ∙ c.if-wrong_ring.false) (omega arith) in
    record { value = rw c.refuse-then-out-n.ensures told.0; out_after = told.1 }

pub copy_records-requires : goal.copy_records-requires
copy_records-requires c =
    let good = good_ring _ _ _ (sym c.wrong_ring.ensures ∙ c.if-wrong_ring.false) in
    (good_fewer _ _ _ _ good (omega arith), c.if-out-n.false)

pub wrapped-next-requires : goal.wrapped-next-requires
wrapped-next-requires c =
    let good = good_ring _ _ _ (sym c.wrong_ring.ensures ∙ c.if-wrong_ring.false) in
    omega (arith, good.inside, good.held)

pub overflow_cast-next : goal.overflow_cast-next
overflow_cast-next c =
    let good = good_ring _ _ _ (sym c.wrong_ring.ensures ∙ c.if-wrong_ring.false) in
    omega (arith, slot_small _ good.size _ c.wrapped-next.ensures)

pub returns : goal.returns
returns c =
    let told = flush_kept c.args.ring.now c.args.head c.args.count c.args.most c.args.out.now (sym c.wrong_ring.ensures ∙ c.if-wrong_ring.false) (omega arith) in
    record { value = cc told.0; out_after = cc told.1 }
