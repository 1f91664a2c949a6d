-- A layer of at most `small` letters is left alone; another's letters are ranked in the area, and they are the layer's letters in order. Assumes nothing.
use mathlib.Core.Path.{sym}
use native.Mathlib.Omega.{arith}
use lib.Seq.{length-take-le}
use Rattle.cd_work.proofs.Laws.Layer.{kept_same}
use Rattle.cd_letters.proofs.Laws.Ranked.{ranked_kept}
use Rattle.cd_meaning.proofs.Laws.Reading.{layer_skipped, layer_taken, standing_few, standing_end}
use Rattle.cd.proofs.reading.read_layer.Goals as goal

pub slice_bounds-size-end-2 : goal.slice_bounds-size-end-2
slice_bounds-size-end-2 c =
    sym (length-take-le _ _ (omega (arith, c.requires.1.wide)))

pub size-requires : goal.size-requires
size-requires c =
    let whole = length-take-le c.args.slots c.args.work.now (omega (arith, c.requires.1.wide)) in
    omega (arith, whole, c.requires.1.few)

pub returns-then-size-small : goal.returns-then-size-small
returns-then-size-small c =
    (layer_skipped _ _ _ _ _ _ _ _ c.requires.1 _ (rw c.size.ensures at c.if-size-small.true), kept_same _ _)

pub overflow_add-end : goal.overflow_add-end
overflow_add-end c =
    omega (
      arith,
      standing_end c.args.threshold c.args.small c.args.classes.now c.args.languages.now
          c.args.included.now _ _ _ c.requires.1 c.args.s c.rank-d.ensures c.order_start-start.ensures,
    )

pub slice_bounds-read_order-end : goal.slice_bounds-read_order-end
slice_bounds-read_order-end c =
    omega (
      arith,
      standing_end c.args.threshold c.args.small c.args.classes.now c.args.languages.now
          c.args.included.now _ _ _ c.requires.1 c.args.s c.rank-d.ensures c.order_start-start.ensures,
      (ranked_kept _ _ _ c.rank-d.ensures c.requires.1).size,
    )

pub read_order-requires : goal.read_order-requires
read_order-requires c = (
  c.requires.0,
  standing_few c.args.threshold c.args.small c.args.classes.now c.args.languages.now
      c.args.included.now _ _ _ c.requires.1 c.args.s c.rank-d.ensures c.order_start-start.ensures
      c.requires.2,
  c.requires.3,
)

pub returns : goal.returns
returns c = (
  layer_taken _ _ _ _ _ _ _ _ c.requires.1 _ c.rank-d.ensures c.order_start-start.ensures
      (rw c.size.ensures at c.if-size-small.false) _ c.read_order.ensures,
  ranked_kept _ _ _ c.rank-d.ensures c.requires.1,
)
