-- A layer has at most n letters, and at most n different ones. Assumes nothing.
use native.Mathlib.Omega.{arith}
use Rattle.replay_layers.proofs.Loops.Filling.{roomy, sized, counted}
use Rattle.cd_letters.proofs.Laws.Ranked.{ranked_few}
use Rattle.replay_layers.proofs.past_layer.Goals as goal

pub slice_bounds-size-end-2 : goal.slice_bounds-size-end-2
slice_bounds-size-end-2 c = counted _ _ c.requires.1

pub size-c-requires : goal.size-c-requires
size-c-requires c =
    omega (arith, counted c.args.n c.args.work.now c.requires.1, c.requires.2)

pub overflow_add-next-2 : goal.overflow_add-next-2
overflow_add-next-2 c =
    omega (arith, sized _ _ _ _ c.requires.1 c.size-c.ensures, ranked_few _ _ _ c.rank-d.ensures (roomy _ _ c.requires.1 c.requires.2), c.requires.0, c.requires.2)

pub overflow_add-next-3 : goal.overflow_add-next-3
overflow_add-next-3 c =
    omega (arith, sized _ _ _ _ c.requires.1 c.size-c.ensures, ranked_few _ _ _ c.rank-d.ensures (roomy _ _ c.requires.1 c.requires.2), c.requires.0, c.requires.2)

pub same_ranking-requires : goal.same_ranking-requires
same_ranking-requires c = (
  omega (arith, sized _ _ _ _ c.requires.1 c.size-c.ensures, c.requires.0, c.requires.2),
  ranked_few _ _ _ c.rank-d.ensures (roomy _ _ c.requires.1 c.requires.2),
  omega (arith, c.requires.1, c.work-1.given),
  c.requires.2,
)

pub overflow_add-result : goal.overflow_add-result
overflow_add-result c =
    omega (arith, sized _ _ _ _ c.requires.1 c.size-c.ensures, ranked_few _ _ _ c.rank-d.ensures (roomy _ _ c.requires.1 c.requires.2), c.requires.0, c.requires.2)

pub overflow_add-result-then-same-same_ranking : goal.overflow_add-result-then-same-same_ranking
overflow_add-result-then-same-same_ranking c =
    omega (arith, sized _ _ _ _ c.requires.1 c.size-c.ensures, ranked_few _ _ _ c.rank-d.ensures (roomy _ _ c.requires.1 c.requires.2), c.requires.0, c.requires.2)
