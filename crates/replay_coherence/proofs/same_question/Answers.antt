-- The parts lent are as long as was cut, and each word that is named lies within two blocks. Assumes nothing.
use native.Mathlib.Omega.{arith}
use lib.ListN.{length-take}
use Rattle.replay_coherence.proofs.same_question.Goals as goal

pub slice_bounds-same_ranking-end : goal.slice_bounds-same_ranking-end
slice_bounds-same_ranking-end c =
    simp length-take (omega (arith, c.repeat_words.ensures, c.least-n.ensures))

pub slice_bounds-same_ranking-end-2 : goal.slice_bounds-same_ranking-end-2
slice_bounds-same_ranking-end-2 c =
    simp length-take (omega (arith, c.words.ensures, c.least-i.ensures))

pub same_ranking-requires : goal.same_ranking-requires
same_ranking-requires c =
    (c.requires, omega (arith, c.requires, c.least-p.ensures, c.least-i.ensures), simp length-take (omega (arith, c.least-n.ensures)))
