-- The invariant: the slots of the first characters stand in the work area. Assumes nothing.
use mathlib.Core.Path.{◌∙◌}
use Rattle.cd_taken.proofs.Loops.Filling.{filling_start, filling_inside, filling_behind, filling_one, filling_behind_two, filling_two, filling_end}
use borrow.Author.Tests.{eq-eqb, ne_eqb}
use Rattle.cd_taken.proofs.fill_each.Goals as goal
use Rattle.cd_taken.proofs.fill_each.Goals.{then-point-eq-CAPITAL_I_WITH_DOT, else-point-eq-CAPITAL_I_WITH_DOT}

pub loop-point-init : goal.loop-point-init
loop-point-init c =
    filling_start _ _ _ (rw c.requires.1 at c.requires.2)

pub put_two-requires : goal.put_two-requires
put_two-requires c =
    let start = c.letters_start-letters.ensures ∙ c.requires.1 in
    filling_behind_two _ _ _ c.loop-point.invariant c.loop-point-test.true c.letter_of-letter.ensures start (eq-eqb _ _ c.if-point-eq-CAPITAL_I_WITH_DOT.true)

pub put_slot-requires : goal.put_slot-requires
put_slot-requires c =
    let start = c.letters_start-letters.ensures ∙ c.requires.1 in (
      filling_inside _ _ _ c.loop-point.invariant c.loop-point-test.true c.letter_of-letter.ensures start,
      filling_behind _ _ _ c.loop-point.invariant c.loop-point-test.true c.letter_of-letter.ensures start,
    )

pub loop-point-preserved : goal.loop-point-preserved
loop-point-preserved c =
    let start = c.letters_start-letters.ensures ∙ c.requires.1 in
    elim c.if-point-eq-CAPITAL_I_WITH_DOT.branch [
      | then-point-eq-CAPITAL_I_WITH_DOT w ↦
          rw (w.work-is, w.k-is, w.put_two.ensures)
          (filling_two _ _ _ c.loop-point.invariant c.loop-point-test.true c.letter_of-letter.ensures start (eq-eqb _ _ w.if-point-eq-CAPITAL_I_WITH_DOT.true))
      | else-point-eq-CAPITAL_I_WITH_DOT w ↦
          rw (w.work-is, w.k-is, w.put_slot.ensures)
          (filling_one _ _ _ c.loop-point.invariant c.loop-point-test.true c.letter_of-letter.ensures start (ne_eqb _ _ w.if-point-eq-CAPITAL_I_WITH_DOT.false))
    ]

pub returns : goal.returns
returns c = filling_end _ _ _ c.loop-point.invariant c.loop-point-test.false
