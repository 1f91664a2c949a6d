-- The invariant: the slots of the first i characters, as many as they are, stand in the work area. Assumes nothing.
use mathlib.Core.Path.{◌∙◌, sym}
use Rattle.cd_taken.proofs.Loops.Filling.{filling_start, filling_one, filling_end, single}
use Rattle.cd_taken.proofs.fill_single.Goals as goal

pub loop-i-init : goal.loop-i-init
loop-i-init c =
    filling_start _ _ _ (rw c.requires.1 at c.requires.2)

pub loop-i-preserved : goal.loop-i-preserved
loop-i-preserved c =
    let start = c.letters_start-letters.ensures ∙ c.requires.1 in
    rw c.put_slot.ensures
    (filling_one _ _ _ c.loop-i.invariant c.loop-i-test.true c.letter_of-letter.ensures start
    (single c.args.text.now (sym c.requires.1 ∙ c.requires.3) c.loop-i.i c.loop-i-test.true))

pub returns : goal.returns
returns c = filling_end _ _ _ c.loop-i.invariant c.loop-i-test.false
