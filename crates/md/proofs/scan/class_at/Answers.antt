-- The lookup of the character at i, by its contracts: below the built-in table's end no record is looked for. Assumes nothing.
use native.Mathlib.Omega.{arith}
use Rattle.classes.proofs.Laws.Lookup.{class_builtin, class_lent}
use Rattle.md_meaning.specs.Scan.{class_at}
use Rattle.md.proofs.scan.class_at.Goals as goal

pub returns-then-p-lt-BUILTIN_END : goal.returns-then-p-lt-BUILTIN_END
unfolding class_at
returns-then-p-lt-BUILTIN_END c =
    let is = c.char_at-p.ensures in
    let below = c.if-p-lt-BUILTIN_END.true in
    record { found = rw (← is, class_builtin _ _ below, c.builtin_class.ensures); held = λ h. absurd (omega (arith, h, is, below)) }

pub returns : goal.returns
unfolding class_at
returns c =
    let is = c.char_at-p.ensures in
    record {
      found = rw (← is, class_lent _ _ c.if-p-lt-BUILTIN_END.false, c.class_in.ensures);
      held = λ h. rw (← is) c.held_near-held.ensures;
    }
