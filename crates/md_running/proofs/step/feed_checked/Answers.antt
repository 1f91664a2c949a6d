-- The character is refused where the lookup finds no class, and else the step is the definition's. Assumes nothing.
use mathlib.Core.Path.{sym, ◌∙◌}
use Rattle.classes.proofs.Laws.Lookup.{class_lawful}
use Rattle.md_running_meaning.proofs.Laws.Feeding.{fed_refused, none_here, found_here}
use Rattle.md_running.proofs.step.feed_checked.Goals as goal

pub take-requires : goal.take-requires
take-requires c =
    let pre = c.requires in
    record {
      sound = pre.0;
      room = pre.1;
      fits = pre.2.fits;
      range = (class_lawful _ pre.2.good _ _ (sym c.look_up_in.ensures ∙ c.in-Some.is)).range;
    }

pub returns-in-None : goal.returns-in-None
returns-in-None c =
    c.unfed.ensures ∙ fed_refused _ _ _ _ _ (none_here _ _ _ (sym c.look_up_in.ensures ∙ c.in-None.is))

pub returns-in-Some : goal.returns-in-Some
returns-in-Some c =
    rw c.take.ensures (found_here _ _ _ _ _ (sym c.look_up_in.ensures ∙ c.in-Some.is))
