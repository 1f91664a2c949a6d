-- Each return is the next of 01's causes, or none is left. Assumes nothing.
use mathlib.Core.Path.{ap, ◌∙◌}
use Rattle.base.specs.declared.refusals.Cause.TheVariants.{Unclassed}
use Rattle.base.specs.Causes.{refused_at}
use Rattle.cd_meaning.proofs.Laws.Causes.{text_room, text_unclassed, text_free}
use Rattle.cd.proofs.causes.of_text.Goals as goal

pub returns-then-room-languages : goal.returns-then-room-languages
returns-then-room-languages c = c.refuse.ensures ∙ text_room _ _ _ _ _ c.if-room-languages.true

pub returns-then-place-n : goal.returns-then-place-n
returns-then-place-n c =
    c.refuse-then-place-n.ensures ∙ ap (refused_at Unclassed) c.first_unclassed-place.ensures ∙ text_unclassed _ _ _ _ _ c.if-room-languages.false
    (rw c.first_unclassed-place.ensures at c.if-place-n.true)

pub returns : goal.returns
returns c = text_free _ _ _ _ _ c.if-room-languages.false (rw c.first_unclassed-place.ensures at c.if-place-n.false)
