-- Each return is one part of the quick test; letters that are used in their order are not more than the records. Assumes nothing.
use Rattle.class_compact_meaning.proofs.Laws.Calls.{sound_ragged, sound_mixed, sound_rest}
use Rattle.class_compact_meaning.proofs.Laws.FirstUse.{use_few}
use mathlib.Core.Path.{sym, ◌∙◌}
use native.Mathlib.Omega.{arith}
use Rattle.class_compact.proofs.sound.is_sound.Goals as goal

pub returns-then-letters-ne0 : goal.returns-then-letters-ne0
returns-then-letters-ne0 c = sound_ragged _ _ c.if-letters-ne0.true

pub returns-then-not-ordered : goal.returns-then-not-ordered
returns-then-not-ordered c =
    sound_mixed _ _ c.if-letters-ne0.false (sym c.requires.1 ∙ c.if-not-ordered.true)

pub all_own-requires : goal.all_own-requires
all_own-requires c =
    let few = use_few _ _ (sym c.requires.1 ∙ c.if-not-ordered.false) in omega (arith, few, c.requires.0.few)

pub returns : goal.returns
returns c =
    c.all_own.ensures ∙ sound_rest _ _ c.if-letters-ne0.false (sym c.requires.1 ∙ c.if-not-ordered.false)
