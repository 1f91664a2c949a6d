-- The letters are the first slots, and a good record has no more letters than slots.
-- Assumes nothing.
use native.Mathlib.Omega.{arith}
use mathlib.Core.Path.{◌∙◌}
use Rattle.cd_languages.proofs.Laws.Languages.{good_fields_lem}
use Rattle.cd_languages.proofs.Laws.Letters.{letters_at}
use Rattle.cd_languages.proofs.letter_at.Goals as goal

pub slot_at-requires : goal.slot_at-requires
slot_at-requires c = (c.requires.1, omega (arith, c.requires.2, (good_fields_lem _ c.requires.0 _ c.requires.1).most))

pub returns : goal.returns
returns c = c.slot_at.ensures ∙ letters_at _ _ _ c.requires.2
