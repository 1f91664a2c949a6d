-- Words of inner contracts, beside Reason: `listed_answer`, `listed_into`. No public promise rests on them.
-- Assumes nothing.
use Rattle.std.specs.Prelude.{ℕ, List, length, Result}
use Rattle.base.specs.declared.Refusal.{Refusal}
use Rattle.base.specs.Counted.{lent_after}
use Rattle.cd_order.specs.Chosen.{passing}
use Rattle.md_growth.specs.Text.{grows}
use Rattle.md_reason_meaning.specs.Reason.{no_room, reason_unless}
use Rattle.md_reason_meaning.specs.declared.Why.{Why}
use Rattle.md_reason_meaning.specs.Numbered.{detector_at}

module _ (classes pairs text : List ℕ) (d fed : ℕ) where
  -- where a detector grew among the characters fed
  abbrev pub listed : List ℕ
  listed = passing (grows classes pairs text d) fed

  -- the answer for an output of this room, and what is left in the output
  unfoldable pub listed_answer : ℕ → Result Why Refusal
  listed_answer room = reason_unless (no_room listed room) (record { detector = detector_at d; count = length listed })

  unfoldable pub listed_into : List ℕ → List ℕ
  listed_into out = lent_after (no_room listed (length out)) listed out
