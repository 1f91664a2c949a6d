-- reason, for every input (02 [8]): "For an accepted text the tool names the first detector, in 01's order, with the greatest ratio, and writes the indexes of the
-- fed characters at which that detector's numerator grew, rising, each once". The ratios and the number fed are those that scoring answers for the same text; where the
-- numerator grows is told by the scan's own steps (md_growth, Text: grows). Detector 0 has no numerator, so that its list is empty. "Refusals: as scoring, then 3 if
-- the buffer holds fewer than the list."
-- Assumes nothing.
use Rattle.std.specs.Prelude.{ℕ, List, [], ◌∷◌, ◌++◌, ltb, Float, length, Result, Ok, Err, ⊤}
use Rattle.base.specs.declared.Refusal.{Refusal}
use Rattle.base.specs.Causes.{given, first_of}
use Rattle.base.specs.Counted.{lent_after}
use Rattle.base.specs.Refusals.{ACCEPTED, number_of}
use Rattle.base.specs.declared.refusals.Cause.TheVariants.{NoRoom}
use Rattle.cd_order.specs.Chosen.{passing}
use Rattle.md_meaning.specs.MessRatio.{of_scoring, mess_ratio}
use Rattle.md_meaning.specs.Values as score
use Rattle.md_growth.specs.Text.{grows}
use Rattle.md_reason_meaning.specs.declared.Why.{Why}
use Rattle.md_reason_meaning.specs.Greatest.{detector_of}
use Rattle.md_reason_meaning.specs.Numbered.{detector_at, detector_number}

module _ (text : List ℕ) (threshold : Float) (classes pairs : List ℕ) where
  -- how many characters the score says were fed, and the detector by its ratios
  abbrev pub fed_of : ℕ
  fed_of = (score.values (mess_ratio text threshold classes pairs)).fed

  abbrev pub detector : ℕ
  detector = detector_of (score.values (mess_ratio text threshold classes pairs)).ratios

  -- "the indexes of the fed characters at which that detector's numerator grew, rising, each once"
  unfoldable pub indexes : List ℕ
  indexes = passing (grows classes pairs text detector) fed_of

  -- what an accepted call answers
  abbrev pub told : Why
  told = record { detector = detector_at detector; count = length indexes }

-- 3: "if the buffer holds fewer than the list"
unfoldable pub no_room : List ℕ → ℕ → Result ⊤ Refusal
no_room list room = given (ltb room (length list)) NoRoom 0

-- the reason where no cause is there, else the refusal
unfoldable pub reason_unless : Result ⊤ Refusal → Why → Result Why Refusal
reason_unless (Ok u) why = Ok why
reason_unless (Err r) why = Err r

-- "as scoring, then 3"
abbrev pub of_reason : List ℕ → Float → List ℕ → List ℕ → ℕ → List (Result ⊤ Refusal)
of_reason text threshold classes pairs room = of_scoring text threshold classes pairs ++ (no_room (indexes text threshold classes pairs) room ∷ [])

unfoldable pub reason_causes : List ℕ → Float → List ℕ → List ℕ → ℕ → Result ⊤ Refusal
reason_causes text threshold classes pairs room =
    first_of (of_reason text threshold classes pairs room)

unfoldable pub reason_answer : List ℕ → Float → List ℕ → List ℕ → ℕ → Result Why Refusal
reason_answer text threshold classes pairs room =
    reason_unless (reason_causes text threshold classes pairs room) (told text threshold classes pairs)

-- "The index buffer's other entries stay"
unfoldable pub reason_into : List ℕ → Float → List ℕ → List ℕ → List ℕ → List ℕ
reason_into text threshold classes pairs out =
    lent_after (reason_causes text threshold classes pairs (length out)) (indexes text threshold classes pairs) out

pub record Values : Type 0 where
  pub number : ℕ
  pub place : ℕ
  pub detector : ℕ
  pub count : ℕ

-- "Any refusal gives .. counts of 0" (01)
unfoldable pub values : Result Why Refusal → Values
values (Ok why) = record { number = ACCEPTED; place = 0; detector = detector_number why.detector; count = why.count }
values (Err r) = record { number = number_of r.cause; place = r.place; detector = 0; count = 0 }
