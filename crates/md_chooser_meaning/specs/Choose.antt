-- 01, the chooser: "hands back the more readable of two lent texts, each scored whole and without stopping, the lower score being more
-- readable: the part before its trailing U+000A run. Equal scores take the first. If either is refused (the first is checked first), it
-- hands back an empty part of the first. A second call on the same inputs, the verdict call, says which text was taken, or which was
-- refused, with number and place." Both texts are scored with the same tables, uncut. The laws stand in proofs/Laws/Choose.
-- Assumes nothing.
use Rattle.base.specs.declared.Refusal.{Refusal}
use Rattle.base.specs.Refusals.{ACCEPTED, number_of}
use Rattle.std.specs.Prelude.{ℕ, cond, List, [], Result, Ok, Err}
use Rattle.std.specs.Float.Ieee.{lt}
use Rattle.md_meaning.specs.MessRatio.{whole_score}
use Rattle.md_chooser_meaning.specs.declared.Side.{Side}
use Rattle.md_chooser_meaning.specs.declared.Side.TheVariants.{First, Second}
use Rattle.md_chooser_meaning.specs.declared.Unjudged.{Unjudged}
use Rattle.md_chooser_meaning.specs.Cut.{cut}
use Rattle.md_meaning.specs.declared.Score.{Score}

-- a text that was refused, and why
abbrev pub unjudged : Side → Refusal → Result Side Unjudged
unjudged side why = Err (record { side = side; why = why })

-- the verdict on two answers
unfoldable pub judged : Result Score Refusal → Result Score Refusal → Result Side Unjudged
judged (Err r) (Err q) = unjudged First r
judged (Err r) (Ok b) = unjudged First r
judged (Ok a) (Err r) = unjudged Second r
judged (Ok a) (Ok b) = Ok (cond (lt b.sum a.sum) Second First)

unfoldable pub verdict_of : List ℕ → List ℕ → List ℕ → List ℕ → Result Side Unjudged
verdict_of first second classes pairs = judged (whole_score first classes pairs) (whole_score second classes pairs)

-- what is handed back on a verdict
unfoldable pub part_of : Result Side Unjudged → List ℕ → List ℕ → List ℕ
part_of (Ok First) first second = cut first
part_of (Ok Second) first second = cut second
part_of (Err u) first second = []

-- the text of which a part is handed back: the second where it is taken, and else the first ("an empty part of the first"). Of where the two
-- texts lie it gives where the part lies
unfoldable pub taken_from : {A : Type 0} → Result Side Unjudged → A → A → A
taken_from (Ok First) first second = first
taken_from (Ok Second) first second = second
taken_from (Err u) first second = first

-- the part handed back is the cut of the text that the verdict names, or empty
unfoldable pub chosen : List ℕ → List ℕ → List ℕ → List ℕ → List ℕ
chosen first second classes pairs = part_of (verdict_of first second classes pairs) first second

-- 01's values of the verdict: the text taken (1, 2, or 0 for none), the text refused (1, 2, or 0 for none), number and place
pub record Values : Type 0 where
  pub taken : ℕ
  pub refused : ℕ
  pub number : ℕ
  pub place : ℕ

unfoldable pub side_number : Side → ℕ
side_number First = 1
side_number Second = 2

unfoldable pub values : Result Side Unjudged → Values
values (Ok side) = record { taken = side_number side; refused = 0; number = ACCEPTED; place = 0 }
values (Err u) = record { taken = 0; refused = side_number u.side; number = number_of u.why.cause; place = u.why.place }
