-- 01's number and values for each answer of scoring: "When an answer is an enum, the promises use a definition that gives this paper's number
-- and values for each case of the enum." An accepted text has number 0 and place 0 ("A place not named is 0"); "Any refusal gives +0.0, false
-- and counts of 0"; of the counts beside each ratio, "In a refusal they are zero and false" (02 [7]).
-- Assumes nothing.
use Rattle.std.specs.Prelude.{ℕ, Bool, false, Float, Result, Ok, Err}
use Rattle.base.specs.declared.Refusal.{Refusal}
use Rattle.base.specs.Refusals.{ACCEPTED, number_of}
use Rattle.ratio.specs.declared.Ratios.{Ratios}
use Rattle.ratio.specs.declared.EightShown.{EightShown}
use Rattle.ratio.specs.Rounded.{ZERO}
use Rattle.ratio.specs.Shown.{none_shown}
use Rattle.ratio.specs.Eight.{no_ratios}
use Rattle.md_meaning.specs.declared.Score.{Score}

pub record Values : Type 0 where
  pub number : ℕ
  pub place : ℕ
  pub ratios : Ratios
  pub sum : Float
  pub fed : ℕ
  pub stopped : Bool
  pub counts : EightShown

unfoldable pub values : Result Score Refusal → Values
values (Ok s) =
    record {
      number = ACCEPTED;
      place = 0;
      ratios = s.ratios;
      sum = s.sum;
      fed = s.fed;
      stopped = s.stopped;
      counts = s.counts;
    }
values (Err r) =
    record {
      number = number_of r.cause;
      place = r.place;
      ratios = no_ratios;
      sum = ZERO;
      fed = 0;
      stopped = false;
      counts = none_shown;
    }
