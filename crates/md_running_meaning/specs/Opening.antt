-- Opening a line (02 [6]): "Opening takes the line's length, which fixes the period, a threshold and good tables"; "Refusals, state unchanged: opening
-- 1, 4, 5, 7". The state is handed back by value; a refusal has none, which is zeros and false.
-- Assumes nothing.
use Rattle.std.specs.Prelude.{ℕ, false, List, [], ◌∷◌, ltb, Float, Result, Ok, Err, ⊤}
use Rattle.base.specs.declared.Refusal.{Refusal}
use Rattle.base.specs.Causes.{given, first_of}
use Rattle.base.specs.Limits.{LONGEST_TEXT}
use Rattle.base.specs.Refusals.{ACCEPTED, number_of}
use Rattle.base.specs.declared.refusals.Cause.TheVariants.{TooLong}
use Rattle.classes.specs.Check.{bad_classes}
use Rattle.classes.specs.Pairs.{bad_pairs}
use Rattle.ratio.specs.Finite.{not_finite}
use Rattle.ratio.specs.Rounded.{ZERO}
use Rattle.md_growth.specs.Growth.{start, no_growths}
use Rattle.md_running_meaning.specs.declared.Running.{Running}

-- a line of this length of which nothing has arrived
unfoldable pub fresh : ℕ → Float → Running
fresh length threshold =
    record { length = length; received = 0; fed = 0; threshold = threshold; stopped = false; watched = start }

-- the state where no cause is there, else the refusal
unfoldable pub open_unless : Result ⊤ Refusal → Running → Result Running Refusal
open_unless (Ok u) s = Ok s
open_unless (Err r) s = Err r

-- 1: a line that is too long to be scored
unfoldable pub long_line : ℕ → Result ⊤ Refusal
long_line length = given (ltb LONGEST_TEXT length) TooLong 0

-- 1, 4, 5, 7
unfoldable pub open_causes : ℕ → Float → List ℕ → List ℕ → Result ⊤ Refusal
open_causes length threshold classes pairs =
    first_of (long_line length ∷ not_finite threshold ∷ bad_classes classes ∷ bad_pairs pairs ∷ [])

unfoldable pub open_line : ℕ → Float → List ℕ → List ℕ → Result Running Refusal
open_line length threshold classes pairs = open_unless (open_causes length threshold classes pairs) (fresh length threshold)

-- no line: zeros and false
unfoldable pub no_line : Running
no_line =
    record {
      length = 0;
      received = 0;
      fed = 0;
      threshold = ZERO;
      stopped = false;
      watched = record {
        eight = record {
          symbols = record { characters = 0; punctuation = 0; symbols = 0; last = 0 };
          accents = record { characters = 0; accentuated = 0 };
          unprintable = record { characters = 0; unprintable = 0 };
          ranges = record { characters = 0; suspicious = 0; seen = false; last = 0 };
          doubled = record { characters = 0; successive = 0; flags = 0; base = 0 };
          words = record {
            characters = 0;
            words = 0;
            foreign = 0;
            spoilt = 0;
            bad = false;
            watch = false;
            accents = 0;
            uppercase = 0;
            length = 0;
            last = 0;
          };
          stops = record { wrong = 0; cjk = 0 };
          archaic = record { characters = 0; since = 0; run = 0; total = 0; last = 0; ascii = false; buf = false };
        };
        grown = no_growths;
      };
    }

pub record Values : Type 0 where
  pub number : ℕ
  pub place : ℕ
  pub state : Running

-- 01's number and values of each case
unfoldable pub values : Result Running Refusal → Values
values (Ok s) = record { number = ACCEPTED; place = 0; state = s }
values (Err r) = record { number = number_of r.cause; place = r.place; state = no_line }
