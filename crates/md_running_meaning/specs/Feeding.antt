-- Feeding a line (02 [6]): one character a call, "the running state is lent and updated where it stands". "Each feeding call is lent the tables again
-- and checks them." "Once stopped, further characters are counted as received and change nothing else. An unclassed character is met only when it
-- arrives; feeding may go on with another in its place. Refusals, state unchanged: .. feeding and closing first 19 ..; feeding then 13 if the declared
-- length is already received, 5, 7, and 6, whose place is the number received". A chunk of characters
-- in one call is beyond 02 (Chunk).
-- Assumes nothing.
use Rattle.std.specs.Prelude.{ℕ, ◌+◌, ◌-◌, Bool, cond, ◌&&◌, List, [], ◌∷◌, ltb, Result, Ok, Err, Some, ⊤}
use Rattle.base.specs.declared.Refusal.{Refusal}
use Rattle.base.specs.Causes.{given, first_of}
use Rattle.base.specs.Counted.{count_unless}
use Rattle.base.specs.declared.refusals.Cause.TheVariants.{Unclassed, LineFull}
use Rattle.classes.specs.declared.Class.{Class}
use Rattle.classes.specs.Check.{bad_classes}
use Rattle.classes.specs.Lookup.{class_of, missing}
use Rattle.classes.specs.Pairs.{bad_pairs}
use Rattle.md_eight.specs.declared.Detectors.{Detectors}
use Rattle.md_meaning.specs.Text.{checkpoint}
use Rattle.md_meaning.specs.Scan.{reaches, sum_of, class_in}
use Rattle.md_growth.specs.Text.{watched_next}
use Rattle.md_running_meaning.specs.declared.Running.{Running}
use Rattle.md_running_meaning.specs.declared.Fed.{Fed}
use Rattle.md_running_meaning.specs.State.{bad_state}

-- the line stops after the character at i: the declared length fixes the period
unfoldable pub stops_at : Running → Detectors → ℕ → Bool
stops_at s eight i = checkpoint s.length i && reaches (Some s.threshold) (sum_of eight)

-- one character more that is only counted as received
unfoldable pub arrived : Running → Running
arrived s =
    record {
      length = s.length;
      received = s.received + 1;
      fed = s.fed;
      threshold = s.threshold;
      stopped = s.stopped;
      watched = s.watched;
    }

-- one character more that is fed: its index is the number received before it
unfoldable pub fed_on : List ℕ → Running → Class → Running
fed_on pairs s c =
    record {
      length = s.length;
      received = s.received + 1;
      fed = s.received + 1;
      threshold = s.threshold;
      stopped = stops_at s (watched_next pairs s.watched c (s.received + 1)).eight s.received;
      watched = watched_next pairs s.watched c (s.received + 1);
    }

-- "Once stopped, further characters are counted as received and change nothing else"
unfoldable pub step : List ℕ → Running → Class → Running
step pairs s c = cond s.stopped (arrived s) (fed_on pairs s c)

-- 13: fewer places are left than characters come, which of one character is that the declared length is already received
unfoldable pub line_full : Running → ℕ → Result ⊤ Refusal
line_full s n = given (ltb (s.length - s.received) n) LineFull 0

-- 6: at the number received
unfoldable pub no_class_here : Running → ℕ → List ℕ → Result ⊤ Refusal
no_class_here s point classes = given (missing (class_of classes point)) Unclassed s.received

-- what a feeding call hands back: the next state and the number received where no cause is there; a refusal leaves the state as it is
unfoldable pub state_unless : Result ⊤ Refusal → Running → Running → Running
state_unless (Ok u) s next = next
state_unless (Err r) s next = s

unfoldable pub fed_unless : Result ⊤ Refusal → Running → Running → ℕ → Fed
fed_unless c s next n = record { state = state_unless c s next; answer = count_unless c n }

module _ (s : Running) (point : ℕ) (classes pairs : List ℕ) where
  -- 19, 13, 5, 7, 6
  unfoldable pub feed_causes : Result ⊤ Refusal
  feed_causes = first_of (bad_state s ∷ line_full s 1 ∷ bad_classes classes ∷ bad_pairs pairs ∷ no_class_here s point classes ∷ [])

  unfoldable pub feed_line : Fed
  feed_line = fed_unless feed_causes s (step pairs s (class_in point (class_of classes point))) (s.received + 1)
