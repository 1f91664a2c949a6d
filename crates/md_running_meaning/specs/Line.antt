-- What 02 [6] says of a line that is fed character by character: "For a text with every character classed, fed in full from a fresh opening with the same
-- tables each time, the result equals the whole call." And what a state in between is: that of the scan after as many characters, up to the stop, and
-- that of the stop from then on. The laws are `line_follows` and `line_whole`, in proofs/Laws/Line.
-- Assumes nothing.
use Rattle.std.specs.Prelude.{ℕ, zero, suc, ◌+◌, ◌<◌, ◌≡◌, true, false, List, Float, length, Some}
use Rattle.md_meaning.specs.Text.{char_at}
use Rattle.md_meaning.specs.Scan.{state_at, stops}
use Rattle.md_growth.specs.Text.{watched_at}
use Rattle.md_running_meaning.specs.declared.Running.{Running}
use Rattle.md_running_meaning.specs.State.{eight_of}
use Rattle.md_running_meaning.specs.Opening.{fresh}
use Rattle.md_running_meaning.specs.Feeding.{feed_line}

module _ (text : List ℕ) (most : Float) (classes pairs : List ℕ) where
  -- the state after k feeding calls with the text's characters, from a fresh opening with its length and a threshold
  unfoldable pub line_at : ℕ → Running
  line_at zero = fresh (length text) most
  line_at (suc k) = (feed_line (line_at k) (char_at text k) classes pairs).state

  -- no checkpoint before k has reached the threshold: the state is the scan's after k characters
  pub record Going (k : ℕ) (s : Running) : Type 0 where
    pub none : (j : ℕ) → j < k → stops classes pairs text (Some most) j ≡ false
    pub stopped : s.stopped ≡ false
    pub fed : s.fed ≡ k
    pub eight : eight_of s ≡ state_at classes pairs text k
    pub watched : s.watched ≡ watched_at classes pairs text k

  -- the one at i, before k, has, and none before it: the state is the scan's behind that character
  pub record Stopped (i k : ℕ) (s : Running) : Type 0 where
    pub before : i < k
    pub here : stops classes pairs text (Some most) i ≡ true
    pub none : (j : ℕ) → j < i → stops classes pairs text (Some most) j ≡ false
    pub stopped : s.stopped ≡ true
    pub fed : s.fed ≡ i + 1
    pub eight : eight_of s ≡ state_at classes pairs text (i + 1)
    pub watched : s.watched ≡ watched_at classes pairs text (i + 1)

  pub data Phase (k : ℕ) (s : Running) : Type 0 where
    going : Going k s → Phase k s
    over : (i : ℕ) → Stopped i k s → Phase k s

  -- what is said of a state after k characters
  pub record Follows (k : ℕ) (s : Running) : Type 0 where
    pub declared : s.length ≡ length text
    pub threshold : s.threshold ≡ most
    pub received : s.received ≡ k
    pub phase : Phase k s
