-- Words of inner contracts: characters of one kind in a row that are fed at once. No public promise rests on them.
-- Assumes nothing.
use Rattle.std.specs.Prelude.{◌≡◌, ℕ, ◌+◌, ◌-◌, ◌<◌, ◌≤◌, true, false, List, length, Some}
use Rattle.base.specs.Limits.{BUILTIN_END, LONGEST_TEXT}
use Rattle.class_records.specs.Records.{records, record_at, good_table, holder}
use Rattle.classes.specs.declared.Class.{Class}
use Rattle.classes.specs.Inner.Tables.{Tables}
use Rattle.md_counts.specs.CjkInvalidStop.{wrong_stop, STOP_UP, STOP_DOWN}
use Rattle.md_eight.specs.declared.Detectors.{Detectors}
use Rattle.md_eight.specs.Inner.Runs.{SPACE}
use Rattle.md_runs.specs.declared.Alike.{Alike}
use Rattle.md_runs.specs.declared.Fed.{Fed}
use Rattle.md_meaning.specs.Text.{char_at, total, checkpoint}
use Rattle.md_meaning.specs.Scan.{class_at, state_at, unclassed}

-- no index from i on is a checkpoint but the last before r, and the characters behind i lie from low to high
pub record Run (text : List ℕ) (low high i r : ℕ) : Type 0 where
  pub begins : i < r
  pub ends : r ≤ length text
  pub quiet : (j : ℕ) → i ≤ j → j + 1 < r → checkpoint (length text) j ≡ false
  pub least : (j : ℕ) → i < j → j < r → low ≤ char_at text j
  pub most : (j : ℕ) → i < j → j < r → char_at text j ≤ high

-- the two wrong stops, which stand side by side, are not between p and what a record begins and ends with
pub record Low (first p r : ℕ) : Type 0 where
  pub least : first ≤ r
  pub past : STOP_DOWN < p → STOP_DOWN < r

pub record High (last p r : ℕ) : Type 0 where
  pub most : r ≤ last
  pub before : p < STOP_UP → r < STOP_UP

-- past the built-in table, `at` is the record that holds p if one does
abbrev pub HeldAt : List ℕ → ℕ → ℕ → Type 0
HeldAt classes p at = BUILTIN_END ≤ p → at ≡ holder classes p

-- the record `at` of a good table holds p, which is no wrong stop
pub record Lent (classes : List ℕ) (p at : ℕ) : Type 0 where
  pub good : good_table classes ≡ true
  pub is : at ≡ holder classes p
  pub held : holder classes p < records classes
  pub right : wrong_stop p ≡ false

-- the code points from low to high are held by p's record, and none is a wrong stop
pub record AlikeOf (classes : List ℕ) (p : ℕ) (a : Alike) : Type 0 where
  pub base : a.base ≡ (record_at classes (holder classes p)).base
  pub from : (q : ℕ) → a.low ≤ q → (record_at classes (holder classes p)).first ≤ q
  pub to : (q : ℕ) → q ≤ a.high → q ≤ (record_at classes (holder classes p)).last
  pub right : (q : ℕ) → a.low ≤ q → q ≤ a.high → wrong_stop q ≡ false

-- a space stands at i, and no checkpoint before it
pub record Spaced (text : List ℕ) (i : ℕ) : Type 0 where
  pub inside : i < length text
  pub space : char_at text i ≡ SPACE
  pub quiet : checkpoint (length text) (i - 1) ≡ false

-- before a step of the scan: the state is that after i characters, and the lookup found c at i
pub record Before (classes pairs text : List ℕ) (s : Detectors) (c : Class) (i : ℕ) : Type 0 where
  pub tables : Tables classes pairs
  pub short : length text ≤ LONGEST_TEXT
  pub inside : i < total text
  pub state : s ≡ state_at classes pairs text i
  pub class : class_at classes text i ≡ Some c

-- after it: the state is that after the characters up to the next, which all have a class; the scan might have stopped after the last of them, not before
pub record Advanced (classes pairs text : List ℕ) (i : ℕ) (r : Fed) : Type 0 where
  pub begins : i < r.next
  pub ends : r.next ≤ total text
  pub state : r.state ≡ state_at classes pairs text r.next
  pub classed : (j : ℕ) → i ≤ j → j < r.next → unclassed classes text j ≡ false
  pub quiet : (j : ℕ) → i ≤ j → j + 1 < r.next → checkpoint (length text) j ≡ false
