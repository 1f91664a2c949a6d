-- A chunk of characters in one call, beyond 02: all of them or none. It is refused for what each of its characters would be: 19, 13 if fewer places are left
-- than characters come, 5, 7, and then the first character that is refused, by 6 at the number received and its index. A state that feeding does not reach can come
-- to one that 19 refuses, before one of the characters: that is 19 there too. An accepted chunk leaves exactly what its characters leave one by one
-- (`chunk_one_by_one`, proofs/Laws/Chunk); the tables are checked once.
-- Assumes nothing.
use Rattle.std.specs.Prelude.{ℕ, zero, suc, ◌+◌, Bool, cond, ◌||◌, List, [], ◌∷◌, ltb, length, Result, Ok, ⊤}
use Rattle.base.specs.declared.Refusal.{Refusal}
use Rattle.base.specs.Causes.{given, first_of}
use Rattle.base.specs.First.{first}
use Rattle.base.specs.declared.refusals.Cause.TheVariants.{Unclassed}
use Rattle.classes.specs.Check.{bad_classes}
use Rattle.classes.specs.Pairs.{bad_pairs}
use Rattle.md_meaning.specs.Text.{char_at}
use Rattle.md_meaning.specs.Scan.{class_in, class_at, unclassed}
use Rattle.md_running_meaning.specs.declared.Running.{Running}
use Rattle.md_running_meaning.specs.declared.Fed.{Fed}
use Rattle.md_running_meaning.specs.State.{unsound, bad_state}
use Rattle.md_running_meaning.specs.Feeding.{step, line_full, fed_unless, feed_line}

module _ (s : Running) (text classes pairs : List ℕ) where
  -- the state after the first k characters of the chunk
  unfoldable pub steps_at : ℕ → Running
  steps_at zero = s
  steps_at (suc k) = step pairs (steps_at k) (class_in (char_at text k) (class_at classes text k))

  -- the character at k is refused: the state before it, or the character
  unfoldable pub halts_at : ℕ → Bool
  halts_at k = unsound (steps_at k) || unclassed classes text k

  -- the first that is, `length text` where there is none
  abbrev pub halt : ℕ
  halt = first halts_at (length text)

  -- 19, 6
  unfoldable pub refusal_at : ℕ → Result ⊤ Refusal
  refusal_at k = first_of (bad_state (steps_at k) ∷ given (unclassed classes text k) Unclassed (s.received + k) ∷ [])

  unfoldable pub refused_within : Result ⊤ Refusal
  refused_within = cond (ltb halt (length text)) (refusal_at halt) (Ok tt)

  -- 19, 13, 5, 7, and what is refused within
  unfoldable pub chunk_causes : Result ⊤ Refusal
  chunk_causes = first_of (bad_state s ∷ line_full s (length text) ∷ bad_classes classes ∷ bad_pairs pairs ∷ refused_within ∷ [])

  unfoldable pub feed_chunk : Fed
  feed_chunk = fed_unless chunk_causes s (steps_at (length text)) (s.received + length text)

  -- the state after k single calls
  unfoldable pub one_by_one : ℕ → Running
  one_by_one zero = s
  one_by_one (suc k) = (feed_line (one_by_one k) (char_at text k) classes pairs).state
