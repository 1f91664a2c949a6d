-- A piece of a text put into the output: what stands before it and behind it stays (`Goes`). A word with a number behind it is such a piece,
-- and it ends soon enough for a text to fit (`Numbered`).
-- Assumes nothing.
use Rattle.std.specs.Prelude.{ℕ, ◌+◌, ◌≤◌, ◌≡◌, List, ◌++◌, length}
use Rattle.base.specs.Put.{put}
use Rattle.pieces.specs.Numerals.{decimal, MOST_DIGITS}

-- the output was `before` and is `after`, a piece was put at `at`, and the next piece comes at `next`
pub record Goes (before after : List ℕ) (at : ℕ) (piece : List ℕ) (next : ℕ) : Type 0 where
  pub room : at + length piece ≤ length before
  pub is : after ≡ put before at piece
  pub ends : next ≡ at + length piece

pub record Numbered (before after : List ℕ) (at : ℕ) (word : List ℕ) (n next : ℕ) : Type 0 where
  pub goes : Goes before after at (word ++ decimal n) next
  pub near : next ≤ at + length word + MOST_DIGITS
