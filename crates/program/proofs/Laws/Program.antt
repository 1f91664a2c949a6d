-- What the program's first test shows of its answer (`over`, `within`); and that its scores are plain, so that a sum has bits (`answer_plain`).
-- Assumes nothing.
use Rattle.std.specs.Prelude.{Ok}
use Prim.Native.Nat.{ℕ, ◌≤◌, ◌<◌}
use mathlib.Core.Path.{◌≡◌, sym}
use mathlib.Core.List.{List}
use lib.ListN.{length}
use borrow.Author.Tests.{lt-ltb, le-ltb}
use Rattle.base.specs.Causes.{refused_at}
use Rattle.base.specs.declared.refusals.Cause.TheVariants.{TooLong}
use Rattle.base.proofs.Laws.Causes.{given_yes, free_given}
use Rattle.md_meaning.specs.declared.Score.{Score}
use Rattle.md_meaning.proofs.Laws.Scan.{unless_allowed, unless_at, unless_score}
use Rattle.md_meaning.specs.Inner.Plain.{PlainScore}
use Rattle.md_utf8_meaning.specs.ScoreUtf8.{mess_ratio_utf8}
use Rattle.md_utf8_meaning.proofs.Laws.ScoreUtf8.{utf8_plain}
use Rattle.program.specs.Program.{LONGEST_INPUT, THRESHOLD, NO_CLASSES, NO_PAIRS, many_bytes, answer}

module _ (bytes : List ℕ) where
  pub over : LONGEST_INPUT < length bytes → refused_at TooLong 0 ≡ answer bytes
  unfolding answer many_bytes
  over h = sym (unless_at _ _ TooLong 0 (given_yes _ TooLong 0 (lt-ltb LONGEST_INPUT (length bytes) h)))

  pub within : length bytes ≤ LONGEST_INPUT → mess_ratio_utf8 bytes THRESHOLD NO_CLASSES NO_PAIRS ≡ answer bytes
  unfolding answer many_bytes
  within h = sym (unless_allowed _ _ (free_given _ TooLong 0 (le-ltb LONGEST_INPUT (length bytes) h)))

  pub answer_plain : (s : Score) → Ok s ≡ answer bytes → PlainScore s
  unfolding answer
  answer_plain s e = utf8_plain bytes THRESHOLD NO_CLASSES NO_PAIRS s (unless_score (many_bytes bytes) _ s (sym e)).1
