-- 02 [10], "A second engine, plainly written": "On every text of at most 4,096 code points its answers, refusals and stop equal the main
-- engine's. Refusals: 1 above 4,096, then as scoring." It answers by messRatio's own definition; only the code is another. The laws stand in
-- proofs/Laws/Agreed.
-- Assumes nothing.
use Rattle.std.specs.Prelude.{ℕ, List, ltb, Float, length, Result, ⊤}
use Rattle.base.specs.declared.Refusal.{Refusal}
use Rattle.base.specs.Causes.{given}
use Rattle.base.specs.declared.refusals.Cause.TheVariants.{TooLong}
use Rattle.md_meaning.specs.Scan.{unless}
use Rattle.md_meaning.specs.MessRatio.{mess_ratio}
use Rattle.md_meaning.specs.declared.Score.{Score}

-- "at most 4,096 code points"
abbrev pub SECOND_LONGEST : ℕ
SECOND_LONGEST = 4096

-- "1 above 4,096"
unfoldable pub too_long : List ℕ → Result ⊤ Refusal
too_long text = given (ltb SECOND_LONGEST (length text)) TooLong 0

-- "then as scoring"
unfoldable pub second_score : List ℕ → Float → List ℕ → List ℕ → Result Score Refusal
second_score text threshold classes pairs = unless (too_long text) (mess_ratio text threshold classes pairs)
