-- Words of inner contracts: the scan over lists of what the characters are. `list_score` is the score by `eight_after`; that it is the scan's own is a law
-- (proofs/Laws/Same). No public promise rests on them.
-- Assumes nothing.
use Rattle.std.specs.Prelude.{ℕ, ◌+◌, ◌≤◌, ◌<◌, ◌≡◌, Bool, true, false, cond, ◌&&◌, List, ltb, Float, length, Result, Ok}
use Rattle.std.specs.Float.Ieee.{le}
use Rattle.base.specs.declared.Refusal.{Refusal}
use Rattle.base.specs.First.{first}
use Rattle.base.specs.Limits.{PAIR_BYTES}
use Rattle.ratio.specs.declared.EightCounts.{EightCounts}
use Rattle.ratio.specs.Eight.{fractions_of, ratios, sum}
use Rattle.ratio.specs.Shown.{eight_shown}
use Rattle.md_meaning.specs.Text.{period, checkpoint}
use Rattle.md_meaning.specs.Scan.{scored, sum_of}
use Rattle.md_second.specs.Inner.After.{eight_after}
use Rattle.md_second.specs.Inner.Lists.{Fits, Known}
use Rattle.md_meaning.specs.declared.Score.{Score}

-- what `period_of` ensures: the period, and that it is no 0
pub record Period (length r : ℕ) : Type 0 where
  pub is : r ≡ period length
  pub positive : 0 < r

-- the lists have n characters, at least one, and the tables are there
pub record Listed (p f r b q : List ℕ) (n : ℕ) : Type 0 where
  pub points : Fits p n
  pub flags : Fits f n
  pub ranges : Fits r n
  pub bases : Fits b n
  pub pairs : length q ≡ PAIR_BYTES
  pub known : Known r n
  pub some : 0 < n

-- the answer that counts make
unfoldable pub answered : EightCounts → ℕ → Bool → Result Score Refusal
answered c n early =
    Ok
    (record {
      ratios = ratios (fractions_of c);
      sum = sum (ratios (fractions_of c));
      fed = n;
      stopped = early;
      counts = eight_shown c (ratios (fractions_of c));
    })

module _ (points flags ranges bases pairs : List ℕ) (size : ℕ) (threshold : Float) where
  -- the scan stops after the character at i, if it has come to it
  unfoldable pub stops_there : ℕ → Bool
  stops_there i = checkpoint size i && le threshold (sum_of (eight_after points flags ranges bases pairs (i + 1)))

  abbrev pub stop_there : ℕ
  stop_there = first stops_there (size + 1)

  unfoldable pub list_score : Result Score Refusal
  list_score =
      cond (ltb stop_there (size + 1))
      (scored (eight_after points flags ranges bases pairs (stop_there + 1)) (stop_there + 1) true)
      (scored (eight_after points flags ranges bases pairs (size + 1)) (size + 1) false)
