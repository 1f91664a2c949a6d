-- Words of inner contracts, beside Plain: `PlainScore`, `PlainAnswer`. No public promise rests on them.
-- Assumes nothing.
use Rattle.base.specs.declared.Refusal.{Refusal}
use Rattle.std.specs.Prelude.{◌≡◌, Result, Ok}
use Rattle.ratio.specs.Inner.Eight.{EachPlain}
use Rattle.ratio.specs.Inner.Finite.{Plain}
use Rattle.md_meaning.specs.declared.Score.{Score}

pub record PlainScore (s : Score) : Type 0 where
  pub ratios : EachPlain s.ratios
  pub sum : Plain s.sum

-- of an answer: where it is a score
abbrev pub PlainAnswer : Result Score Refusal → Type 0
PlainAnswer a = (s : Score) → a ≡ Ok s → PlainScore s
