-- What each way through the causes of refusal shows of a score: over the length (`_long`), a cause that lies in what is lent (`_lent`), or the
-- scan behind them (`_scan`). And a threshold that is finite gives no cause (`default_same`).
-- Assumes nothing.
use Rattle.std.specs.Prelude.{Result, Ok, Err, Option, Some, None, ⊤}
use Prim.Native.Nat.{ℕ, ◌≤◌, ◌<◌}
use mathlib.Core.Path.{◌≡◌, refl, sym, ap, ◌∙◌}
use mathlib.Core.Bool.{true}
use mathlib.Core.List.{List, [], ◌∷◌, ◌++◌}
use lib.Ieee.{Float, of_bits}
use lib.ListN.{length}
use borrow.Author.Tests.{lt-ltb, le-ltb}
use Rattle.base.specs.declared.Refusal.{Refusal}
use Rattle.base.specs.Causes.{given, first_of, refused_at}
use Rattle.base.specs.Limits.{LONGEST_TEXT}
use Rattle.base.specs.declared.refusals.Cause.TheVariants.{TooLong}
use Rattle.base.proofs.Laws.Causes.{first_one, first_given, first_passed, first_front, first_past}
use Rattle.ratio.specs.Finite.{is_finite, not_finite}
use Rattle.md_meaning.specs.Inner.Lent.{of_tables, of_lent, bad_tables, bad_lent}
use Rattle.md_meaning.specs.Inner.Scan.{scan}
use Rattle.md_meaning.specs.Scan.{accepted_score, no_class, unless}
use Rattle.md_meaning.proofs.Laws.Scan.{unless_refused, unless_at}
use Rattle.md_meaning.specs.MessRatio.{DEFAULT_THRESHOLD, too_long, causes, causes_default, mess_ratio, mess_ratio_default, whole_score}
use Rattle.md_meaning.specs.declared.Score.{Score}

-- 0.2 is finite
pub default_finite : is_finite DEFAULT_THRESHOLD ≡ true
unfolding of_bits
default_finite = refl

module _ (text classes pairs : List ℕ) (limit : Option Float) (cs : List (Result ⊤ Refusal)) where
  abbrev answered : Result Score Refusal
  answered = unless (first_of (too_long text ∷ (cs ++ (no_class classes text ∷ [])))) (accepted_score classes pairs text limit)

  long : LONGEST_TEXT < length text → refused_at TooLong 0 ≡ answered
  unfolding too_long
  long h = sym (unless_at _ _ TooLong 0 (first_given (cs ++ (no_class classes text ∷ [])) _ TooLong 0 (lt-ltb LONGEST_TEXT (length text) h)))

  module _ (h : length text ≤ LONGEST_TEXT) where
    not_long : first_of (too_long text ∷ (cs ++ (no_class classes text ∷ []))) ≡ first_of (cs ++ (no_class classes text ∷ []))
    unfolding too_long
    not_long = first_passed (cs ++ (no_class classes text ∷ [])) _ TooLong 0 (le-ltb LONGEST_TEXT (length text) h)

    lent : (r : Refusal) → first_of cs ≡ Err r → Err r ≡ answered
    lent r e = sym (unless_refused _ _ r (not_long ∙ first_front cs (no_class classes text ∷ []) r e))

    behind : first_of cs ≡ Ok tt → scan classes pairs text limit ≡ answered
    unfolding scan
    behind e =
        ap (λ (c : Result ⊤ Refusal). unless c (accepted_score classes pairs text limit))
        (sym (not_long ∙ first_past cs (no_class classes text ∷ []) e ∙ first_one (no_class classes text)))

module _ (text : List ℕ) (threshold : Float) (classes pairs : List ℕ) where
  pub ratio_long : LONGEST_TEXT < length text → refused_at TooLong 0 ≡ mess_ratio text threshold classes pairs
  unfolding mess_ratio causes
  ratio_long h = long text classes pairs (Some threshold) (of_lent threshold classes pairs) h

  module _ (h : length text ≤ LONGEST_TEXT) where
    pub ratio_lent : (r : Refusal) → bad_lent threshold classes pairs ≡ Err r → Err r ≡ mess_ratio text threshold classes pairs
    unfolding mess_ratio causes bad_lent
    ratio_lent r e = lent text classes pairs (Some threshold) (of_lent threshold classes pairs) h r e

    pub ratio_scan : bad_lent threshold classes pairs ≡ Ok tt → scan classes pairs text (Some threshold) ≡ mess_ratio text threshold classes pairs
    unfolding mess_ratio causes bad_lent
    ratio_scan e = behind text classes pairs (Some threshold) (of_lent threshold classes pairs) h e

-- a cause that is not there, behind the first
none_between : (a : Result ⊤ Refusal) (cs : List (Result ⊤ Refusal)) → first_of (a ∷ (Ok tt) ∷ cs) ≡ first_of (a ∷ cs)
unfolding first_of
none_between (Ok u) cs = refl
none_between (Err r) cs = refl

-- behind other causes, two lists that give the same give the same
pub behind_same : (front one other : List (Result ⊤ Refusal)) → first_of one ≡ first_of other → first_of (front ++ one) ≡ first_of (front ++ other)
unfolding first_of
behind_same [] one other e = e
behind_same ((Ok u) ∷ cs) one other e = behind_same cs one other e
behind_same (Err r ∷ cs) one other e = refl

module _ (text classes pairs : List ℕ) where
  pub whole_long : LONGEST_TEXT < length text → refused_at TooLong 0 ≡ whole_score text classes pairs
  unfolding whole_score causes_default
  whole_long h = long text classes pairs None (of_tables classes pairs) h

  module _ (h : length text ≤ LONGEST_TEXT) where
    pub whole_lent : (r : Refusal) → bad_tables classes pairs ≡ Err r → Err r ≡ whole_score text classes pairs
    unfolding whole_score causes_default bad_tables
    whole_lent r e = lent text classes pairs None (of_tables classes pairs) h r e

    pub whole_scan : bad_tables classes pairs ≡ Ok tt → scan classes pairs text None ≡ whole_score text classes pairs
    unfolding whole_score causes_default bad_tables
    whole_scan e = behind text classes pairs None (of_tables classes pairs) h e

  pub default_causes : causes text DEFAULT_THRESHOLD classes pairs ≡ causes_default text classes pairs
  unfolding causes causes_default first_of not_finite given
  default_causes = rw default_finite (none_between (too_long text) (of_tables classes pairs ++ no_class classes text ∷ []))

  pub default_same : mess_ratio text DEFAULT_THRESHOLD classes pairs ≡ mess_ratio_default text classes pairs
  unfolding mess_ratio mess_ratio_default
  default_same = ap (λ (c : Result ⊤ Refusal). unless c (accepted_score classes pairs text (Some DEFAULT_THRESHOLD))) default_causes
