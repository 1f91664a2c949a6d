-- What each way through reading shows of the score of bytes (`unread`, `read`); that such a score is plain, so that its floats have bits
-- (`utf8_plain`); and that scoring at the default threshold is scoring without one (`default_same_utf8`).
-- Assumes nothing.
use Rattle.std.specs.Prelude.{Result, Ok, Err, Some, ⊤}
use Prim.Native.Nat.{ℕ}
use mathlib.Core.Path.{◌≡◌, sym, ap, ◌∙◌}
use mathlib.Core.List.{List, [], ◌∷◌, ◌++◌}
use lib.Ieee.{Float}
use lib.ListN.{length, take, drop}
use lib.Seq.{take_at}
use Rattle.base.specs.declared.Refusal.{Refusal}
use Rattle.base.specs.Causes.{given, first_of}
use Rattle.base.specs.Put.{put}
use Rattle.base.proofs.Laws.Causes.{first_front, first_past, first_free}
use Rattle.base.proofs.Laws.Counted.{not_counted}
use Rattle.base.proofs.Laws.Put.{put_first}
use Rattle.utf8_meaning.specs.Text.{text_of}
use Rattle.utf8_meaning.specs.Answer.{many_bytes, ill_formed, many_points}
use Rattle.utf8_meaning.specs.Inner.Answer.{in_bytes, unreadable, count_utf8}
use Rattle.utf8_meaning.proofs.Laws.Answer.{counted_free}
use Rattle.ratio.specs.Finite.{not_finite}
use Rattle.md_meaning.specs.MessRatio.{DEFAULT_THRESHOLD, of_scoring, of_scoring_default, causes, causes_default, mess_ratio}
use Rattle.md_meaning.specs.Inner.Plain.{PlainAnswer}
use Rattle.md_meaning.proofs.Laws.Plain.{ratio_plain}
use Rattle.md_meaning.specs.Scan.{accepted_score, unless}
use Rattle.md_meaning.proofs.Laws.Scan.{unless_allowed, unless_refused, unless_score}
use Rattle.md_meaning.proofs.Laws.MessRatio.{default_causes, behind_same}
use Rattle.md_utf8_meaning.specs.ScoreUtf8.{causes_utf8, causes_utf8_default, mess_ratio_utf8, mess_ratio_utf8_default}
use Rattle.md_meaning.specs.declared.Score.{Score}

module _ (bytes : List ℕ) (threshold : Float) (classes pairs : List ℕ) where
  -- the refusal of bytes that were not read
  pub unread : (r : Refusal) → count_utf8 bytes ≡ Err r → Err r ≡ mess_ratio_utf8 bytes threshold classes pairs
  unfolding mess_ratio_utf8 causes_utf8 count_utf8 unreadable
  unread r e =
      sym (unless_refused _ _ r
      (first_front (in_bytes bytes) (of_scoring (text_of bytes) threshold classes pairs) r (not_counted (unreadable bytes) (length (text_of bytes)) r e)))

  -- the answer for bytes that were
  pub read : (n : ℕ) → count_utf8 bytes ≡ Ok n → (a : Result Score Refusal) → a ≡ mess_ratio (text_of bytes) threshold classes pairs
      → a ≡ mess_ratio_utf8 bytes threshold classes pairs
  unfolding mess_ratio_utf8 causes_utf8 mess_ratio causes unreadable
  read n e a s =
      s
      ∙ ap (λ (c : Result ⊤ Refusal). unless c (accepted_score classes pairs (text_of bytes) (Some threshold)))
      (sym (first_past (in_bytes bytes) (of_scoring (text_of bytes) threshold classes pairs) (counted_free bytes n e)))

  pub utf8_plain : PlainAnswer (mess_ratio_utf8 bytes threshold classes pairs)
  unfolding mess_ratio_utf8 causes_utf8 mess_ratio causes
  utf8_plain s e =
      let u = unless_score (causes_utf8 bytes threshold classes pairs) _ s e in
      let a = first_free (many_bytes bytes) _ u.0 in
      let b = first_free (ill_formed bytes) _ a.1 in
      let c = first_free (many_points bytes) _ b.1 in
      ratio_plain (text_of bytes) threshold classes pairs s (unless_allowed (causes (text_of bytes) threshold classes pairs) _ c.1 ∙ u.1)

-- what was put into the first places, up to the text's length, is the text
pub text_back : (text out : List ℕ) (n : ℕ) → n ≡ length text → take n (put out 0 text) ≡ text
text_back text out n e = ap (take n) (put_first out text) ∙ take_at text (drop (length text) out) n (sym e)

-- 0.2 is finite, so that the only cause between the two is never given
pub default_same_utf8 : (bytes classes pairs : List ℕ) → mess_ratio_utf8 bytes DEFAULT_THRESHOLD classes pairs ≡ mess_ratio_utf8_default bytes classes pairs
unfolding mess_ratio_utf8 mess_ratio_utf8_default causes_utf8 causes_utf8_default causes causes_default
default_same_utf8 bytes classes pairs =
    ap (λ (c : Result ⊤ Refusal). unless c (accepted_score classes pairs (text_of bytes) (Some DEFAULT_THRESHOLD)))
    (behind_same (many_bytes bytes ∷ ill_formed bytes ∷ many_points bytes ∷ []) _ _ (default_causes (text_of bytes) classes pairs))
