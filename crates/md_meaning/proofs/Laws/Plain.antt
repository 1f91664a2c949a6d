-- Every ratio and sum that a scan answers is finite, no NaN and not below +0.0, so that its bits can be told (`scan_plain`,
-- `ratio_plain`); and the ratios have 01's bounds (`ratio_at_most`).
-- Assumes nothing.
use Rattle.std.specs.Prelude.{Result, Ok, Option, Some}
use Prim.Native.Nat.{ℕ, ◌+◌, ◌≤◌}
use mathlib.Core.Path.{◌≡◌}
use mathlib.Core.List.{List}
use mathlib.Core.Bool.{Bool}
use native.Mathlib.Omega.{arith}
use lib.Dec.{ltb}
use lib.Ieee.{Float}
use lib.ListN.{length}
use borrow.Author.Tests.{ltb-true}
use Rattle.base.specs.declared.Refusal.{Refusal}
use Rattle.base.proofs.Laws.Tests.{by_bool}
use Rattle.base.specs.Limits.{LONGEST_TEXT}
use Rattle.base.specs.Inner.Limits.{LARGEST}
use Rattle.md_eight.specs.declared.Detectors.{Detectors}
use Rattle.md_eight.specs.Detectors.{fractions}
use Rattle.md_eight.proofs.Loops.Detectors.{Within, fractions_proper, AtMost, ratios_at_most}
use Rattle.ratio.proofs.Laws.Rounded.{ratios_plain}
use Rattle.ratio_demand.proofs.Laws.Demand.{sum_plain}
use Rattle.md_meaning.specs.declared.Score.{Score}
use Rattle.md_meaning.specs.Text.{total}
use Rattle.md_meaning.specs.Scan.{scored, sum_of, stop_of, accepted_score, no_class}
use Rattle.md_meaning.specs.Inner.Scan.{scan}
use Rattle.md_meaning.proofs.Laws.Scan.{state_within, unless_score}
use Rattle.md_meaning.specs.MessRatio.{mess_ratio}
use Rattle.md_meaning.proofs.Laws.Accepted.{scored_faultless}
use Rattle.md_meaning.specs.Inner.Plain.{PlainScore, PlainAnswer}

-- what holds of the answer after k characters, whatever they were, holds of every answer
abbrev pub Always : (Score → Type 0) → Type 0
Always P = (k : ℕ) (t : Detectors) → Within k t → k ≤ LARGEST → (fed : ℕ) (early : Bool) (s : Score) → scored t fed early ≡ Ok s → P s

same : (P : Score → Type 0) (s r : Score) → ◌≡◌ {A = Result Score Refusal} (Ok r) (Ok s) → P r → P s
same P s r e c = let z : r ≡ s = cc in rw z at c

pub always_plain : Always PlainScore
unfolding scored sum_of
always_plain k t w h fed early s e =
    let p = fractions_proper k t w h in
    same PlainScore s _ e (record { ratios = ratios_plain (fractions t) p; sum = sum_plain (fractions t) p })

-- "All but CJK stops have ratios of at most 2, 1, 8, 2, 4, 1 and 1, in order": those of a score, in f32
abbrev pub Bounded : Score → Type 0
Bounded s = AtMost s.ratios

pub always_at_most : Always Bounded
unfolding scored
always_at_most k t w h fed early s e = same Bounded s _ e (ratios_at_most k t w h)

module _ (text : List ℕ) (limit : Option Float) (classes pairs : List ℕ) (short : length text ≤ LONGEST_TEXT) (P : Score → Type 0) (always : Always P) where
  pub accepted_always : (s : Score) → accepted_score classes pairs text limit ≡ Ok s → P s
  unfolding accepted_score
  accepted_always s e =
      let k = stop_of classes pairs text limit in
      by_bool (ltb k (total text))
      (λ t. let l = ltb-true k (total text) t in
      always (k + 1) _ (state_within classes pairs text (k + 1)) (omega arith) _ _ s (rw t at e))
      (λ t. always (total text) _ (state_within classes pairs text (total text)) (omega arith) _ _ s (rw t at e))

pub scan_plain : (text : List ℕ) (limit : Option Float) (classes pairs : List ℕ) → length text ≤ LONGEST_TEXT → PlainAnswer (scan classes pairs text limit)
unfolding scan
scan_plain text limit classes pairs short s e =
    accepted_always text limit classes pairs short PlainScore always_plain s (unless_score (no_class classes text) _ s e).1

module _ (text : List ℕ) (threshold : Float) (classes pairs : List ℕ) where
  ratio_always : (P : Score → Type 0) → Always P → (s : Score) → mess_ratio text threshold classes pairs ≡ Ok s → P s
  ratio_always P always s e =
      let a = scored_faultless text threshold classes pairs s e in
      accepted_always text (Some threshold) classes pairs a.faultless.short P always s a.is

  pub ratio_plain : PlainAnswer (mess_ratio text threshold classes pairs)
  ratio_plain s e = ratio_always PlainScore always_plain s e

  pub ratio_at_most : (s : Score) → mess_ratio text threshold classes pairs ≡ Ok s → Bounded s
  ratio_at_most s e = ratio_always Bounded always_at_most s e
