-- mess_ratio refuses exactly for 01's causes: a text with none of them is scored (`faultless_scored`), and a text that is scored has none
-- of them (`scored_faultless`), its answer being the accepted one. In which order the causes are given is the definition's own order.
-- Assumes nothing.
use Rattle.std.specs.Prelude.{Ok, Some}
use Prim.Native.Nat.{ℕ, ◌≤◌, ◌<◌}
use mathlib.Core.Path.{◌≡◌, refl, ap}
use mathlib.Core.Bool.{true, false, not}
use mathlib.Core.List.{List, [], ◌∷◌}
use native.Mathlib.Omega.{arith}
use lib.Ieee.{Float}
use lib.ListN.{length}
use borrow.Author.Tests.{ltb-false, le-ltb, not-false}
use Rattle.base.specs.Causes.{first_of}
use Rattle.base.proofs.Laws.First.{first_none, first_before}
use Rattle.base.specs.Limits.{LONGEST_TEXT}
use Rattle.base.specs.declared.refusals.Cause.TheVariants.{TooLong, NotFinite, Unclassed}
use Rattle.base.proofs.Laws.Causes.{first_free, free_first, given_free, free_given}
use Rattle.classes.specs.Check.{bad_classes}
use Rattle.classes.specs.Inner.Tables.{Tables}
use Rattle.classes.specs.Pairs.{bad_pairs}
use Rattle.classes.proofs.Laws.Tables.{free_tables, tables_free}
use Rattle.ratio.specs.Finite.{is_finite, not_finite}
use Rattle.md_meaning.specs.declared.Score.{Score}
use Rattle.md_meaning.specs.Text.{total}
use Rattle.md_meaning.specs.Scan.{unclassed, accepted_score, first_unclassed, no_class}
use Rattle.md_meaning.proofs.Laws.Scan.{unless_allowed, unless_score}
use Rattle.md_meaning.specs.MessRatio.{too_long, causes, mess_ratio}

-- none of scoring's causes: 1, 4, 5, 7, 6
pub record Faultless (text : List ℕ) (threshold : Float) (classes pairs : List ℕ) : Type 0 where
  pub short : length text ≤ LONGEST_TEXT
  pub finite : is_finite threshold ≡ true
  pub tables : Tables classes pairs
  pub classed : (i : ℕ) → i < total text → unclassed classes text i ≡ false

module _ (classes text : List ℕ) where
  classed_free : ((i : ℕ) → i < total text → unclassed classes text i ≡ false) → no_class classes text ≡ Ok tt
  unfolding no_class
  classed_free f =
      free_given _ Unclassed (first_unclassed classes text)
      (rw (first_none (unclassed classes text) (total text) f) (le-ltb (total text) (total text) (omega arith)))

  free_classed : no_class classes text ≡ Ok tt → (i : ℕ) → i < total text → unclassed classes text i ≡ false
  unfolding no_class
  free_classed e i h =
      let l = ltb-false (first_unclassed classes text) (total text) (given_free _ Unclassed (first_unclassed classes text) e) in
      first_before (unclassed classes text) (total text) i (omega arith)

module _ (text : List ℕ) (threshold : Float) (classes pairs : List ℕ) where
  pub faultless_free : Faultless text threshold classes pairs → causes text threshold classes pairs ≡ Ok tt
  unfolding causes too_long not_finite first_of
  faultless_free f =
      let t = tables_free classes pairs f.tables in
      free_first _ (not_finite threshold ∷ bad_classes classes ∷ bad_pairs pairs ∷ no_class classes text ∷ [])
      (free_given _ TooLong 0 (le-ltb LONGEST_TEXT (length text) f.short))
      (free_first _ (bad_classes classes ∷ bad_pairs pairs ∷ no_class classes text ∷ []) (free_given _ NotFinite 0 (ap not f.finite))
      (free_first _ (bad_pairs pairs ∷ no_class classes text ∷ []) t.0
      (free_first _ (no_class classes text ∷ []) t.1 (free_first _ [] (classed_free classes text f.classed) refl))))

  pub free_faultless : causes text threshold classes pairs ≡ Ok tt → Faultless text threshold classes pairs
  unfolding causes too_long not_finite
  free_faultless e =
      let a = first_free (too_long text) _ e in
      let b = first_free (not_finite threshold) _ a.1 in
      let c = first_free (bad_classes classes) _ b.1 in
      let d = first_free (bad_pairs pairs) _ c.1 in
      let f = first_free (no_class classes text) _ d.1 in
      record {
        short = ltb-false LONGEST_TEXT (length text) (given_free _ TooLong 0 a.0);
        finite = not-false (is_finite threshold) (given_free _ NotFinite 0 b.0);
        tables = free_tables classes pairs c.0 d.0;
        classed = free_classed classes text f.0;
      }

  -- no cause, no refusal
  pub faultless_scored : Faultless text threshold classes pairs → mess_ratio text threshold classes pairs ≡ accepted_score classes pairs text (Some threshold)
  unfolding mess_ratio
  faultless_scored f = unless_allowed _ _ (faultless_free f)

  pub record Accepted (s : Score) : Type 0 where
    pub faultless : Faultless text threshold classes pairs
    pub is : accepted_score classes pairs text (Some threshold) ≡ Ok s

  -- no refusal, no cause
  pub scored_faultless : (s : Score) → mess_ratio text threshold classes pairs ≡ Ok s → Accepted s
  unfolding mess_ratio
  scored_faultless s e =
      let u = unless_score (causes text threshold classes pairs) _ s e in
      record { faultless = free_faultless u.0; is = u.1 }
