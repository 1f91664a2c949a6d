-- The check of what is lent: one law for each way in which it returns (`tables_bad`, `tables_on`, `lent_unbounded`, `lent_on`); what passed it
-- (`free_checked`, `free_lent`), and the other way round (`checked_free`, `lent_free`).
-- Assumes nothing.
use Rattle.std.specs.Prelude.{Ok, Err}
use Prim.Native.Nat.{ℕ}
use mathlib.Core.Path.{◌≡◌, ap, ◌∙◌}
use mathlib.Core.Bool.{true, false, not}
use mathlib.Core.List.{List}
use lib.Ieee.{Float}
use borrow.Author.Tests.{not-false}
use Rattle.base.specs.declared.Refusal.{Refusal}
use Rattle.base.specs.Causes.{refused_at}
use Rattle.base.specs.declared.refusals.Cause.TheVariants.{NotFinite}
use Rattle.base.proofs.Laws.Causes.{first_one, first_refused, first_on, first_given, first_passed, first_free, given_free}
use Rattle.classes.specs.Check.{bad_classes}
use Rattle.classes.specs.Inner.Tables.{Tables}
use Rattle.classes.specs.Pairs.{bad_pairs}
use Rattle.classes.proofs.Laws.Tables.{free_tables, tables_free}
use Rattle.ratio.specs.Finite.{is_finite, not_finite}
use Rattle.md_meaning.specs.Inner.Lent.{of_tables, bad_tables, bad_lent}

module _ (classes pairs : List ℕ) where
  pub tables_bad : (r : Refusal) → bad_classes classes ≡ Err r → bad_tables classes pairs ≡ Err r
  unfolding bad_tables
  tables_bad r e = first_refused _ (bad_classes classes) r e

  pub tables_on : bad_classes classes ≡ Ok tt → bad_tables classes pairs ≡ bad_pairs pairs
  unfolding bad_tables
  tables_on e = first_on _ (bad_classes classes) e ∙ first_one (bad_pairs pairs)

  -- tables that passed are checked ones, and the other way round
  pub free_checked : bad_tables classes pairs ≡ Ok tt → Tables classes pairs
  unfolding bad_tables
  free_checked e =
      let a = first_free (bad_classes classes) _ e in
      let b = first_free (bad_pairs pairs) _ a.1 in
      free_tables classes pairs a.0 b.0

  pub checked_free : Tables classes pairs → bad_tables classes pairs ≡ Ok tt
  checked_free t = let f = tables_free classes pairs t in tables_on f.0 ∙ f.1

  module _ (threshold : Float) where
    pub lent_unbounded : is_finite threshold ≡ false → bad_lent threshold classes pairs ≡ refused_at NotFinite 0
    unfolding bad_lent not_finite
    lent_unbounded e = first_given _ _ NotFinite 0 (ap not e)

    pub lent_on : is_finite threshold ≡ true → bad_lent threshold classes pairs ≡ bad_tables classes pairs
    unfolding bad_lent bad_tables not_finite
    lent_on e = first_passed (of_tables classes pairs) _ NotFinite 0 (ap not e)

    pub free_lent : bad_lent threshold classes pairs ≡ Ok tt → (is_finite threshold ≡ true) × Tables classes pairs
    unfolding bad_lent bad_tables not_finite
    free_lent e =
        let a = first_free (not_finite threshold) (of_tables classes pairs) e in
        (not-false (is_finite threshold) (given_free _ NotFinite 0 a.0), free_checked a.1)

    pub lent_free : is_finite threshold ≡ true → Tables classes pairs → bad_lent threshold classes pairs ≡ Ok tt
    lent_free e t = lent_on e ∙ checked_free t
