-- Tables that were checked: what one is and what its having no cause says, both ways.
-- Assumes nothing.
use Rattle.std.specs.Prelude.{Ok}
use Prim.Native.Nat.{ℕ}
use mathlib.Core.Path.{◌≡◌, ap}
use mathlib.Core.Bool.{not}
use mathlib.Core.List.{List}
use lib.ListN.{length}
use borrow.Author.Tests.{eqb-true, eq-eqb, ne_eqb, not-false}
use Rattle.base.specs.Causes.{refused_at}
use Rattle.base.specs.Limits.{PAIR_BYTES}
use Rattle.base.specs.declared.refusals.Cause.TheVariants.{BadPairs}
use Rattle.base.proofs.Laws.Causes.{given_yes, free_given, given_free}
use Rattle.classes.specs.Check.{bad_classes}
use Rattle.classes.proofs.Laws.Check.{free_good, good_free}
use Rattle.classes.specs.Inner.Tables.{Tables}
use Rattle.classes.specs.Pairs.{bad_pairs}

module _ (pairs : List ℕ) where
  pub pairs_refused : (length pairs ≡ PAIR_BYTES → ⊥) → bad_pairs pairs ≡ refused_at BadPairs 0
  unfolding bad_pairs
  pairs_refused h = given_yes _ BadPairs 0 (ap not (ne_eqb _ _ h))

  pub fit_free : length pairs ≡ PAIR_BYTES → bad_pairs pairs ≡ Ok tt
  unfolding bad_pairs
  fit_free h = free_given _ BadPairs 0 (ap not (eq-eqb (length pairs) PAIR_BYTES h))

  pub free_fit : bad_pairs pairs ≡ Ok tt → length pairs ≡ PAIR_BYTES
  unfolding bad_pairs
  free_fit e = eqb-true _ _ (not-false _ (given_free _ BadPairs 0 e))

module _ (classes pairs : List ℕ) where
  pub free_tables : bad_classes classes ≡ Ok tt → bad_pairs pairs ≡ Ok tt → Tables classes pairs
  free_tables e f = record { good = free_good classes e; fits = free_fit pairs f }

  pub tables_free : Tables classes pairs → (bad_classes classes ≡ Ok tt) × (bad_pairs pairs ≡ Ok tt)
  tables_free t = (good_free classes t.good, fit_free pairs t.fits)
