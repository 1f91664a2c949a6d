-- Laws of refusal 6: `unclassed_none`, `_not_taken`, `_taken`, `_itself` by what the lookup finds; `missing_first`, `_second`, `_neither` of the letters
-- that a character lowers to; and for readers `all_classed`, `lowers_classed`: where it is not given, every character has a class, and so has each
-- letter that a taken one lowers to.
-- Assumes nothing.
use Rattle.std.specs.Prelude.{Option, Some, None}
use Prim.Native.Nat.{ℕ, ◌<◌}
use mathlib.Core.Path.{◌≡◌, refl, sym, ap, ◌∙◌}
use mathlib.Core.Bool.{true, false, or-false, and-false}
use mathlib.Core.List.{List}
use native.Mathlib.Omega.{arith}
use lib.ListN.{length, get_or}
use lib.Dec.{eqb, lit<}
use borrow.Author.Tests.{eqb-true}
use Rattle.base.proofs.Laws.First.{first_before}
use Rattle.base.proofs.Laws.Tests.{by_bool}
use Rattle.class_builtin.specs.Table.{entry_at}
use Rattle.class_builtin.specs.Words.{flag_words, range_numbers, bases, lowers}
use Rattle.class_records.specs.Records.{good_table}
use Rattle.classes.specs.declared.Class.{Class}
use Rattle.classes.specs.Lookup.{class_of, builtin_class, missing}
use Rattle.classes.proofs.Laws.Lookup.{class_builtin, class_lawful}
use Rattle.cd_taken_meaning.specs.Taken.{CAPITAL_I_WITH_DOT, DOT_ABOVE, is_taken, lowered}
use Rattle.cd_taken_meaning.specs.Unclassed.{some_missing, unclassed, unclassed_at, first_unclassed}

-- the letters that a character lowers to
module _ (classes : List ℕ) (c : Class) where
  pub missing_first : missing (class_of classes c.lower) ≡ true → some_missing classes (lowered c) ≡ true
  unfolding some_missing lowered
  missing_first e = rw e

  module _ (e : missing (class_of classes c.lower) ≡ false) where
    pub missing_second : eqb c.point CAPITAL_I_WITH_DOT ≡ true → some_missing classes (lowered c) ≡ missing (class_of classes DOT_ABOVE)
    unfolding some_missing lowered
    missing_second d = rw (e, d) (or-false (missing (class_of classes DOT_ABOVE)))

    pub missing_neither : eqb c.point CAPITAL_I_WITH_DOT ≡ false → some_missing classes (lowered c) ≡ false
    unfolding some_missing lowered
    missing_neither d = rw (e, d)

-- U+0130 is not its own lower case
dotted_lower : (builtin_class CAPITAL_I_WITH_DOT).lower ≡ 0x69
unfolding builtin_class entry_at flag_words range_numbers bases lowers
dotted_lower = refl

module _ (classes : List ℕ) {p : ℕ} {c : Class} (e : class_of classes p ≡ Some c) where
  not_dotted : c.lower ≡ p → eqb p CAPITAL_I_WITH_DOT ≡ false
  not_dotted k = by_bool (eqb p CAPITAL_I_WITH_DOT) (λ d. absurd (never (eqb-true p CAPITAL_I_WITH_DOT d))) (λ d. d)
    where
      never : p ≡ CAPITAL_I_WITH_DOT → ⊥
      never q =
          let b : Some (builtin_class CAPITAL_I_WITH_DOT) ≡ Some c = sym (class_builtin classes CAPITAL_I_WITH_DOT (lit< tt)) ∙ (rw q at e) in
          let same : builtin_class CAPITAL_I_WITH_DOT ≡ c = cc in
          omega (arith, dotted_lower, ap (λ (d : Class). d.lower) same, k, q)

module _ (classes : List ℕ) {f : Option Class} where
  pub unclassed_none : f ≡ None → unclassed classes f ≡ true
  unfolding unclassed
  unclassed_none e = rw e

  module _ {c : Class} (e : f ≡ Some c) where
    pub unclassed_not_taken : is_taken c ≡ false → unclassed classes f ≡ false
    unfolding unclassed
    unclassed_not_taken t = rw (e, t)

    pub unclassed_taken : is_taken c ≡ true → unclassed classes f ≡ some_missing classes (lowered c)
    unfolding unclassed
    unclassed_taken t = rw (e, t)

-- a letter that is its own lower case
pub unclassed_itself : (classes : List ℕ) → good_table classes ≡ true → {p : ℕ} {c : Class} → class_of classes p ≡ Some c → c.lower ≡ p
    → unclassed classes (class_of classes p) ≡ false
unfolding unclassed
unclassed_itself classes good {p} {c} e k =
    let single : eqb c.point CAPITAL_I_WITH_DOT ≡ false = rw (class_lawful classes good p c e).point (not_dotted classes e k) in
    let found : missing (class_of classes c.lower) ≡ false = rw (k, e) in
    rw (e, missing_neither classes c found single) (and-false (is_taken c))

module _ (classes text : List ℕ) (all : first_unclassed classes text ≡ length text) (i : ℕ) (h : i < length text) where
  none : unclassed classes (class_of classes (get_or text i 0)) ≡ false
  unfolding first_unclassed unclassed_at
  none = first_before (unclassed_at classes text) (length text) i (rw all h)

  pub all_classed : missing (class_of classes (get_or text i 0)) ≡ false
  unfolding unclassed
  all_classed = go (class_of classes (get_or text i 0)) none
    where
      go : (f : Option Class) → unclassed classes f ≡ false → missing f ≡ false
      go (Some c) e = refl
      go None e = e

  pub lowers_classed : {c : Class} → class_of classes (get_or text i 0) ≡ Some c → is_taken c ≡ true → some_missing classes (lowered c) ≡ false
  lowers_classed e t = sym (unclassed_taken classes e t) ∙ none
