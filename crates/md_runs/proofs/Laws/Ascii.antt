-- The two classes that runs know without a lookup are the built-in table's: that of an ASCII lower-case letter, by a test that antt computes at each entry of
-- the four lists, and that of the space. And a lower-case letter is no wrong stop.
-- Assumes nothing.
use Rattle.std.proofs.Common.{◌≡◌, ℕ, ◌≤◌, Bool, false, T, eqb, List, length, get_or, refl, arith, ne_eqb, eqb-true}
use Rattle.base.specs.Limits.{BUILTIN_END}
use Rattle.base.specs.Tests.{implies, within}
use Rattle.base.proofs.Laws.Every.{every, at}
use Rattle.base.proofs.Laws.Tests.{implies_true, within_yes}
use Rattle.class_builtin.specs.Table.{entry_at}
use Rattle.class_builtin.specs.Words.{flag_words, range_numbers, bases, lowers}
use Rattle.class_builtin.proofs.Laws.Table.{so}
use Rattle.classes.specs.Lookup.{builtin_class}
use Rattle.md_counts.specs.CjkInvalidStop.{wrong_stop, STOP_UP, STOP_DOWN}
use Rattle.md_eight.specs.Inner.Runs.{BASIC_LATIN, LOWER, LOWER_FIRST, LOWER_LAST, lower_class, SPACE, space_class}

-- a list has v at each lower-case letter
unfoldable lower_test : ℕ → ℕ → ℕ → Bool
lower_test v p x = implies (within LOWER_FIRST LOWER_LAST p) (eqb x v)

module _ (p : ℕ) (l : LOWER_FIRST ≤ p) (h : p ≤ LOWER_LAST) where
  lower_at_lem : (v : ℕ) (xs : List ℕ) → length xs ≡ BUILTIN_END → T (every (lower_test v) 0 xs) → get_or xs p 0 ≡ v
  unfolding lower_test
  lower_at_lem v xs n t =
      let x = get_or xs p 0 in
      let tested = so (lower_test v p x) (at (lower_test v) xs t p (rw n (omega (arith, h)))) in
      eqb-true x v (implies_true (within LOWER_FIRST LOWER_LAST p) (eqb x v) tested (within_yes LOWER_FIRST LOWER_LAST p l h))

  flags_lower : get_or flag_words p 0 ≡ LOWER
  unfolding flag_words lower_test
  flags_lower = lower_at_lem LOWER flag_words refl tt

  range_lower : get_or range_numbers p 0 ≡ BASIC_LATIN
  unfolding range_numbers lower_test
  range_lower = lower_at_lem BASIC_LATIN range_numbers refl tt

  base_lower : get_or bases p 0 ≡ 0
  unfolding bases lower_test
  base_lower = lower_at_lem 0 bases refl tt

  lower_lower : get_or lowers p 0 ≡ 0
  unfolding lowers lower_test
  lower_lower = lower_at_lem 0 lowers refl tt

  pub lower_class_lem : builtin_class p ≡ lower_class p
  unfolding builtin_class entry_at
  lower_class_lem = rw (flags_lower, range_lower, base_lower, lower_lower)

  pub lower_stop : wrong_stop p ≡ false
  lower_stop = rw (ne_eqb p STOP_UP (λ e. omega (arith, e, h)), ne_eqb p STOP_DOWN (λ e. omega (arith, e, h)))

pub space_class_lem : builtin_class SPACE ≡ space_class
unfolding builtin_class entry_at flag_words range_numbers bases lowers
space_class_lem = refl
