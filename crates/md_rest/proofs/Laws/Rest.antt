-- Laws of the walk over the rest of a text: which characters have a class, by the built-in table or by a record (`builtin_classed`, `held_classed`,
-- `held_class`), and that what was passed need not be looked for again (`first_passed`).
-- Assumes nothing.
use Rattle.std.specs.Prelude.{Some}
use Prim.Native.Nat.{ℕ, zero, suc, ◌+◌, ◌-◌, ◌≤◌, ◌<◌}
use mathlib.Core.Path.{◌≡◌, ◌∙◌}
use mathlib.Core.List.{List}
use mathlib.Core.Bool.{Bool, true, false}
use native.Mathlib.Omega.{arith}
use lib.ListN.{length, get_or-eq_default}
use Rattle.base.specs.Limits.{BUILTIN_END, NEWLINE}
use Rattle.base.specs.Flags.{WHITESPACE, SEPARATOR, ASCII}
use Rattle.base.specs.Inner.First.{first_from}
use Rattle.base.proofs.Laws.First.{first_miss, first_found}
use Rattle.base.specs.Tests.{within}
use Rattle.base.proofs.Laws.Tests.{within_lo, within_hi, within_yes}
use Rattle.class_records.specs.Records.{records, record_at, good_table, holds, holder}
use Rattle.class_records.proofs.Laws.Records.{holder_is, held_past}
use Rattle.classes.specs.declared.Class.{Class}
use Rattle.classes.specs.Lookup.{record_class, class_of}
use Rattle.classes.proofs.Laws.Lookup.{class_builtin, class_lent, lent_held, lent_none, newline_class}
use Rattle.md_meaning.specs.Text.{char_at}
use Rattle.md_meaning.specs.Scan.{class_at, unclassed}
use Rattle.md_meaning.proofs.Laws.Scan.{is_unclassed, is_classed}

-- where none of the indexes from i to k is what is looked for, it is looked for from k on
module _ (f : ℕ → Bool) (n : ℕ) where
  along : (d i : ℕ) → i + d ≤ n → ((j : ℕ) → i ≤ j → j < i + d → f j ≡ false) → first_from f n i ≡ first_from f n (i + d)
  along zero i h none = let e : i + 0 ≡ i = omega arith in rw e
  along (suc d) i h none =
      let e : i + 1 + d ≡ i + suc d = omega arith in
      first_miss f n i (omega arith) (none i (omega arith) (omega arith))
      ∙ along d (i + 1) (omega arith) (λ j a b. none j (omega arith) (omega arith))
      ∙ rw e

  pub first_passed : (i k : ℕ) → i ≤ k → k ≤ n → ((j : ℕ) → i ≤ j → j < k → f j ≡ false) → first_from f n i ≡ first_from f n k
  first_passed i k h l none =
      let e : i + (k - i) ≡ k = omega arith in
      along (k - i) i (omega arith) (λ j a b. none j a (omega arith)) ∙ rw e

module _ (t : List ℕ) (g : good_table t ≡ true) (p at : ℕ) (l : at < records t) (a : (record_at t at).first ≤ p) (z : p ≤ (record_at t at).last) where
  inside : holds t p at ≡ true
  unfolding holds
  inside = within_yes _ _ p a z

  -- a code point that a record holds has the class that the record gives
  pub held_class : class_of t p ≡ Some (record_class (record_at t at) p)
  held_class =
      let e : holder t p ≡ at = holder_is t g p at l inside in
      class_lent t p (held_past t g p at l inside) ∙ lent_held t p (rw e l) ∙ rw e

pub holder_hold : (t : List ℕ) (p : ℕ) → holder t p < records t → holds t p (holder t p) ≡ true
unfolding holder
holder_hold t p h = first_found (holds t p) (records t) h

pub holder_holds : (t : List ℕ) (p : ℕ) → holder t p < records t → within (record_at t (holder t p)).first (record_at t (holder t p)).last p ≡ true
unfolding holder holds
holder_holds t p h = first_found (holds t p) (records t) h

module _ (t text : List ℕ) where
  pub builtin_classed : (j : ℕ) → char_at text j < BUILTIN_END → unclassed t text j ≡ false
  unfolding class_at
  builtin_classed j h = is_classed t text j _ (class_builtin t (char_at text j) h)

  pub held_classed : good_table t ≡ true → (at : ℕ) → at < records t → (j : ℕ) → (record_at t at).first ≤ char_at text j → char_at text j ≤ (record_at t at).last
      → unclassed t text j ≡ false
  unfolding class_at
  held_classed g at l j a z = is_classed t text j _ (held_class t g (char_at text j) at l a z)

  pub holder_classed : good_table t ≡ true → (j : ℕ) → holder t (char_at text j) < records t → unclassed t text j ≡ false
  holder_classed g j h =
      let held = holder_holds t (char_at text j) h in
      held_classed g (holder t (char_at text j)) h j (within_lo _ (record_at t (holder t (char_at text j))).last _ held) (within_hi (record_at t (holder t (char_at text j))).first _ _ held)

  -- past the built-in table, a code point that no record holds has none
  pub none_unclassed : (j : ℕ) → BUILTIN_END ≤ char_at text j → records t ≤ holder t (char_at text j) → unclassed t text j ≡ true
  unfolding class_at
  none_unclassed j a h = is_unclassed t text j (class_lent t (char_at text j) a ∙ lent_none t (char_at text j) h)

  -- the newline behind the text has one
  pub newline_classed : unclassed t text (length text) ≡ false
  unfolding class_at
  newline_classed =
      let e : char_at text (length text) ≡ NEWLINE = get_or-eq_default text NEWLINE (omega arith) in
      let k : class_of t (char_at text (length text)) ≡ Some newline_class_lem = rw e (newline_class t) in
      is_classed t text (length text) newline_class_lem k
    where
      newline_class_lem : Class
      newline_class_lem = record { point = NEWLINE; flags = WHITESPACE + SEPARATOR + ASCII; range = 1; base = NEWLINE; lower = NEWLINE }
