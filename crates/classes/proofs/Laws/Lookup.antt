-- Laws of the lookup in a good table: what it finds is lawful; below U+0250 only the built-in table answers, past it only a lent record does; and
-- a number that is no scalar value has no class.
-- Assumes nothing.
use Rattle.std.specs.Prelude.{Some, None}
use Prim.Native.Nat.{ℕ, ◌+◌, ◌≤◌, ◌<◌}
use mathlib.Core.Path.{◌≡◌, refl, sym, ap, ◌∙◌}
use mathlib.Core.List.{List}
use mathlib.Core.Bool.{true, false, not, ◌&&◌, true≢false}
use native.Mathlib.Omega.{arith}
use lib.Dec.{eqb, lit<}
use borrow.Author.Tests.{lt-ltb, le-ltb, le-leb, not-true}
use Rattle.base.proofs.Laws.First.{first_found}
use Rattle.base.specs.Flags.{has, WHITESPACE, SEPARATOR, ASCII, ASCII_ALPHABETIC, ASCII_GRAPHIC, ASCII_DIGIT, LATIN, ACCENTUATED}
use Rattle.base.specs.FlagRule.{flag_rule}
use Rattle.base.specs.Limits.{BUILTIN_END, LAST_POINT, SURROGATE_FIRST, SURROGATE_LAST, LAST_RANGE, NEWLINE}
use Rattle.base.specs.Tests.{scalar}
use Rattle.base.proofs.Laws.Tests.{within_below, by_bool, split, and_l, and_r, and_yes}
use Rattle.class_builtin.proofs.Laws.Table.{entry_lawful, entry_range_small, newline_entry}
use Rattle.class_records.specs.Records.{records, record_at, no_ascii, none_or_scalar, good_table, holds, holder}
use Rattle.class_records.proofs.Laws.Records.{table_fields, held_past, held_scalar}
use Rattle.classes.specs.Lookup.{or_self, builtin_class, record_class, lent_class, class_of}
use Rattle.classes.specs.declared.Class.{Class}

module _ (t : List ℕ) (p : ℕ) where
  pub class_builtin : p < BUILTIN_END → class_of t p ≡ Some (builtin_class p)
  unfolding class_of
  class_builtin h = rw (lt-ltb _ _ h)

  pub class_lent : BUILTIN_END ≤ p → class_of t p ≡ lent_class t p
  unfolding class_of
  class_lent h = rw (le-ltb _ _ h)

  pub lent_held : holder t p < records t → lent_class t p ≡ Some (record_class (record_at t (holder t p)) p)
  unfolding lent_class
  lent_held h = rw (lt-ltb _ _ h)

  pub lent_none : records t ≤ holder t p → lent_class t p ≡ None
  unfolding lent_class
  lent_none h = rw (le-ltb _ _ h)

-- what a class that is found meets
pub record Lawful (p : ℕ) (c : Class) : Type 0 where
  pub point : c.point ≡ p
  pub flags : flag_rule c.flags ≡ true
  pub range : c.range ≤ LAST_RANGE
  pub base : scalar c.base ≡ true
  pub lower : scalar c.lower ≡ true
  -- "ASCII letters are LATIN and not ACCENTUATED"
  pub latin : has c.flags ASCII_ALPHABETIC ≡ true → has c.flags LATIN ≡ true
  pub plain : has c.flags ASCII_ALPHABETIC ≡ true → has c.flags ACCENTUATED ≡ false

-- the character itself, or another scalar value
self_scalar : (n p : ℕ) → scalar p ≡ true → (eqb n 0 ≡ false → scalar n ≡ true) → scalar (or_self n p) ≡ true
self_scalar n p h k = by_bool (eqb n 0) (λ e. rw e h) (λ e. rw e (k e))

none_or_scalar_lem : (n : ℕ) → none_or_scalar n ≡ true → eqb n 0 ≡ false → scalar n ≡ true
unfolding none_or_scalar
none_or_scalar_lem n h e = rw e at h

builtin_scalar : (p : ℕ) → p < BUILTIN_END → scalar p ≡ true
unfolding scalar
builtin_scalar p h =
    and_yes (le-leb p LAST_POINT (omega arith)) (ap not (within_below SURROGATE_FIRST SURROGATE_LAST p (omega arith)))

pub builtin_lawful : (p : ℕ) → p < BUILTIN_END → Lawful p (builtin_class p)
unfolding builtin_class
builtin_lawful p h =
    let e = entry_lawful p h in
    record {
      point = refl;
      flags = e.flags;
      range = entry_range_small p h;
      base = self_scalar _ p (builtin_scalar p h) (λ z. e.base);
      lower = self_scalar _ p (builtin_scalar p h) (λ z. e.lower);
      latin = λ l. e.latin (sym e.letter ∙ l);
      plain = λ l. e.plain (sym e.letter ∙ l);
    }

-- the ASCII bits of a lent record are clear
no_letter : (f : ℕ) → no_ascii f ≡ true → has f ASCII_ALPHABETIC ≡ true → ⊥
unfolding no_ascii
no_letter f h l =
    let three = and_l (not (has f ASCII) && not (has f ASCII_ALPHABETIC)) (not (has f ASCII_GRAPHIC)) (and_l _ (not (has f ASCII_DIGIT)) h) in
    true≢false (sym l ∙ not-true (has f ASCII_ALPHABETIC) (and_r (not (has f ASCII)) (not (has f ASCII_ALPHABETIC)) three))

module _ (t : List ℕ) (g : good_table t ≡ true) (p : ℕ) where
  found : holder t p < records t → holds t p (holder t p) ≡ true
  unfolding holder
  found h = first_found (holds t p) (records t) h

  pub lent_lawful : holder t p < records t → Lawful p (record_class (record_at t (holder t p)) p)
  unfolding record_class
  lent_lawful h =
      let f = table_fields t g (holder t p) h in
      let s = held_scalar t g p (holder t p) h (found h) in
      record {
        point = refl;
        flags = f.flags;
        range = f.range;
        base = self_scalar _ p s (none_or_scalar_lem _ f.base);
        lower = self_scalar _ p s (none_or_scalar_lem _ f.lower);
        latin = λ l. absurd (no_letter _ f.ascii l);
        plain = λ l. absurd (no_letter _ f.ascii l);
      }

  -- whatever the lookup finds is lawful
  pub class_lawful : (c : Class) → class_of t p ≡ Some c → Lawful p c
  class_lawful c e =
      split p BUILTIN_END
      (λ l. same (builtin_class p) (sym (class_builtin t p l) ∙ e) (builtin_lawful p l))
      (λ l. split (holder t p) (records t)
      (λ h. same (record_class (record_at t (holder t p)) p) (sym (lent_held t p h) ∙ sym (class_lent t p l) ∙ e) (lent_lawful h))
      (λ h. never (sym (lent_none t p h) ∙ sym (class_lent t p l) ∙ e)))
    where
      same : (d : Class) → Some d ≡ Some c → Lawful p d → Lawful p c
      same d e l = let z : d ≡ c = cc in rw z at l

      never : {A : Type 0} → None ≡ Some c → A
      never e = absurd (no (told e))
        where
          told : None ≡ Some c → ◌≡◌ {A = ℕ} 0 1
          told e = cc

          no : ◌≡◌ {A = ℕ} 0 1 → ⊥
          no z = omega arith

  -- the lent table never answers where the built-in one does
  pub lent_past : p < BUILTIN_END → lent_class t p ≡ None
  lent_past h =
      split (holder t p) (records t)
      (λ l. absurd (no (held_past t g p (holder t p) l (found l))))
      (λ l. lent_none t p l)
    where
      no : BUILTIN_END ≤ p → ⊥
      no k = omega arith

  -- a number that is no scalar value has no class
  pub no_scalar : scalar p ≡ false → class_of t p ≡ None
  no_scalar h =
      split p BUILTIN_END
      (λ l. absurd (no (sym h ∙ builtin_scalar p l)))
      (λ l. class_lent t p l ∙ split (holder t p) (records t)
      (λ k. absurd (no (sym h ∙ held_scalar t g p (holder t p) k (found k))))
      (λ k. lent_none t p k))
    where
      no : false ≡ true → ⊥
      no e = omega (arith, one e)
        where
          one : false ≡ true → ◌≡◌ {A = ℕ} 0 1
          one e = cc

-- the newline that is fed after every text has a class, whatever the lent table
pub newline_class : (t : List ℕ)
    → class_of t NEWLINE
    ≡ Some (record { point = NEWLINE; flags = WHITESPACE + SEPARATOR + ASCII; range = 1; base = NEWLINE; lower = NEWLINE })
unfolding builtin_class
newline_class t = class_builtin t NEWLINE (lit< tt) ∙ rw newline_entry
