-- The words of the built-in table hold its entries, tried at each of the 592.
-- Assumes nothing.
use Prim.Native.Nat.{ℕ, ◌<◌}
use mathlib.Core.Bool.{Bool, true, ◌&&◌}
use mathlib.Core.Path.{◌≡◌, refl}
use lib.Dec.{T, eqb}
use lib.ListN.{length, get_or}
use borrow.Author.Tests.{eqb-true}
use Rattle.base.proofs.Laws.Every.{at}
use Rattle.base.specs.Limits.{BUILTIN_END}
use Rattle.base.proofs.Laws.Tests.{and_l, and_r}
use Rattle.class_builtin.specs.Inner.Packed.{unpack}
use Rattle.class_builtin.specs.Table.{entry_at}
use Rattle.class_builtin.proofs.Laws.Table.{so}
use Rattle.class_builtin.specs.Words.{flag_words, range_numbers, bases, lowers}
use Rattle.class_builtin.specs.Inner.Words.{packed_words}
use Rattle.class_builtin.specs.declared.Entry.{Entry}

-- two entries are the same
abbrev alike : Entry → Entry → Bool
alike d e = eqb d.flags e.flags && eqb d.range e.range && eqb d.base e.base && eqb d.lower e.lower

joined : (f r b l f' r' b' l' : ℕ) → f ≡ f' → r ≡ r' → b ≡ b' → l ≡ l'
    → ◌≡◌ {A = Entry} (record { flags = f; range = r; base = b; lower = l }) (record { flags = f'; range = r'; base = b'; lower = l' })
joined f r b l f' r' b' l' ef er eb el = rw (ef, er, eb, el)

alike_is : (d e : Entry) → alike d e ≡ true → d ≡ e
alike_is d e h =
    let three = and_l _ (eqb d.lower e.lower) h in
    let two = and_l _ (eqb d.base e.base) three in
    joined _ _ _ _ _ _ _ _
    (eqb-true _ _ (and_l _ (eqb d.range e.range) two))
    (eqb-true _ _ (and_r (eqb d.flags e.flags) _ two))
    (eqb-true _ _ (and_r (eqb d.flags e.flags && eqb d.range e.range) _ three))
    (eqb-true _ _ (and_r (eqb d.flags e.flags && eqb d.range e.range && eqb d.base e.base) _ h))

abbrev held_at : ℕ → ℕ → Bool
held_at p w = alike (unpack w) (entry_at p)

tested : (p : ℕ) → p < length packed_words → T (held_at p (get_or packed_words p 0))
unfolding unpack entry_at flag_words range_numbers bases lowers packed_words
tested = at held_at packed_words tt

pub packed_length : length packed_words ≡ BUILTIN_END
unfolding packed_words
packed_length = refl

pub packed_entry : (p : ℕ) → p < BUILTIN_END → unpack (get_or packed_words p 0) ≡ entry_at p
packed_entry p h = alike_is _ _ (so _ (tested p (rw packed_length h)))
