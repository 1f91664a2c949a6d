-- The built-in table meets its rule (`entry_lawful`): proved once over the whole table, by a test of each list that antt computes at all of
-- its entries. And what follows from it for callers.
-- Assumes nothing.
use Prim.Native.Nat.{ℕ, ◌+◌, ◌≤◌, ◌<◌}
use mathlib.Core.Bool.{Bool, true, false, not, ◌&&◌, ◌||◌}
use mathlib.Core.Path.{◌≡◌, refl}
use native.Mathlib.Omega.{arith}
use lib.Dec.{T, eqb, leb}
use lib.ListN.{length, get_or}
use borrow.Author.Tests.{eqb-true, not-true}
use Rattle.base.proofs.Laws.Every.{at}
use Rattle.base.specs.Limits.{BUILTIN_END, LAST_RANGE, NEWLINE}
use Rattle.base.specs.Flags.{has, WHITESPACE, SEPARATOR, ASCII, ASCII_ALPHABETIC, ASCII_GRAPHIC, ASCII_DIGIT, LATIN, ACCENTUATED}
use Rattle.base.specs.FlagRule.{flag_rule, cases_rule, kinds_rule, white_rule, scripts_rule}
use Rattle.base.proofs.Laws.Numbers.{bump_small}
use Rattle.base.specs.Tests.{implies, same, scalar}
use Rattle.base.proofs.Laws.Tests.{and_l, and_r, or_l, same_true, implies_true}
use Rattle.class_builtin.specs.Words.{flag_words, range_numbers, bases, lowers}
use Rattle.class_builtin.specs.Table.{entry_at}
use Rattle.class_builtin.proofs.Laws.TableRule.{is_ascii, is_ascii_letter, is_ascii_graphic, is_ascii_digit, CONTROL_CHARACTERS, BASIC_LATIN}
use Rattle.class_builtin.proofs.Laws.TableRule.{LATIN_1_SUPPLEMENT, LATIN_EXTENDED_A, LATIN_EXTENDED_B, range_of, Lawful}

-- the rule as a test of each list: of the code point p and the number that the list has for it
unfoldable ascii_test : ℕ → ℕ → Bool
ascii_test p f =
    same (has f ASCII) (is_ascii p)
    && same (has f ASCII_ALPHABETIC) (is_ascii_letter p)
    && same (has f ASCII_GRAPHIC) (is_ascii_graphic p)
    && same (has f ASCII_DIGIT) (is_ascii_digit p)
    && implies (is_ascii_letter p) (has f LATIN && not (has f ACCENTUATED))

unfoldable flags_test : ℕ → ℕ → Bool
flags_test p f = flag_rule f && ascii_test p f

unfoldable range_test : ℕ → ℕ → Bool
range_test p r = eqb r (range_of p)

unfoldable base_test : ℕ → ℕ → Bool
base_test p b = scalar b && (eqb b 0 || has (get_or flag_words p 0) ACCENTUATED)

unfoldable lower_test : ℕ → ℕ → Bool
lower_test p l = scalar l

-- each list has 592 entries, and its test is computed at all of them
flags_length : length flag_words ≡ BUILTIN_END
unfolding flag_words
flags_length = refl

flags_tested : (p : ℕ) → p < length flag_words → T (flags_test p (get_or flag_words p 0))
unfolding flags_test ascii_test flag_rule cases_rule kinds_rule white_rule scripts_rule has flag_words
flags_tested = at flags_test flag_words tt

ranges_length : length range_numbers ≡ BUILTIN_END
unfolding range_numbers
ranges_length = refl

ranges_tested : (p : ℕ) → p < length range_numbers → T (range_test p (get_or range_numbers p 0))
unfolding range_test range_of range_numbers
ranges_tested = at range_test range_numbers tt

bases_length : length bases ≡ BUILTIN_END
unfolding bases
bases_length = refl

bases_tested : (p : ℕ) → p < length bases → T (base_test p (get_or bases p 0))
unfolding base_test scalar has flag_words bases
bases_tested = at base_test bases tt

lowers_length : length lowers ≡ BUILTIN_END
unfolding lowers
lowers_length = refl

lowers_tested : (p : ℕ) → p < length lowers → T (lower_test p (get_or lowers p 0))
unfolding lower_test scalar lowers
lowers_tested = at lower_test lowers tt

pub so : (b : Bool) → T b → b ≡ true
so true t = refl
so false t = absurd t

module _ (a b c d e : Bool) (h : a && b && c && d && e ≡ true) where
  three : a && b && c ≡ true
  three = and_l (a && b && c) d (and_l (a && b && c && d) e h)

  is_1 : a ≡ true
  is_1 = and_l a b (and_l (a && b) c three)

  is_2 : b ≡ true
  is_2 = and_r a b (and_l (a && b) c three)

  is_3 : c ≡ true
  is_3 = and_r (a && b) c three

  is_4 : d ≡ true
  is_4 = and_r (a && b && c) d (and_l (a && b && c && d) e h)

  is_5 : e ≡ true
  is_5 = and_r (a && b && c && d) e h

-- the rule at each entry
pub entry_lawful : (p : ℕ) → p < BUILTIN_END → Lawful p (entry_at p)
unfolding entry_at flags_test ascii_test range_test base_test lower_test
entry_lawful p h =
    let f = get_or flag_words p 0 in
    let r = get_or range_numbers p 0 in
    let b = get_or bases p 0 in
    let l = get_or lowers p 0 in
    let hf = so (flags_test p f) (flags_tested p (rw flags_length h)) in
    let hr = so (range_test p r) (ranges_tested p (rw ranges_length h)) in
    let hb = so (base_test p b) (bases_tested p (rw bases_length h)) in
    let hl = so (lower_test p l) (lowers_tested p (rw lowers_length h)) in
    let latin = has f LATIN in
    let plain = not (has f ACCENTUATED) in
    let a1 = same (has f ASCII) (is_ascii p) in
    let a2 = same (has f ASCII_ALPHABETIC) (is_ascii_letter p) in
    let a3 = same (has f ASCII_GRAPHIC) (is_ascii_graphic p) in
    let a4 = same (has f ASCII_DIGIT) (is_ascii_digit p) in
    let a5 = implies (is_ascii_letter p) (latin && plain) in
    let ha = and_r (flag_rule f) (ascii_test p f) hf in
    let in_latin : is_ascii_letter p ≡ true → latin && plain ≡ true = implies_true (is_ascii_letter p) (latin && plain) (is_5 a1 a2 a3 a4 a5 ha) in
    let based = and_r (scalar b) (eqb b 0 || has f ACCENTUATED) hb in
    record {
      flags = and_l (flag_rule f) (ascii_test p f) hf;
      ascii = same_true (has f ASCII) (is_ascii p) (is_1 a1 a2 a3 a4 a5 ha);
      letter = same_true (has f ASCII_ALPHABETIC) (is_ascii_letter p) (is_2 a1 a2 a3 a4 a5 ha);
      graphic = same_true (has f ASCII_GRAPHIC) (is_ascii_graphic p) (is_3 a1 a2 a3 a4 a5 ha);
      digit = same_true (has f ASCII_DIGIT) (is_ascii_digit p) (is_4 a1 a2 a3 a4 a5 ha);
      latin = λ i. and_l latin plain (in_latin i);
      plain = λ i. not-true (has f ACCENTUATED) (and_r latin plain (in_latin i));
      range = eqb-true r (range_of p) hr;
      base = and_l (scalar b) (eqb b 0 || has f ACCENTUATED) hb;
      lower = hl;
      baseless = λ i. eqb-true b 0 (or_l (eqb b 0) (has f ACCENTUATED) based i);
    }

-- ranges up to 5
range_few : (p : ℕ) → range_of p ≤ 5
unfolding range_of
range_few p =
    omega (
      arith,
      bump_small (leb CONTROL_CHARACTERS p),
      bump_small (leb BASIC_LATIN p),
      bump_small (leb LATIN_1_SUPPLEMENT p),
      bump_small (leb LATIN_EXTENDED_A p),
      bump_small (leb LATIN_EXTENDED_B p),
    )

pub entry_range_small : (p : ℕ) → p < BUILTIN_END → (entry_at p).range ≤ LAST_RANGE
entry_range_small p h = let e = (entry_lawful p h).range in let l = range_few p in omega (arith, e, l)

-- "U+0130 has U+0069"
pub lower_0130 : (entry_at 0x130).lower ≡ 0x69
unfolding entry_at lowers
lower_0130 = refl

-- the newline that is fed after every text: WHITESPACE, SEPARATOR and ASCII, of range 1, and itself
pub newline_entry : entry_at NEWLINE ≡ record { flags = WHITESPACE + SEPARATOR + ASCII; range = 1; base = 0; lower = 0 }
unfolding entry_at flag_words range_numbers bases lowers
newline_entry = refl
