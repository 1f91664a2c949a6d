-- The flag rule's sentences as the code tests them, on the flags that a mask leaves: each is the sentence itself, since the two agree however
-- the flags are set, and all the ways are tried.
-- Assumes nothing.
use Prim.Native.Nat.{ℕ, ◌+◌, ◌<◌, ◌≤◌}
use mathlib.Core.Path.{◌≡◌, refl, ap, ◌∙◌}
use mathlib.Core.List.{List, [], ◌∷◌}
use mathlib.Core.Bool.{Bool, true, ◌&&◌, ◌||◌, not}
use native.Mathlib.Omega.{arith}
use lib.Bits.{bit_and, and_le_l}
use lib.Dec.{eqb, leb}
use lib.ListN.{get_or}
use Rattle.base.specs.Flags.{has, WHITESPACE, ALPHABETIC}
use Rattle.base.specs.Numbers.{bump}
use Rattle.base.specs.Tests.{same, implies}
use Rattle.base.specs.FlagRule.{cases_rule, kinds_rule, white_rule, scripts_rule}
use Rattle.class_records.specs.Records.{no_ascii}
use Rattle.class_records.proofs.Laws.Masks.{flags_at, total, masked, at_each, same_is}

-- the flag at a place of a list of them, and 1 where it is set
abbrev at : List Bool → ℕ → Bool
at bs i = get_or bs i true

abbrev one : List Bool → ℕ → ℕ
one bs i = bump (at bs i)

-- at most one bit of x is set, where `top` has as many bits as x may have, all of them set: x + top is 1 below x where x is not 0, past those bits
abbrev lone : ℕ → ℕ → Bool
lone top x = eqb (bit_and x (x + top)) 0

-- a mask's part is no larger than the mask
pub part_fits : (m top f w : ℕ) → m + top < w → bit_and m f + top < w
part_fits m top f w h = below (bit_and m f) (and_le_l m f)
  where
    below : (x : ℕ) → x ≤ m → x + top < w
    below x l = omega arith

-- NUMERIC, ALPHABETIC, UNPRINTABLE and WHITESPACE
abbrev KINDS : List ℕ
KINDS = 23 ∷ 13 ∷ 1 ∷ 0 ∷ []

abbrev kinds_tried : List Bool → Bool
kinds_tried bs = same (lone 0xFFFFFF (total KINDS bs)) (leb (one bs 1 + one bs 0 + one bs 3 + one bs 2) 1)

pub kinds : (f : ℕ) → lone 0xFFFFFF (bit_and 0x802003 f) ≡ kinds_rule f
unfolding kinds_rule
kinds f = ap (lone 0xFFFFFF) (masked KINDS f refl) ∙ same_is _ _ (at_each 4 kinds_tried refl (flags_at KINDS f) refl)

-- THAI, HIRAGANA, KATAKANA, HANGUL, CJK and LATIN
abbrev SCRIPTS : List ℕ
SCRIPTS = 19 ∷ 18 ∷ 17 ∷ 16 ∷ 15 ∷ 12 ∷ []

abbrev scripts_tried : List Bool → Bool
scripts_tried bs =
    same (lone 0xFFFFF (total SCRIPTS bs)) (leb (one bs 5 + one bs 4 + one bs 3 + one bs 2 + one bs 1 + one bs 0) 1)

pub scripts : (f : ℕ) → lone 0xFFFFF (bit_and 0xF9000 f) ≡ scripts_rule f
unfolding scripts_rule
scripts f = ap (lone 0xFFFFF) (masked SCRIPTS f refl) ∙ same_is _ _ (at_each 6 scripts_tried refl (flags_at SCRIPTS f) refl)

-- UPPERCASE, LOWERCASE and CASE_VARIABLE, and ALPHABETIC
abbrev CASES : List ℕ
CASES = 22 ∷ 21 ∷ 20 ∷ []

abbrev cases_test : ℕ → Bool → Bool
cases_test x a = eqb x 0 || ((eqb x 0x300000 || eqb x 0x500000) && a)

abbrev cases_tried : List Bool → Bool
cases_tried bs =
    same (cases_test (total CASES bs) (at bs 3))
    (not (at bs 0 && at bs 1) && same (at bs 2) (at bs 0 || at bs 1) && implies (at bs 2) (at bs 3))

pub cases : (f : ℕ) → cases_test (bit_and 0x700000 f) (has f ALPHABETIC) ≡ cases_rule f
unfolding cases_rule
cases f =
    ap (λ (x : ℕ). cases_test x (has f ALPHABETIC)) (masked CASES f refl)
    ∙ same_is _ _ (at_each 4 cases_tried refl (has f 0x400000 ∷ has f 0x200000 ∷ has f 0x100000 ∷ has f ALPHABETIC ∷ []) refl)

-- SEPARATOR, WEIRD_SAFE, COMMON_SAFE and EMOTICON, and WHITESPACE
abbrev WHITE : List ℕ
WHITE = 7 ∷ 5 ∷ 4 ∷ 3 ∷ []

abbrev white_test : ℕ → Bool → Bool
white_test x w = not w || eqb x 0x80

abbrev white_tried : List Bool → Bool
white_tried bs =
    same (white_test (total WHITE bs) (at bs 4))
    (implies (at bs 4) (at bs 0 && not (at bs 2) && not (at bs 1) && not (at bs 3)))

pub white : (f : ℕ) → white_test (bit_and 0xB8 f) (has f WHITESPACE) ≡ white_rule f
unfolding white_rule
white f =
    ap (λ (x : ℕ). white_test x (has f WHITESPACE)) (masked WHITE f refl)
    ∙ same_is _ _ (at_each 5 white_tried refl (has f 0x80 ∷ has f 0x20 ∷ has f 0x10 ∷ has f 0x8 ∷ has f WHITESPACE ∷ []) refl)

-- ASCII_DIGIT, ASCII_GRAPHIC, ASCII_ALPHABETIC and ASCII
abbrev ASCIIS : List ℕ
ASCIIS = 11 ∷ 10 ∷ 9 ∷ 8 ∷ []

abbrev ascii_tried : List Bool → Bool
ascii_tried bs = same (eqb (total ASCIIS bs) 0) (not (at bs 3) && not (at bs 2) && not (at bs 1) && not (at bs 0))

pub ascii : (f : ℕ) → eqb (bit_and 0xF00 f) 0 ≡ no_ascii f
unfolding no_ascii
ascii f =
    ap (λ (x : ℕ). eqb x 0) (masked ASCIIS f refl)
    ∙ same_is _ _ (at_each 4 ascii_tried refl (flags_at ASCIIS f) refl)
