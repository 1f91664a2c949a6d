-- The measure's published worked examples, computed by the definition: m, t and the value, as an f64 and as the nearest f32, each by its
-- bits. (MARTHA, MARHTA: 6, 1 and 0.944; DWAYNE, DUANE: 4, 0 and 0.822; DIXON, DICKSONX: 4, 0 and 0.767.)
-- Assumes nothing.
use Prim.Native.Nat.{ℕ}
use mathlib.Core.Path.{◌≡◌, refl}
use mathlib.Core.List.{List, [], ◌∷◌}
use lib.Ieee.{of_bits, of_int, binary32, binary64, round, add, div}
use Rattle.base.specs.First.{seek, first}
use Rattle.f32_nearest.specs.Nearest.{nearest_f32}
use Rattle.cd_jaro_meaning.specs.Jaro.{window, serves, place, takes, matching, picked, differing, matches, out_of_order, transpositions, measure, jaro}
use Rattle.cd_jaro_meaning.specs.Similarity.{similarity}

-- m, t, and the bits of the f64 and of the f32
pub record Worked (layer language : List ℕ) (m t double single : ℕ) : Type 0 where
  pub matched : matches layer language ≡ m
  pub swapped : transpositions layer language ≡ t
  pub value : jaro layer language ≡ of_bits binary64 double
  pub nearest : similarity layer language ≡ of_bits binary32 single

abbrev MARTHA : List ℕ
MARTHA = 77 ∷ 65 ∷ 82 ∷ 84 ∷ 72 ∷ 65 ∷ []

abbrev MARHTA : List ℕ
MARHTA = 77 ∷ 65 ∷ 82 ∷ 72 ∷ 84 ∷ 65 ∷ []

abbrev DWAYNE : List ℕ
DWAYNE = 68 ∷ 87 ∷ 65 ∷ 89 ∷ 78 ∷ 69 ∷ []

abbrev DUANE : List ℕ
DUANE = 68 ∷ 85 ∷ 65 ∷ 78 ∷ 69 ∷ []

abbrev DIXON : List ℕ
DIXON = 68 ∷ 73 ∷ 88 ∷ 79 ∷ 78 ∷ []

abbrev DICKSONX : List ℕ
DICKSONX = 68 ∷ 73 ∷ 67 ∷ 75 ∷ 83 ∷ 79 ∷ 78 ∷ 88 ∷ []

pub worked :
    Worked MARTHA MARHTA 6 1 0x3FEE38E38E38E38F 0x3F71C71C
    × Worked DWAYNE DUANE 4 0 0x3FEA4FA4FA4FA4FB 0x3F527D28
    × Worked DIXON DICKSONX 4 0 0x3FE8888888888888 0x3F444444
unfolding seek first window serves place takes matching picked differing matches out_of_order transpositions measure jaro similarity nearest_f32 of_bits of_int round add div
worked = (
  record { matched = refl; swapped = refl; value = refl; nearest = refl },
  record { matched = refl; swapped = refl; value = refl; nearest = refl },
  record { matched = refl; swapped = refl; value = refl; nearest = refl },
)
