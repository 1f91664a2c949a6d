-- What later rooms know of a similarity (`similarity_good`): it is an f32, finite, no NaN and not negative (`Plain`), and +0 or above 1/6
-- and at most 1; and the measure is one that `nearest_f32` takes (`jaro_narrowable`), so no NaN. 149 is binary32's `low`.
-- Assumes nothing.
use Prim.Native.Nat.{ℕ, ◌*◌, ◌^◌, ◌≤◌, ◌<◌}
use mathlib.Core.Path.{◌≡◌, refl}
use mathlib.Core.Logic.{inl, inr}
use mathlib.Core.Bool.{false}
use mathlib.Core.List.{List}
use native.Mathlib.Omega.{arith}
use lib.ListN.{length}
use lib.Dec.{lit<}
use lib.Pow.{pow_pos}
use lib.Ieee.{Float, binary32, binary64, round, fits}
use lib.Ieee.Bits.{is_true}
use lib.Ieee.Order.{le_of_values}
use lib.Ieee.Fits.{round-fits}
use Rattle.base.specs.Inner.Limits.{MOST_LETTERS}
use Rattle.base.specs.Limits.{LANGUAGE_LETTERS}
use Rattle.ratio.proofs.Laws.Finite.{plain_of}
use Rattle.f32_nearest.specs.Nearest.{nearest_f32}
use Rattle.f32_nearest.specs.Inner.Nearest.{Narrowable, NOUGHT, EIGHTH, ONE}
use Rattle.f32_nearest.proofs.Laws.Nearest.{nearest_is}
use Rattle.cd_jaro_meaning.specs.Jaro.{jaro}
use Rattle.cd_jaro_meaning.proofs.Laws.Held.{Held, exact, held}
use Rattle.cd_jaro_meaning.proofs.Laws.Bounds.{jaro_bounds}
use Rattle.cd_jaro_meaning.specs.Similarity.{similarity}
use Rattle.cd_jaro_meaning.specs.Inner.Similarity.{UNITS, Good}

-- over a variable L for 2 ^ 1074 and 2 ^ 149
eighth : (L p : ℕ) → 43 * L ≤ p * 256 → 1 * L ≤ p * 8
eighth L p h = omega arith

sixth : (L p : ℕ) → 0 < L → 43 * L ≤ p * 256 → L < 6 * p
sixth L p z h = omega arith

once : (L p : ℕ) → p * 1 ≤ 1 * L → p ≤ L
once L p h = omega arith

module _ (layer language : List ℕ) (h : length layer ≤ MOST_LETTERS) (k : length language ≤ LANGUAGE_LETTERS) where
  pub jaro_narrowable : Narrowable (jaro layer language)
  jaro_narrowable = elim (jaro_bounds layer language h k) [
    | inl e ↦ inl e
    | inr g ↦ inr (
      le_of_values EIGHTH (jaro layer language) 1 8 g.parts (2 ^ 1074) (lit< tt) (pow_pos 1074) (refl, refl) g.value (eighth (2 ^ 1074) g.parts g.least),
      le_of_values (jaro layer language) ONE g.parts (2 ^ 1074) 1 1 (pow_pos 1074) (lit< tt) g.value (refl, refl) g.most,
    )
  ]

good_nought : Good NOUGHT
unfolding fits
good_nought = record { single = refl; plain = plain_of NOUGHT 0 (refl, refl); range = inl refl }

nearest_nought : nearest_f32 NOUGHT ≡ NOUGHT
unfolding nearest_f32 round
nearest_nought = refl

nearest_good : {x : Float} → Held binary64 x 43 256 1 1 → Good (nearest_f32 x)
nearest_good {x} g =
    let e : nearest_f32 x ≡ round binary32 false g.parts (2 ^ 1074) = nearest_is x g.parts (2 ^ 1074) (pow_pos 1074) g.value in
    let k : Held binary32 (round binary32 false g.parts (2 ^ 1074)) 43 256 1 1 =
    held binary32 g.parts (2 ^ 1074) (pow_pos 1074) (exact binary32 43 8 141 (lit< tt) (lit< tt) refl) (exact binary32 1 0 149 (lit< tt) (lit< tt) refl)
    g.least g.most in
    rw e
    (record {
      single = is_true (fits binary32 _) (round-fits binary32 false g.parts (2 ^ 1074));
      plain = plain_of (round binary32 false g.parts (2 ^ 1074)) k.parts k.value;
      range = inr (record {
        parts = k.parts;
        value = k.value;
        above = sixth UNITS k.parts (pow_pos 149) k.least;
        most = once UNITS k.parts k.most;
      });
    })

pub similarity_good : (layer language : List ℕ) → length layer ≤ MOST_LETTERS → length language ≤ LANGUAGE_LETTERS → Good (similarity layer language)
unfolding similarity
similarity_good layer language h k = elim (jaro_bounds layer language h k) [
  | inl e ↦ rw (e, nearest_nought) good_nought
  | inr g ↦ nearest_good g
]
