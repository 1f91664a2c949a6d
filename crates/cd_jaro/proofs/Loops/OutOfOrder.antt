-- Counting the letters that are out of order, as `out_of_order` walks the language: j letters of it and k taken ones are passed.
-- Assumes nothing.
use Prim.Native.Nat.{ℕ, ◌+◌, ◌≤◌, ◌<◌}
use mathlib.Core.Path.{◌≡◌, refl, ap}
use mathlib.Core.Bool.{Bool, true, false, not}
use mathlib.Core.List.{List, [], ◌∷◌}
use native.Mathlib.Numerals.{add-one}
use native.Mathlib.Omega.{arith}
use lib.ListN.{length, get_or, drop, drop_of_length-le}
use lib.Seq.{drop-cons}
use lib.Dec.{eqb}
use Rattle.base.specs.Inner.Numbers.{One}
use Rattle.base.specs.Numbers.{bump}
use Rattle.cd_jaro_meaning.specs.Jaro.{picked, differing}

module _ (language : List ℕ) (taken : List Bool) (letters : List ℕ) where
  pub record Counting (out k j : ℕ) : Type 0 where
    pub below : j ≤ length language
    pub few : out ≤ j
    pub some : k ≤ j
    pub sum : out + differing (drop k letters) (picked (drop j language) (drop j taken)) ≡ differing letters (picked language taken)
    pub rest : k + length (picked (drop j language) (drop j taken)) ≡ length letters

  module _ {out k j : ℕ} (g : Counting out k j) (h : j < length language) (l : length language ≡ length taken) where
    skip : get_or taken j false ≡ false → picked (drop j language) (drop j taken) ≡ picked (drop (j + 1) language) (drop (j + 1) taken)
    unfolding picked
    skip e =
        let l' : j < length taken = omega arith in
        rw (drop-cons language j 0 h, drop-cons taken j false l', e, add-one)

    pick : get_or taken j false ≡ true → picked (drop j language) (drop j taken) ≡ get_or language j 0 ∷ picked (drop (j + 1) language) (drop (j + 1) taken)
    unfolding picked
    pick e =
        let l' : j < length taken = omega arith in
        rw (drop-cons language j 0 h, drop-cons taken j false l', e, add-one)

    pub counting_skip : get_or taken j false ≡ false → Counting out k (j + 1)
    counting_skip e =
        record {
          below = omega arith;
          few = omega (arith, g.few);
          some = omega (arith, g.some);
          sum = rw (skip e) at g.sum;
          rest = rw (skip e) at g.rest;
        }

    module _ (e : get_or taken j false ≡ true) where
      pub counting_room : k < length letters
      counting_room = omega (arith, g.rest, ap length (pick e))

      counts : differing (drop k letters) (get_or language j 0 ∷ picked (drop (j + 1) language) (drop (j + 1) taken))
          ≡ bump (not (eqb (get_or letters k 0) (get_or language j 0))) + differing (drop (k + 1) letters) (picked (drop (j + 1) language) (drop (j + 1) taken))
      unfolding differing
      counts = rw (drop-cons letters k 0 counting_room, add-one k)

      pub counting_pick : {o : ℕ} → One (not (eqb (get_or letters k 0) (get_or language j 0))) o → Counting (out + o) (k + 1) (j + 1)
      counting_pick {o} p =
          record {
            below = omega arith;
            few = omega (arith, g.few, p.small);
            some = omega (arith, g.some);
            sum = omega (arith, g.sum, ap (differing (drop k letters)) (pick e), counts, p.is);
            rest = omega (arith, g.rest, ap length (pick e));
          }

  pub counting_end : {out k j : ℕ} → Counting out k j → length language ≤ j → out ≡ differing letters (picked language taken)
  unfolding picked differing
  counting_end {out} {k} {j} g h =
      let z : differing (drop k letters) (picked (drop j language) (drop j taken)) ≡ 0 = rw (drop_of_length-le language h) (none (drop k letters)) in
      omega (arith, g.sum)
    where
      none : (xs : List ℕ) → differing xs [] ≡ 0
      none [] = refl
      none (x ∷ xs) = refl
