-- The slots of a text being filled, one code point after the other (`Filling`): of the first i code points the k slots stand in the work area, and the
-- slots from k on are those of the code points from i on. Its start, its two steps and its end.
-- Assumes nothing.
use Prim.Native.Nat.{ℕ, zero, suc, ◌+◌, ◌-◌, ◌≤◌, ◌<◌}
use mathlib.Core.Path.{◌≡◌, refl, sym, ap, ◌∙◌}
use mathlib.Core.Bool.{Bool, true, false}
use mathlib.Core.List.{List, [], ◌∷◌}
use native.Mathlib.Numerals.{add-one}
use native.Mathlib.Nat.{not-suc-le-zero, le_of_suc-le-suc}
use native.Mathlib.Omega.{arith}
use lib.ListN.{length, get_or, set, drop, length-drop, drop_of_length-le}
use lib.Seq.{drop-cons, drop-drop, get_or-drop}
use lib.Dec.{eqb}
use Rattle.base.specs.Numbers.{bump}
use Rattle.classes.specs.Lookup.{class_of}
use Rattle.cd_work.specs.Inner.Layout.{letters_start, lacks_start}
use Rattle.cd_work.proofs.Loops.Texting.{Texting, texting_start, texting_size, texting_inside, texting_behind, texting_more, texting_end}
use Rattle.cd_letters.specs.Letters.{count}
use Rattle.cd_taken_meaning.specs.declared.Letter.{Letter}
use Rattle.cd_taken_meaning.specs.Taken.{CAPITAL_I_WITH_DOT, DOT_ABOVE}
use Rattle.cd_taken_meaning.specs.Inner.Area.{slots_of, letter_of, in_slots, ranges_of, lowers_of, filled}
use Rattle.cd_taken_meaning.proofs.Laws.Area.{ranges_length, lowers_length}

-- what stands in a list from k on
module _ (l : List ℕ) (k x : ℕ) (behind : List ℕ) (e : drop k l ≡ x ∷ behind) where
  here : get_or l k 0 ≡ x
  here = ap (λ (i : ℕ). get_or l i 0) (omega arith) ∙ sym (get_or-drop k l 0 0) ∙ ap (λ (z : List ℕ). get_or z 0 0) e

  inside : k < length l
  inside = let n : length l - k ≡ suc (length behind) = sym (length-drop k l) ∙ ap length e in omega arith

  next : drop (k + 1) l ≡ behind
  next = sym (drop-drop 1 k l) ∙ ap (drop 1) e

-- a text with as many slots as code points has no U+0130
none_counted : (x : ℕ) (l : List ℕ) → count x l ≡ 0 → (i : ℕ) → i < length l → eqb (get_or l i 0) x ≡ false
unfolding count
none_counted x [] e i h = absurd (not-suc-le-zero h)
none_counted x (y ∷ l) e zero h = go (eqb y x) e
  where
    go : (t : Bool) → bump t + count x l ≡ 0 → t ≡ false
    go true e = absurd (omega arith)
    go false e = refl
none_counted x (y ∷ l) e (suc i) h = none_counted x l (omega (arith, e)) i (le_of_suc-le-suc h)

pub single : (text : List ℕ) → slots_of text ≡ length text → (i : ℕ) → i < length text → eqb (get_or text i 0) CAPITAL_I_WITH_DOT ≡ false
single text e i h = none_counted CAPITAL_I_WITH_DOT text (omega (arith, e)) i h

module _ (classes text w : List ℕ) where
  abbrev slots : ℕ
  slots = slots_of text

  pub record Filling (v : List ℕ) (k i : ℕ) : Type 0 where
    pub area : Texting slots w (ranges_of classes text) (lowers_of classes text) v k
    pub ranges : drop k (ranges_of classes text) ≡ ranges_of classes (drop i text)
    pub lowers : drop k (lowers_of classes text) ≡ lowers_of classes (drop i text)

  pub filling_start : lacks_start slots ≤ length w → Filling w 0 0
  filling_start z = record { area = texting_start _ _ _ _ z (ranges_length classes text) (lowers_length classes text); ranges = refl; lowers = refl }

  module _ {v : List ℕ} {k i : ℕ} (g : Filling v k i) where
    pub filling_size : length v ≡ length w
    filling_size = texting_size _ _ _ _ g.area

    pub filling_end : length text ≤ i → v ≡ filled classes text w
    unfolding filled ranges_of
    filling_end h =
        let none : drop i text ≡ [] = drop_of_length-le text {i = i} h in
        let e : drop k (ranges_of classes text) ≡ [] = rw none at g.ranges in
        let n : length (ranges_of classes text) - k ≡ 0 = sym (length-drop k (ranges_of classes text)) ∙ ap length e in
        texting_end _ _ _ _ g.area (omega (arith, ranges_length classes text))

    module _ (h : i < length text) {l : Letter} (f : l ≡ letter_of (class_of classes (get_or text i 0))) {start : ℕ} (s : start ≡ letters_start slots) where
      abbrev point : ℕ
      point = get_or text i 0

      front : drop i text ≡ point ∷ drop (i + 1) text
      front = drop-cons text i 0 h ∙ rw (add-one i)

      ranges_on : drop k (ranges_of classes text) ≡ in_slots point l.range l.range (ranges_of classes (drop (i + 1) text))
      unfolding ranges_of
      ranges_on = rw f (g.ranges ∙ rw front)

      lowers_on : drop k (lowers_of classes text) ≡ in_slots point l.lower DOT_ABOVE (lowers_of classes (drop (i + 1) text))
      unfolding lowers_of
      lowers_on = rw f (g.lowers ∙ rw front)

      below : k < slots
      below = omega (arith, inside (ranges_of classes text) k _ _ ranges_on, ranges_length classes text)

      pub filling_inside : k < length v
      filling_inside = texting_inside _ _ _ _ g.area below s

      pub filling_behind : start + k < length v
      filling_behind = texting_behind _ _ _ _ g.area below s

      first_area : Texting slots w (ranges_of classes text) (lowers_of classes text) (set (set v k l.range) (start + k) l.lower) (k + 1)
      first_area =
          texting_more _ _ _ _ g.area below s (sym (here (ranges_of classes text) k _ _ ranges_on)) (sym (here (lowers_of classes text) k _ _ lowers_on))

      -- a code point with one slot
      pub filling_one : eqb point CAPITAL_I_WITH_DOT ≡ false → Filling (set (set v k l.range) (start + k) l.lower) (k + 1) (i + 1)
      filling_one d =
          record {
            area = first_area;
            ranges = next (ranges_of classes text) k _ _ (rw d at ranges_on);
            lowers = next (lowers_of classes text) k _ _ (rw d at lowers_on);
          }

      -- U+0130, with two
      module _ (d : eqb point CAPITAL_I_WITH_DOT ≡ true) where
        ranges_two : drop (k + 1) (ranges_of classes text) ≡ l.range ∷ ranges_of classes (drop (i + 1) text)
        ranges_two = next (ranges_of classes text) k _ _ (rw d at ranges_on)

        lowers_two : drop (k + 1) (lowers_of classes text) ≡ DOT_ABOVE ∷ lowers_of classes (drop (i + 1) text)
        lowers_two = next (lowers_of classes text) k _ _ (rw d at lowers_on)

        below_two : k + 1 < slots
        below_two = omega (arith, inside (ranges_of classes text) (k + 1) _ _ ranges_two, ranges_length classes text)

        pub filling_behind_two : start + (k + 1) < length v
        filling_behind_two = omega (arith, texting_behind _ _ _ _ first_area below_two s, texting_size _ _ _ _ first_area, filling_size)

        pub filling_two : Filling (set (set (set (set v k l.range) (start + k) l.lower) (k + 1) l.range) (start + (k + 1)) DOT_ABOVE) (k + 2) (i + 1)
        filling_two =
            let one : k + 1 + 1 ≡ k + 2 = omega arith in
            record {
              area =
                  rw one at (texting_more _ _ _ _ first_area below_two s (sym (here (ranges_of classes text) (k + 1) _ _ ranges_two))
                  (sym (here (lowers_of classes text) (k + 1) _ _ lowers_two)));
              ranges = rw one at (next (ranges_of classes text) (k + 1) _ _ ranges_two);
              lowers = rw one at (next (lowers_of classes text) (k + 1) _ _ lowers_two);
            }
