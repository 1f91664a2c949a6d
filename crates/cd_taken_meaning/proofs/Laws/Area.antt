-- Laws of what the work area holds: `split_taken`: its slots' layers are those of the taken characters of 01 and 02; `ranges_below`: each range is one
-- that the pair table knows; `ranges_length`, `lowers_length`; `slots_few`: at most two slots for each code point, so that `slots_room`: 02's words of
-- work for each are room for the slots; `filled_size`, `_ranges`, `_lowers`, `_back`: the filled area part by part; `lowers_undotted`: one letter at
-- most for each code point is another than U+0307.
-- Assumes nothing.
use Rattle.std.specs.Prelude.{Option, Some, None}
use Prim.Native.Nat.{ℕ, zero, suc, ◌+◌, ◌*◌, ◌≤◌}
use mathlib.Core.Path.{◌≡◌, refl, sym, ap, ◌∙◌}
use mathlib.Core.Bool.{Bool, true, false, cond, not, ◌&&◌}
use mathlib.Core.List.{List, [], ◌∷◌, ◌++◌}
use native.Mathlib.Omega.{arith}
use lib.ListN.{length, get_or, drop}
use lib.Dec.{eqb}
use Rattle.base.specs.Flags.{has, CHAR_ALPHABETIC}
use Rattle.base.specs.Limits.{LAST_RANGE, LONGEST_RANKED, WORK_PER_POINT}
use Rattle.base.specs.Numbers.{bump}
use Rattle.base.proofs.Laws.Tests.{cond_both}
use Rattle.class_records.specs.Records.{good_table}
use Rattle.classes.specs.declared.Class.{Class}
use Rattle.classes.specs.Lookup.{class_of}
use Rattle.classes.proofs.Laws.Lookup.{class_lawful}
use Rattle.cd_work.specs.Inner.Layout.{lacks_start}
use Rattle.cd_work.specs.Inner.Parts.{Room, numbers_in, letters_in}
use Rattle.cd_work.proofs.Laws.Text.{text_size, text_numbers, text_letters, text_back}
use Rattle.cd_layers.specs.Layers.{Layer, Taken, joined, split_from, alpha_unicode_split}
use Rattle.cd_layers.proofs.Laws.Numbers.{alone, taken_of}
use Rattle.cd_layers.proofs.Laws.Joined.{joined_twice}
use Rattle.cd_layers.specs.Inner.Numbers.{Below}
use Rattle.cd_letters.specs.Letters.{count}
use Rattle.cd_letters.proofs.Laws.Letters.{count_few}
use Rattle.cd_taken_meaning.specs.Taken.{CAPITAL_I_WITH_DOT, DOT_ABOVE, is_taken, lowered, taken_letters, taken_chars}
use Rattle.cd_taken_meaning.specs.Inner.Area.{slots_of, letter_of, in_slots, ranges_of, lowers_of, filled}

-- by what the lookup finds
pub letter_none : {f : Option Class} → f ≡ None → letter_of f ≡ record { range = 0; lower = 0 }
unfolding letter_of
letter_none e = rw e

pub letter_at : {f : Option Class} {c : Class} → f ≡ Some c
    → letter_of f ≡ record { range = cond (is_taken c) c.range 0; lower = cond (is_taken c) c.lower 0 }
unfolding letter_of
letter_at e = rw e

-- how many slots the code point p and those behind it have
slots_length : (p x y : ℕ) (l text : List ℕ) → length l ≡ slots_of text → length (in_slots p x y l) ≡ slots_of (p ∷ text)
unfolding count
slots_length p x y l text e = go (eqb p CAPITAL_I_WITH_DOT)
  where
    go : (d : Bool) → suc (length (cond d (y ∷ l) l)) ≡ suc (length text) + (bump d + count CAPITAL_I_WITH_DOT text)
    go true = omega (arith, e)
    go false = omega (arith, e)

module _ (classes : List ℕ) where
  pub ranges_length : (text : List ℕ) → length (ranges_of classes text) ≡ slots_of text
  unfolding ranges_of count
  ranges_length [] = refl
  ranges_length (p ∷ text) =
      slots_length p (letter_of (class_of classes p)).range (letter_of (class_of classes p)).range (ranges_of classes text) text (ranges_length text)

  pub lowers_length : (text : List ℕ) → length (lowers_of classes text) ≡ slots_of text
  unfolding lowers_of count
  lowers_length [] = refl
  lowers_length (p ∷ text) = slots_length p (letter_of (class_of classes p)).lower DOT_ABOVE (lowers_of classes text) text (lowers_length text)

  -- each is a range
  letter_below : good_table classes ≡ true → (p : ℕ) (f : Option Class) → class_of classes p ≡ f → (letter_of f).range ≤ LAST_RANGE
  unfolding letter_of
  letter_below g p (Some c) e =
      cond_both (λ (b : ℕ). b ≤ LAST_RANGE) (is_taken c) c.range 0 (class_lawful classes g p c e).range (omega arith)
  letter_below g p None e = omega arith

  below_more : (p x : ℕ) (l : List ℕ) → x ≤ LAST_RANGE → Below l → Below (in_slots p x x l)
  below_more p x l h b zero = h
  below_more p x l h b (suc j) = go (eqb p CAPITAL_I_WITH_DOT) j
    where
      go : (d : Bool) (j : ℕ) → get_or (cond d (x ∷ l) l) j 0 ≤ LAST_RANGE
      go true zero = h
      go true (suc j) = b j
      go false j = b j

  pub ranges_below : (text : List ℕ) → good_table classes ≡ true → Below (ranges_of classes text)
  unfolding ranges_of
  ranges_below [] g j = omega arith
  ranges_below (p ∷ text) g j =
      below_more p (letter_of (class_of classes p)).range (ranges_of classes text) (letter_below g p (class_of classes p) refl) (ranges_below text g) j

  -- no more letters than code points are others than U+0307
  pub lowers_undotted : (text : List ℕ) → slots_of text ≤ length text + count DOT_ABOVE (lowers_of classes text)
  unfolding lowers_of count
  lowers_undotted [] = omega arith
  lowers_undotted (p ∷ text) = go (eqb p CAPITAL_I_WITH_DOT) (lowers_undotted text)
    where
      go : (d : Bool) → slots_of text ≤ length text + count DOT_ABOVE (lowers_of classes text)
          → suc (length text) + (bump d + count CAPITAL_I_WITH_DOT text)
          ≤ suc (length text) + (bump (eqb (letter_of (class_of classes p)).lower DOT_ABOVE)
          + count DOT_ABOVE (cond d (DOT_ABOVE ∷ lowers_of classes text) (lowers_of classes text)))
      go true i = omega arith
      go false i = omega arith

-- ---- the layers
module _ (pairs classes : List ℕ) (good : good_table classes ≡ true) where
  -- a slot of no range joins nothing; another joins with its letter
  slot : (b x : ℕ) (bs xs : List ℕ) (ys : List Layer) → split_from pairs ys (taken_of (b ∷ bs) (alone (x ∷ xs)))
      ≡ cond (eqb b 0) (split_from pairs ys (taken_of bs (alone xs))) (split_from pairs (joined pairs ys (record { range = b; letters = x ∷ [] })) (taken_of bs (alone xs)))
  unfolding taken_of split_from
  slot b x bs xs ys = go (eqb b 0)
    where
      go : (z : Bool) → split_from pairs ys (cond z (taken_of bs (alone xs)) (record { range = b; letters = x ∷ [] } ∷ taken_of bs (alone xs)))
          ≡ cond z (split_from pairs ys (taken_of bs (alone xs))) (split_from pairs (joined pairs ys (record { range = b; letters = x ∷ [] })) (taken_of bs (alone xs)))
      go true = refl
      go false = refl

  abbrev Rest : List Taken → List ℕ → List ℕ → Type 0
  Rest cs bs xs = (ys : List Layer) → split_from pairs ys cs ≡ split_from pairs ys (taken_of bs (alone xs))

  -- what is not taken
  none_taken : (p x : ℕ) (cs : List Taken) (bs xs : List ℕ) → Rest cs bs xs → Rest cs (in_slots p 0 0 bs) (in_slots p x DOT_ABOVE xs)
  none_taken p x cs bs xs rest ys = go (eqb p CAPITAL_I_WITH_DOT)
    where
      go : (d : Bool) → split_from pairs ys cs ≡ split_from pairs ys (taken_of (0 ∷ cond d (0 ∷ bs) bs) (alone (x ∷ cond d (DOT_ABOVE ∷ xs) xs)))
      go true = rest ys ∙ sym (slot 0 x (0 ∷ bs) (DOT_ABOVE ∷ xs) ys ∙ slot 0 DOT_ABOVE bs xs ys)
      go false = rest ys ∙ sym (slot 0 x bs xs ys)

  -- what is taken: its letters, all at once or one after the other
  one_taken : (p b x : ℕ) → eqb b 0 ≡ false → (cs : List Taken) (bs xs : List ℕ) → Rest cs bs xs
      → Rest (record { range = b; letters = x ∷ cond (eqb p CAPITAL_I_WITH_DOT) (DOT_ABOVE ∷ []) [] } ∷ cs) (in_slots p b b bs) (in_slots p x DOT_ABOVE xs)
  unfolding split_from
  one_taken p b x n cs bs xs rest ys = go (eqb p CAPITAL_I_WITH_DOT)
    where
      go : (d : Bool) → split_from pairs (joined pairs ys (record { range = b; letters = x ∷ cond d (DOT_ABOVE ∷ []) [] })) cs
          ≡ split_from pairs ys (taken_of (b ∷ cond d (b ∷ bs) bs) (alone (x ∷ cond d (DOT_ABOVE ∷ xs) xs)))
      go true =
          rest (joined pairs ys (record { range = b; letters = x ∷ DOT_ABOVE ∷ [] }))
          ∙ ap (λ (l : List Layer). split_from pairs l (taken_of bs (alone xs))) (sym (joined_twice pairs ys b (x ∷ []) (DOT_ABOVE ∷ [])))
          ∙ sym (slot b x (b ∷ bs) (DOT_ABOVE ∷ xs) ys ∙ rw n (slot b DOT_ABOVE bs xs (joined pairs ys (record { range = b; letters = x ∷ [] })) ∙ rw n))
      go false = rest (joined pairs ys (record { range = b; letters = x ∷ [] })) ∙ sym (slot b x bs xs ys ∙ rw n)

  one_more : (p : ℕ) (f : Option Class) → class_of classes p ≡ f → (cs : List Taken) (bs xs : List ℕ) → Rest cs bs xs
      → Rest (taken_letters f ++ cs) (in_slots p (letter_of f).range (letter_of f).range bs) (in_slots p (letter_of f).lower DOT_ABOVE xs)
  unfolding taken_letters letter_of lowered is_taken
  one_more p (Some c) e cs bs xs rest = go (has c.flags CHAR_ALPHABETIC) (eqb c.range 0) refl
    where
      go : (a z : Bool) → eqb c.range 0 ≡ z
          → Rest (cond (a && not z) (record { range = c.range; letters = c.lower ∷ cond (eqb c.point CAPITAL_I_WITH_DOT) (DOT_ABOVE ∷ []) [] } ∷ []) [] ++ cs)
          (in_slots p (cond (a && not z) c.range 0) (cond (a && not z) c.range 0) bs)
          (in_slots p (cond (a && not z) c.lower 0) DOT_ABOVE xs)
      go true true n = none_taken p 0 cs bs xs rest
      go true false n = rw (class_lawful classes good p c e).point (one_taken p c.range c.lower n cs bs xs rest)
      go false z n = none_taken p 0 cs bs xs rest
  one_more p None e cs bs xs rest = none_taken p 0 cs bs xs rest

  all_taken : (text : List ℕ) → Rest (taken_chars classes text) (ranges_of classes text) (lowers_of classes text)
  unfolding taken_chars ranges_of lowers_of taken_of
  all_taken [] ys = refl
  all_taken (p ∷ text) ys =
      one_more p (class_of classes p) refl (taken_chars classes text) (ranges_of classes text) (lowers_of classes text) (all_taken text) ys

  -- the slots' layers are those of the taken characters, where U+0130 brings its two letters at once
  pub split_taken : (text : List ℕ)
      → alpha_unicode_split pairs (taken_chars classes text) ≡ alpha_unicode_split pairs (taken_of (ranges_of classes text) (alone (lowers_of classes text)))
  unfolding alpha_unicode_split
  split_taken text = all_taken text []

-- ---- room for the slots: two at most for each code point, of as many words as 02 lends for it
pub slots_few : (text : List ℕ) → slots_of text ≤ 2 * length text
slots_few text = omega (arith, count_few CAPITAL_I_WITH_DOT text)

pub slots_room : (text w : List ℕ) → length text ≤ LONGEST_RANKED → WORK_PER_POINT * length text ≤ length w → Room (slots_of text) w
slots_room text w h k = record { few = omega (arith, h, slots_few text); wide = omega (arith, k, slots_few text) }

module _ (classes text w : List ℕ) (z : lacks_start (slots_of text) ≤ length w) where
  ranges_fit : length (ranges_of classes text) ≤ slots_of text
  ranges_fit = omega (arith, ranges_length classes text)

  lowers_fit : length (lowers_of classes text) ≤ slots_of text
  lowers_fit = omega (arith, lowers_length classes text)

  pub filled_ranges : numbers_in (slots_of text) (slots_of text) (filled classes text w) ≡ ranges_of classes text
  unfolding filled
  filled_ranges =
      rw (ranges_length classes text) at (text_numbers (slots_of text) w (ranges_of classes text) (lowers_of classes text) z ranges_fit lowers_fit)

  pub filled_lowers : letters_in (slots_of text) (slots_of text) (filled classes text w) ≡ lowers_of classes text
  unfolding filled
  filled_lowers =
      rw (lowers_length classes text) at (text_letters (slots_of text) w (ranges_of classes text) (lowers_of classes text) z ranges_fit lowers_fit)

  pub filled_back : (k : ℕ) → lacks_start (slots_of text) ≤ k → drop k (filled classes text w) ≡ drop k w
  unfolding filled
  filled_back = text_back (slots_of text) w (ranges_of classes text) (lowers_of classes text) z ranges_fit lowers_fit

  pub filled_size : length (filled classes text w) ≡ length w
  unfolding filled
  filled_size = text_size (slots_of text) w (ranges_of classes text) (lowers_of classes text) z ranges_fit lowers_fit
