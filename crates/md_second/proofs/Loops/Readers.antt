-- The two readers under way. In a word (`Wording`) the definitions' states after i characters are the words that are closed, the word that is being read, and
-- archaic case. In a gap (`Gapping`) the first character has closed the word, and the others find none. A reader that hands over has read at least one
-- character, since it was called with one of its own kind.
-- Assumes nothing.
use Prim.Native.Nat.{ℕ, ◌+◌, ◌≤◌, ◌<◌}
use mathlib.Core.Path.{◌≡◌, refl, ap, ◌∙◌}
use mathlib.Core.Bool.{true, false}
use mathlib.Core.List.{List}
use native.Mathlib.Numerals.{add-one}
use native.Mathlib.Omega.{arith}
use lib.ListN.{get_or}
use Rattle.md_words.specs.declared.super_weird_word.SuperWeirdWord.{SuperWeirdWord}
use Rattle.md_words.specs.SuperWeirdWord as weird_words
use Rattle.md_words.specs.ArchaicUpperLower as archaic
use Rattle.md_words.proofs.Laws.SuperWeirdWord as words_laws
use Rattle.md_words.proofs.Laws.ArchaicUpperLower as archaic_laws
use Rattle.md_second.specs.declared.readers.Words.{Words}
use Rattle.md_second.specs.declared.readers.Word.{Word}
use Rattle.md_second.specs.declared.readers.Case.{Case}
use Rattle.md_second.specs.declared.readers.Reading.{Reading}
use Rattle.md_second.specs.Inner.After.{seen, words_after, archaic_after}
use Rattle.md_second.specs.Inner.Lists.{ROOM, Fits}
use Rattle.md_second.specs.Inner.Reading.{no_word, no_words, weird, is_gap, entered, WordRoom, WordsRoom, archaic_of, cased, CaseRoom, shut, unread, ToWord, ToGap}
use Rattle.md_second.proofs.Laws.Reading.{words_fresh, words_within, archaic_within, word_feed, gap_feed, case_feed, shut_empty}

-- what a reader hands over or brings back
abbrev pub reading_of : Words → Case → Reading
reading_of t c = record { words = t; case = c }

module _ (flags : List ℕ) where
  words_more : (i : ℕ) (s : SuperWeirdWord) → words_after flags i ≡ s → words_after flags (i + 1) ≡ weird_words.feed s (seen 0 (get_or flags i 0) 0 0)
  unfolding words_after
  words_more i s e = rw (add-one i, ← e)

  case_more : (i : ℕ) (c : Case) → archaic_after flags i ≡ archaic_of i c → archaic_after flags (i + 1) ≡ archaic_of (i + 1) (cased c (get_or flags i 0))
  unfolding archaic_after
  case_more i c e = ap (archaic_after flags) (add-one i) ∙ ap (λ s. archaic.feed s (seen 0 (get_or flags i 0) 0 0)) e ∙ case_feed i c (get_or flags i 0)

  case_within : (i : ℕ) (c : Case) → archaic_after flags i ≡ archaic_of i c → archaic_laws.Within i (archaic_of i c)
  case_within i c e = rw (← e) (archaic_within flags i)

  case_room : (i : ℕ) (c : Case) → archaic_laws.Within i (archaic_of i c) → i ≤ ROOM → CaseRoom c
  case_room i c w h = record { since = omega (arith, w.total); run = omega (arith, w.run, w.total); total = omega (arith, w.total) }

  -- ---- nothing was read
  pub to_word : (n : ℕ) (s : Reading) → s ≡ unread → Fits flags n → 0 < n → is_gap (get_or flags 0 0) ≡ false → ToWord flags n 0 s
  unfolding words_after archaic_after
  to_word n s e f h k = record { fits = f; below = h; kind = k; words = rw e refl; case = rw e refl }

  pub to_gap : (n : ℕ) (s : Reading) → s ≡ unread → Fits flags n → 0 < n → is_gap (get_or flags 0 0) ≡ true → ToGap flags n 0 s
  unfolding words_after archaic_after
  to_gap n s e f h k = record { fits = f; below = h; kind = k; words = rw e (shut_empty no_words); case = rw e refl }

  -- ---- in a word
  module _ (n at : ℕ) where
    pub record Wording (t : Words) (w : Word) (c : Case) (i : ℕ) : Type 0 where
      pub fits : Fits flags n
      pub kind : is_gap (get_or flags at 0) ≡ false
      pub past : at ≤ i
      pub below : i ≤ n
      pub words : words_after flags i ≡ weird t w
      pub case : archaic_after flags i ≡ archaic_of i c

    module _ {t : Words} {w : Word} {c : Case} {i : ℕ} (g : Wording t w c i) where
      wording_within : words_laws.Within i (weird t w)
      wording_within = rw (← g.words) (words_within flags i)

      pub wording_room : WordRoom w
      wording_room =
          let k = wording_within in
          let h = g.fits.room in
          record {
            length = omega (arith, g.below, k.characters);
            accents = omega (arith, g.below, k.characters, k.accents);
            uppercase = omega (arith, g.below, k.characters, k.uppercase);
          }

      pub wording_words : WordsRoom t
      wording_words =
          let k = wording_within in
          let h = g.fits.room in
          record {
            characters = omega (arith, g.below, k.characters);
            words = omega (arith, g.below, k.words);
            foreign = omega (arith, g.below, k.words, k.foreign);
            spoilt = omega (arith, g.below, k.characters, k.spoilt);
          }

      pub wording_case : CaseRoom c
      wording_case = case_room i c (case_within i c g.case) (omega (arith, g.below, g.fits.room))

      -- a character of the word
      pub wording_more : {v : Word} {d : Case} → i < n → is_gap (get_or flags i 0) ≡ false → v ≡ entered w (get_or flags i 0) → d ≡ cased c (get_or flags i 0)
          → Wording t v d (i + 1)
      wording_more {v} {d} h k p q =
          record {
            fits = g.fits;
            kind = g.kind;
            past = omega (arith, g.past);
            below = omega arith;
            words = rw p (words_more i (weird t w) g.words ∙ word_feed t w (get_or flags i 0) k);
            case = rw q (case_more i c g.case);
          }

  -- ---- in a gap
  module _ (n at : ℕ) where
    pub record Gapping (t : Words) (c : Case) (i : ℕ) : Type 0 where
      pub fits : Fits flags n
      pub kind : is_gap (get_or flags at 0) ≡ true
      pub there : at < n
      pub past : at ≤ i
      pub below : i ≤ n
      pub shuts : shut (words_after flags i) ≡ weird t no_word
      pub words : at < i → words_after flags i ≡ weird t no_word
      pub case : archaic_after flags i ≡ archaic_of i c

    module _ {t : Words} {c : Case} {i : ℕ} (g : Gapping t c i) where
      pub gapping_case : CaseRoom c
      gapping_case = case_room i c (case_within i c g.case) (omega (arith, g.below, g.fits.room))

      -- a character of the gap
      pub gapping_more : {d : Case} → i < n → is_gap (get_or flags i 0) ≡ true → d ≡ cased c (get_or flags i 0) → Gapping t d (i + 1)
      gapping_more {d} h k q =
          let e : words_after flags (i + 1) ≡ weird t no_word =
          words_more i (words_after flags i) refl ∙ gap_feed (words_after flags i) (get_or flags i 0) (words_fresh flags i) k ∙ g.shuts in
          record {
            fits = g.fits;
            kind = g.kind;
            there = g.there;
            past = omega (arith, g.past);
            below = omega arith;
            shuts = ap shut e ∙ shut_empty t;
            words = λ l. e;
            case = rw q (case_more i c g.case);
          }
