-- What the definitions of weird words and archaic case do with a character of a word and with one of a gap, in the two parts that the readers carry:
-- in a word it enters (`word_feed`), in a gap it closes the word that there is (`gap_feed`), and archaic case goes on (`case_feed`). Where no letter has
-- entered a word, nothing of one is kept (`words_fresh`); so a gap closes a word once (`shut-twice`).
-- Assumes nothing.
use Prim.Native.Nat.{ℕ, zero, suc, ◌+◌}
use mathlib.Core.Path.{◌≡◌, refl, sym, ap, ◌∙◌}
use mathlib.Core.Bool.{Bool, true, false, not, ◌&&◌, ◌||◌}
use mathlib.Core.List.{List}
use native.Mathlib.Nat.{add-zero}
use native.Mathlib.Numerals.{add-one}
use native.Mathlib.Omega.{arith}
use lib.Dec.{eqb, ltb}
use lib.ListN.{get_or}
use borrow.Author.Tests.{eqb-true, ne_eqb, lt-ltb, not-true}
use Rattle.base.specs.Flags.{has, ASCII_ALPHABETIC}
use Rattle.base.proofs.Laws.Tests.{cond_both, and_l, and_r}
use Rattle.md_words.specs.declared.super_weird_word.SuperWeirdWord.{SuperWeirdWord}
use Rattle.md_words.specs.SuperWeirdWord.{closes, counted, letter, symbol, accented, capital, camel, long, close, inside, feed}
use Rattle.md_words.specs.ArchaicUpperLower as archaic
use Rattle.md_words.proofs.Laws.SuperWeirdWord as words_laws
use Rattle.md_words.proofs.Laws.ArchaicUpperLower as archaic_laws
use Rattle.md_second.specs.declared.readers.Words.{Words}
use Rattle.md_second.specs.declared.readers.Word.{Word}
use Rattle.md_second.specs.declared.readers.Case.{Case}
use Rattle.md_second.specs.Inner.After.{seen, words_after, archaic_after}
use Rattle.md_second.specs.Inner.Reading.{no_word, weird, is_gap, odd_in, entered, closed, archaic_of, cased, shut}

-- the words of the definition's state
abbrev words_of : SuperWeirdWord → Words
words_of s = record { characters = s.characters; words = s.words; foreign = s.foreign; spoilt = s.spoilt }

-- nothing is kept of a word that no letter has entered
abbrev pub Fresh : SuperWeirdWord → Type 0
Fresh s = s.length ≡ 0 → s ≡ weird (words_of s) no_word

no_suc : {A : Type 0} (n : ℕ) → n + 1 ≡ 0 → A
no_suc n e = absurd (no n e)
  where
    no : (n : ℕ) → n + 1 ≡ 0 → ⊥
    no n e = omega (arith, e)

letter_fresh : (s : SuperWeirdWord) (f : ℕ) → Fresh (letter s f)
unfolding letter
letter_fresh s f e = no_suc s.length e

symbol_fresh : (s : SuperWeirdWord) (f : ℕ) → Fresh (symbol s f)
unfolding symbol
symbol_fresh s f e = no_suc s.length e

close_fresh : (s : SuperWeirdWord) → Fresh (close s)
unfolding close
close_fresh s e = refl

feed_fresh : (s : SuperWeirdWord) (f : ℕ) → Fresh s → Fresh (feed s (seen 0 f 0 0))
unfolding feed inside
feed_fresh s f h =
    cond_both Fresh (has f ASCII_ALPHABETIC) _ _ (letter_fresh s f)
    (cond_both Fresh (eqb s.length 0) _ _ h
    (cond_both Fresh (closes f) _ _ (close_fresh s)
    (cond_both Fresh (counted f) _ _ (symbol_fresh s f) h)))

module _ (flags : List ℕ) where
  pub words_fresh : (i : ℕ) → Fresh (words_after flags i)
  unfolding words_after
  words_fresh zero = λ e. refl
  words_fresh (suc i) = feed_fresh (words_after flags i) (get_or flags i 0) (words_fresh i)

  pub words_within : (i : ℕ) → words_laws.Within i (words_after flags i)
  unfolding words_after
  words_within zero = words_laws.start_within
  words_within (suc i) = rw (← add-one i) (words_laws.feed_within i (words_after flags i) (words_within i) _)

  pub archaic_within : (i : ℕ) → archaic_laws.Within i (archaic_after flags i)
  unfolding archaic_after
  archaic_within zero = archaic_laws.start_within
  archaic_within (suc i) = rw (← add-one i) (archaic_laws.feed_within i (archaic_after flags i) (archaic_within i) _)

or_no : (a : Bool) → a || false ≡ a
or_no true = refl
or_no false = refl

or_yes : (a : Bool) → a || true ≡ true
or_yes true = refl
or_yes false = refl

begun : (n : ℕ) → not (eqb n 0) ≡ ltb 0 n
begun zero = refl
begun (suc n) = rw (ne_eqb (suc n) 0 (λ e. no n e), lt-ltb 0 (suc n) (omega arith))
  where
    no : (n : ℕ) → suc n ≡ 0 → ⊥
    no n e = omega (arith, e)

never : {A : Type 0} → true ≡ false → A
never e = absurd (no (told e))
  where
    told : true ≡ false → ◌≡◌ {A = ℕ} 0 1
    told e = cc

    no : ◌≡◌ {A = ℕ} 0 1 → ⊥
    no z = omega arith

-- ---- in a word
-- by the tests: a letter, a word that has begun, a counted symbol, a character that closes
word_cases : (t : Words) (w : Word) (f : ℕ) (a b c d : Bool) → a ≡ has f ASCII_ALPHABETIC → b ≡ eqb w.length 0 → not b ≡ ltb 0 w.length → c ≡ counted f → d ≡ closes f
    → not a && d ≡ false → feed (weird t w) (seen 0 f 0 0) ≡ weird t (entered w f)
unfolding feed inside letter symbol entered odd_in
word_cases t w f true b c d p q o r s h = rw (← p, or_no w.bad)
word_cases t w f false true c d p q o r s h = rw (← p, ← q, ← o, or_no w.bad, or_no w.watch, add-zero w.length, add-zero w.accents, add-zero w.uppercase)
word_cases t w f false false true true p q o r s h = never h
word_cases t w f false false true false p q o r s h = rw (← p, ← q, ← o, ← r, ← s, or_yes w.bad, or_no w.watch, add-zero w.accents)
word_cases t w f false false false true p q o r s h = never h
word_cases t w f false false false false p q o r s h =
    rw (← p, ← q, ← o, ← r, ← s, or_no w.bad, or_no w.watch, add-zero w.length, add-zero w.accents, add-zero w.uppercase)

pub word_feed : (t : Words) (w : Word) (f : ℕ) → is_gap f ≡ false → feed (weird t w) (seen 0 f 0 0) ≡ weird t (entered w f)
unfolding is_gap
word_feed t w f h = word_cases t w f _ _ _ _ refl refl (begun w.length) refl refl h

-- ---- in a gap
-- no word, nothing to close
pub shut_empty : (t : Words) → shut (weird t no_word) ≡ weird t no_word
unfolding closed capital long accented
shut_empty t = rw (add-zero t.characters, add-zero t.words, add-zero t.foreign, add-zero t.foreign, add-zero t.spoilt)

gap_cases : (s : SuperWeirdWord) (f : ℕ) (b : Bool) → b ≡ eqb s.length 0 → not b ≡ ltb 0 s.length → has f ASCII_ALPHABETIC ≡ false → closes f ≡ true → Fresh s
    → feed s (seen 0 f 0 0) ≡ shut s
unfolding feed inside close closed capital long camel accented
gap_cases s f true q o p r h =
    let e : s ≡ weird (words_of s) no_word = h (eqb-true s.length 0 (sym q)) in
    rw (p, ← q) (e ∙ sym (shut_empty (words_of s)) ∙ ap shut (sym e))
gap_cases s f false q o p r h = rw (p, ← q, r, ← o)

pub gap_feed : (s : SuperWeirdWord) (f : ℕ) → Fresh s → is_gap f ≡ true → feed s (seen 0 f 0 0) ≡ shut s
unfolding is_gap
gap_feed s f h g =
    gap_cases s f _ refl (begun s.length) (not-true (has f ASCII_ALPHABETIC) (and_l (not (has f ASCII_ALPHABETIC)) (closes f) g))
    (and_r (not (has f ASCII_ALPHABETIC)) (closes f) g) h

-- ---- archaic case
case_cases : (k : ℕ) (c : Case) (f : ℕ) (b : Bool) → b ≡ archaic.separates (archaic_of 0 c) f → archaic.feed (archaic_of k c) (seen 0 f 0 0) ≡ archaic_of (k + 1) (cased c f)
unfolding archaic.feed archaic.separates archaic.separator archaic.counted archaic.letter cased
case_cases k c f true e = rw (← e)
case_cases k c f false e = rw (← e)

pub case_feed : (k : ℕ) (c : Case) (f : ℕ) → archaic.feed (archaic_of k c) (seen 0 f 0 0) ≡ archaic_of (k + 1) (cased c f)
case_feed k c f = case_cases k c f _ refl
