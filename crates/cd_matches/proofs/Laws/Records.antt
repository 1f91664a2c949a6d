-- Records of the table: what scores are asked of (`Records`); their letters as they are read (`read_front`), at most LANGUAGE-LETTERS; and the share of them.
-- Assumes nothing.
use Prim.Native.Nat.{ℕ, ◌≤◌, ◌<◌}
use mathlib.Core.Path.{◌≡◌, sym, ap, ◌∙◌}
use mathlib.Core.Bool.{true}
use mathlib.Core.List.{List}
use native.Mathlib.Omega.{arith}
use lib.ListN.{length, take, drop, length-take}
use lib.Seq.{take_at}
use Rattle.base.specs.Limits.{LANGUAGE_LETTERS}
use Rattle.base.specs.Put.{put}
use Rattle.base.proofs.Laws.Put.{put_first}
use Rattle.cd_languages.specs.Languages.{languages, letter_count}
use Rattle.cd_languages.specs.Inner.Languages.{good_languages}
use Rattle.cd_languages.proofs.Laws.Languages.{good_fields_lem}
use Rattle.cd_languages.specs.Letters.{letters_of}
use Rattle.cd_languages.proofs.Laws.Letters.{letters_length}
use Rattle.ratio.specs.Inner.Fraction.{Small}
use Rattle.cd_alphabet.proofs.Loops.Alphabet.{share_small}
use Rattle.cd_alphabet.specs.Inner.Key.{Share}
use Rattle.cd_alphabet.proofs.Laws.Candidates.{share_is}
use Rattle.cd_matches.specs.Matches.{share_at}

module _ (t : List ℕ) (good : good_languages t ≡ true) (i : ℕ) (h : i < languages t) where
  pub letters_most : length (letters_of t i) ≤ LANGUAGE_LETTERS
  letters_most = omega (arith, letters_length t i, (good_fields_lem t good i h).most)

  letters_some : 0 < length (letters_of t i)
  letters_some = omega (arith, letters_length t i, (good_fields_lem t good i h).some)

  pub share_at_is : (order : List ℕ) → Share (share_at t order i)
  share_at_is order = share_is order (letters_of t i) letters_some letters_most

  pub share_at_small : (order : List ℕ) → Small (share_at t order i)
  share_at_small order = share_small order (letters_of t i) letters_most

  module _ (w v : List ℕ) (n : ℕ) (p : (n ≡ letter_count t i) × (v ≡ put w 0 (letters_of t i))) where
    pub read_front : take n v ≡ letters_of t i
    read_front =
        rw (p.1, p.0, put_first w (letters_of t i))
        (take_at (letters_of t i) (drop (length (letters_of t i)) w) (letter_count t i) (letters_length t i))

    pub read_count : n ≡ length (take n v)
    read_count = p.0 ∙ sym (ap length read_front ∙ letters_length t i)

    pub read_most : length (take n v) ≤ LANGUAGE_LETTERS
    read_most = rw read_front letters_most

    pub read_room : n ≤ length v
    read_room = omega (arith, read_count, length-take n v)
