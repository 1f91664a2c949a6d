-- A sieve of a layer's letters: each letter's place, its remainder, is marked (`Sieved`). A letter whose place is not marked is not in the layer
-- (`sieve_none`). Nothing is said of the other marks.
-- Assumes nothing.
use Prim.Native.Nat.{ℕ, suc, ◌+◌, ◌≤◌, ◌<◌}
use mathlib.Core.Path.{◌≡◌, refl, sym, ◌∙◌}
use mathlib.Core.Bool.{Bool, true, false}
use mathlib.Core.List.{List, [], ◌∷◌}
use native.Mathlib.Omega.{arith}
use lib.ListN.{length, get_or, set, length-set}
use lib.Seq.{get_or-set_same, get_or-set_other}
use lib.Dec.{eqb}
use borrow.Author.Tests.{ne_eqb, eqb-true, eqb-false}
use Rattle.base.proofs.Laws.Tests.{by_bool, split}
use Rattle.base.specs.Among.{among}
use Rattle.cd_alphabet.specs.Inner.Sieve.{SIEVE, place_of, Sieved}

-- a letter that stands nowhere is not among them
absent : (x : ℕ) (l : List ℕ) → ((k : ℕ) → k < length l → get_or l k 0 ≡ x → ⊥) → among x l ≡ false
unfolding among
absent x [] h = refl
absent x (y ∷ l) h = rw (ne_eqb y x (h 0 (omega arith)), absent x l (λ k b. h (suc k) (omega arith)))

pub sieve_none : {layer : List ℕ} {sieve : List Bool} → Sieved layer sieve → (x : ℕ) → get_or sieve (place_of x) false ≡ false → false ≡ among x layer
sieve_none {layer} {sieve} s x e = sym (absent x layer (λ k h p. no k h p))
  where
    no : (k : ℕ) → k < length layer → get_or layer k 0 ≡ x → ⊥
    no k h p =
        let m : get_or sieve (place_of x) false ≡ true = rw p at (s.marked k h) in
        let z : ◌≡◌ {A = ℕ} 0 1 = cc in
        omega arith

pub place_room : {layer : List ℕ} {sieve : List Bool} → Sieved layer sieve → (x : ℕ) → place_of x < length sieve
place_room s x = omega (arith, s.room)

-- the first i letters are marked in o, which was w
pub record Marking (layer : List ℕ) (w o : List Bool) (i : ℕ) : Type 0 where
  pub size : length o ≡ length w
  pub so_far : (k : ℕ) → k < i → get_or o (place_of (get_or layer k 0)) false ≡ true

module _ (layer : List ℕ) (w : List Bool) where
  pub marking_start : Marking layer w w 0
  marking_start = record { size = refl; so_far = λ k h. absurd (omega arith) }

  module _ {o : List Bool} {i : ℕ} (g : Marking layer w o i) (room : SIEVE ≤ length w) where
    pub marking_room : place_of (get_or layer i 0) < length o
    marking_room = omega (arith, g.size)

    -- a mark does not take another away
    keeps : (p : ℕ) → get_or o p false ≡ true → get_or (set o (place_of (get_or layer i 0)) true) p false ≡ true
    keeps p e =
        by_bool (eqb p (place_of (get_or layer i 0)))
        (λ q. rw (eqb-true p (place_of (get_or layer i 0)) q) (get_or-set_same o (place_of (get_or layer i 0)) true false marking_room))
        (λ q. get_or-set_other o (place_of (get_or layer i 0)) p true false (eqb-false _ _ q) ∙ e)

    pub marking_more : Marking layer w (set o (place_of (get_or layer i 0)) true) (i + 1)
    marking_more =
        record {
          size = length-set o (place_of (get_or layer i 0)) true ∙ g.size;
          so_far = λ k h. split k i
              (λ l. keeps (place_of (get_or layer k 0)) (g.so_far k l))
              (λ l. let e : k ≡ i = omega arith in rw e (get_or-set_same o (place_of (get_or layer i 0)) true false marking_room));
        }

    pub marking_end : length layer ≤ i → Sieved layer o
    marking_end h = record { room = omega (arith, g.size); marked = λ k b. g.so_far k (omega arith) }
