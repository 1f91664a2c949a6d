-- Text and bytes, both ways. What stands at a place is the encoding of what it decodes to (`decode_encode`), and an encoding decodes to
-- its scalar value (`encode_decode`); well-formed bytes are the encodings of their text and nothing else is well-formed
-- (`well_formed_encoded`, `encoded_well_formed`, `encoded_text`); the place of a fault is the length of the longest front that is
-- encodings of scalar values (`fault_front`, `fault_longest`). Assumes nothing.
use Prim.Native.Nat.{ℕ, zero, suc, ◌+◌, ◌≤◌, ◌<◌}
use mathlib.Core.Path.{◌≡◌, refl, sym, ap, ◌∙◌}
use mathlib.Core.List.{List, [], ◌∷◌, ◌++◌, append_assoc, append-nil}
use mathlib.Core.Bool.{true}
use native.Mathlib.Nat.{add-zero, zero-add}
use native.Mathlib.Omega.{arith}
use lib.ListN.{length, get_or, take, drop, length-append, length-drop}
use lib.Seq.{take-add, take-length, drop-cons, drop-drop, drop-append_seam, get_or-drop}
use lib.Dec.{eqb}
use borrow.Author.Tests.{eqb-false}
use Rattle.base.specs.Tests.{scalar}
use Rattle.base.proofs.Laws.Tests.{by_test, and_l, and_r}
use Rattle.utf8_table.specs.Encoding.{encode, encode_all, scalars}
use Rattle.utf8_table.proofs.Laws.Encoding.{encode_size}
use Rattle.utf8_table.specs.WellFormed.{step_at}
use Rattle.utf8_table.proofs.Laws.Complete.{got, row_complete}
use Rattle.utf8_meaning.specs.Text.{Reading, after, steps, reading, text_of, fault_at, well_formed}
use Rattle.utf8_meaning.specs.Inner.Text.{from}
use Rattle.utf8_meaning.proofs.Laws.Text.{past, at_row, step_sound, step_fits, from_start, from_end, from_step, from_after, whole_is, is_whole}

-- up to four bytes from the place i on
next : (l : List ℕ) (i j : ℕ) → suc i ≡ j → i < length l → drop i l ≡ get_or l i 0 ∷ drop j l
next l i j e h = drop-cons l i 0 h ∙ ap (λ (n : ℕ). get_or l i 0 ∷ drop n l) e

window : (l : List ℕ) (i k : ℕ) → k ≤ 4 → i + k ≤ length l
    → take k (drop i l) ≡ take k (get_or l i 0 ∷ get_or l (i + 1) 0 ∷ get_or l (i + 2) 0 ∷ get_or l (i + 3) 0 ∷ [])
window l i zero h k = refl
window l i (suc zero) h k = rw (next l i (i + 1) (omega arith) (omega arith))
window l i (suc (suc zero)) h k =
    rw (next l i (i + 1) (omega arith) (omega arith), next l (i + 1) (i + 2) (omega arith) (omega arith))
window l i (suc (suc (suc zero))) h k =
    rw (
      next l i (i + 1) (omega arith) (omega arith),
      next l (i + 1) (i + 2) (omega arith) (omega arith),
      next l (i + 2) (i + 3) (omega arith) (omega arith),
    )
window l i (suc (suc (suc (suc zero)))) h k =
    rw (
      next l i (i + 1) (omega arith) (omega arith),
      next l (i + 1) (i + 2) (omega arith) (omega arith),
      next l (i + 2) (i + 3) (omega arith) (omega arith),
      next l (i + 3) (i + 4) (omega arith) (omega arith),
    )
window l i (suc (suc (suc (suc (suc j))))) h k = absurd (none h)
  where
    none : suc (suc (suc (suc (suc j)))) ≤ 4 → ⊥
    none h = omega arith

module _ (bytes : List ℕ) where
  -- what decodes to a scalar value is its encoding
  pub decode_encode : (i : ℕ) → ((step_at bytes i).size ≡ 0 → ⊥)
      → take (step_at bytes i).size (drop i bytes) ≡ encode (step_at bytes i).point
  decode_encode i e =
      let s = step_sound bytes i e in
      window bytes i _ s.most (step_fits bytes i e) ∙ sym s.bytes

  encoded_from : (n i : ℕ) → take i bytes ++ encode_all (steps n bytes i).text ≡ take (steps n bytes i).stop bytes
  unfolding steps encode_all
  encoded_from zero i = append-nil (take i bytes)
  encoded_from (suc n) i =
      by_test (λ (r : Reading). take i bytes ++ encode_all r.text ≡ take r.stop bytes) (eqb (step_at bytes i).size 0) _ _
      (λ e. append-nil (take i bytes))
      (λ e.
      sym (append_assoc (take i bytes) _ _)
      ∙ ap (λ (l : List ℕ). (take i bytes ++ l) ++ encode_all (steps n bytes (i + (step_at bytes i).size)).text)
      (sym (decode_encode i (eqb-false (step_at bytes i).size 0 e)))
      ∙ ap (λ (l : List ℕ). l ++ encode_all (steps n bytes (i + (step_at bytes i).size)).text)
      (sym (take-add i (step_at bytes i).size bytes))
      ∙ encoded_from n (i + (step_at bytes i).size))

  scalars_from : (n i : ℕ) → scalars (steps n bytes i).text ≡ true
  unfolding steps scalars
  scalars_from zero i = refl
  scalars_from (suc n) i =
      by_test (λ (r : Reading). scalars r.text ≡ true) (eqb (step_at bytes i).size 0) _ _
      (λ e. refl)
      (λ e. rw (step_sound bytes i (eqb-false (step_at bytes i).size 0 e)).is_scalar (scalars_from n (i + (step_at bytes i).size)))

  -- the text of any bytes has scalar values only, and the bytes before the fault are its encoding
  pub text_scalars : scalars (text_of bytes) ≡ true
  unfolding reading
  text_scalars = scalars_from (length bytes) 0

  pub fault_front : encode_all (text_of bytes) ≡ take (fault_at bytes) bytes
  unfolding reading
  fault_front = encoded_from (length bytes) 0

  pub well_formed_encoded : well_formed bytes ≡ true → encode_all (text_of bytes) ≡ bytes
  well_formed_encoded e = fault_front ∙ ap (λ (n : ℕ). take n bytes) (whole_is bytes e) ∙ take-length bytes

  -- an encoding, wherever it stands, decodes to its scalar value
  pub encode_decode : (i c : ℕ) (rest : List ℕ) → scalar c ≡ true → drop i bytes ≡ encode c ++ rest
      → step_at bytes i ≡ got (length (encode c)) c
  encode_decode i c rest s e =
      at_row bytes i inside
      ∙ rw (at_0, sym (get_or-drop i bytes 1 0), sym (get_or-drop i bytes 2 0), sym (get_or-drop i bytes 3 0), e) (row_complete c rest s)
    where
      inside : i < length bytes
      inside = omega (arith, length-drop i bytes, ap length e, length-append (encode c) rest, (encode_size c).0)

      at_0 : get_or bytes i 0 ≡ get_or (drop i bytes) 0 0
      at_0 = sym (get_or-drop i bytes 0 0 ∙ ap (λ (n : ℕ). get_or bytes n 0) (add-zero i))

  -- encodings, wherever they stand, are read as their text
  pub encoded_on : (cs rest : List ℕ) (i : ℕ) → scalars cs ≡ true → drop i bytes ≡ encode_all cs ++ rest
      → from bytes i ≡ after cs (from bytes (i + length (encode_all cs)))
  unfolding encode_all scalars
  encoded_on [] rest i s e = rw (add-zero i)
  encoded_on (c ∷ cs) rest i s e =
      let d = encode_decode i c (encode_all cs ++ rest) (and_l (scalar c) (scalars cs) s) (e ∙ append_assoc (encode c) (encode_all cs) rest) in
      let f : drop (i + length (encode c)) bytes ≡ encode_all cs ++ rest =
      sym (drop-drop (length (encode c)) i bytes)
      ∙ ap (drop (length (encode c))) (e ∙ append_assoc (encode c) (encode_all cs) rest)
      ∙ drop-append_seam (encode c) (encode_all cs ++ rest) in
      let z : i + length (encode c) + length (encode_all cs) ≡ i + length (encode c ++ encode_all cs) =
      simp length-append (omega arith) in
      from_step bytes i (λ z. let y : length (encode c) ≡ 0 = rw d at z in omega (arith, (encode_size c).0))
      ∙ rw (d, ← z) (ap (after (c ∷ [])) (encoded_on cs rest (i + length (encode c)) (and_r (scalar c) (scalars cs) s) f))

  -- no front that is encodings of scalar values goes past the fault
  pub fault_longest : (cs rest : List ℕ) → scalars cs ≡ true → bytes ≡ encode_all cs ++ rest → length (encode_all cs) ≤ fault_at bytes
  fault_longest cs rest s e =
      let r : (from bytes 0).stop ≡ (from bytes (0 + length (encode_all cs))).stop =
      ap (λ (r : Reading). r.stop) (encoded_on cs rest 0 s e) in
      omega (arith, r, ap (λ (r : Reading). r.stop) (from_start bytes), from_after bytes (0 + length (encode_all cs)))

module _ (cs : List ℕ) (s : scalars cs ≡ true) where
  encoded_reading : reading (encode_all cs) ≡ record { text = cs; stop = length (encode_all cs) }
  encoded_reading =
      let n = length (encode_all cs) in
      sym (from_start (encode_all cs))
      ∙ encoded_on (encode_all cs) cs [] 0 s (sym (append-nil (encode_all cs)))
      ∙ rw (zero-add n, from_end (encode_all cs) n (past (encode_all cs) n (omega arith)), append-nil cs)

  pub encoded_text : text_of (encode_all cs) ≡ cs
  encoded_text = ap (λ (r : Reading). r.text) encoded_reading

  pub encoded_well_formed : well_formed (encode_all cs) ≡ true
  encoded_well_formed = is_whole (encode_all cs) (omega (arith, ap (λ (r : Reading). r.stop) encoded_reading))
