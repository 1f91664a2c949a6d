-- The loops that write into an output from a place on: what holds when i code points are passed and n is the next place. Assumes nothing.
use Prim.Native.Nat.{ℕ, ◌+◌, ◌-◌, ◌≤◌, ◌<◌}
use mathlib.Core.Path.{◌≡◌, refl, sym, ap, subst, ◌∙◌}
use mathlib.Core.List.{List, [], ◌++◌, append_assoc, append-nil}
use mathlib.Core.Bool.{true}
use native.Mathlib.Omega.{arith}
use lib.ListN.{length, get_or, take, drop, set, length-append, take-append-drop, drop_of_length-le}
use lib.Seq.{drop-drop, length-take-le, get_or-take, get_or-drop, take-paste, take-length}
use Rattle.base.specs.Limits.{LAST_POINT}
use Rattle.base.specs.Put.{put}
use Rattle.base.proofs.Laws.Put.{put_length, put_back, put_all}
use Rattle.base.proofs.Laws.Tests.{split}
use Rattle.utf8_table.specs.Encoding.{encode, encode_all, scalars}
use Rattle.utf8_table.proofs.Laws.Encoding.{encode_1, encode_2, encode_3, encode_4, scalar_top}
use Rattle.utf8_meaning.specs.Inner.Ascii.{AsciiRun}
use Rattle.utf8_meaning.proofs.Laws.Going.{run_length}
use Rattle.utf8_form.specs.Inner.Below.{AllAscii}
use Rattle.utf8_write.specs.Inner.Part.{Part}
use Rattle.utf8_write_meaning.proofs.Laws.Encoded.{scalar_at, encoded_next, encoded_run, encoded_part}
use Rattle.utf8_form.proofs.Laws.Sequence.{one_put}

pub record Writing (text old : List ℕ) (at : ℕ) (out : List ℕ) (i n : ℕ) : Type 0 where
  pub here : i ≤ length text
  pub past : at ≤ n
  pub same : length out ≡ length old
  pub room : n + length (encode_all (drop i text)) ≤ length old
  pub front : take n out ++ encode_all (drop i text) ≡ take at old ++ encode_all text
  pub back : drop n out ≡ drop n old

-- one code point of k bytes more
pub record Written (text old : List ℕ) (at : ℕ) (out : List ℕ) (i n k : ℕ) : Type 0 where
  pub room : n + k ≤ length out
  pub next : Writing text old at (put out n (encode (get_or text i 0))) (i + 1) (n + k)

module _ (text old : List ℕ) (at : ℕ) where
  pub writing_start : at + length (encode_all text) ≤ length old → Writing text old at old 0 at
  writing_start h = record { here = omega arith; past = omega arith; same = refl; room = h; front = refl; back = refl }

  module _ (out : List ℕ) (i n : ℕ) (w : Writing text old at out i n) where
    -- the bytes bs stand for the code points from i to j
    module _ (bs : List ℕ) (j : ℕ) (e : encode_all (drop i text) ≡ bs ++ encode_all (drop j text)) where
      longer : length (encode_all (drop i text)) ≡ length bs + length (encode_all (drop j text))
      longer = ap length e ∙ length-append bs (encode_all (drop j text))

      writing_room : n + length bs ≤ length out
      writing_room = omega (arith, longer, w.room, w.same)

      writing_more : j ≤ length text → Writing text old at (put out n bs) j (n + length bs)
      writing_more h =
          record {
            here = h;
            past = omega (arith, w.past);
            same = put_length out n bs writing_room ∙ w.same;
            room = omega (arith, longer, w.room);
            front =
                ap (λ (l : List ℕ). l ++ encode_all (drop j text))
                (ap (take (n + length bs)) (put_all out n bs) ∙ take-paste out n bs (length bs) (omega (arith, writing_room)) (omega arith)
                ∙ ap (λ (l : List ℕ). take n out ++ l) (take-length bs))
                ∙ append_assoc (take n out) bs (encode_all (drop j text))
                ∙ ap (λ (l : List ℕ). take n out ++ l) (sym e)
                ∙ w.front;
            back =
                put_back out n bs writing_room
                ∙ sym (drop-drop (length bs) n out) ∙ ap (drop (length bs)) w.back ∙ drop-drop (length bs) n old;
          }

    module _ (h : i < length text) where
      writing_step : (k : ℕ) → length (encode (get_or text i 0)) ≡ k → Written text old at out i n k
      writing_step k e =
          record {
            room = rw e at (writing_room (encode (get_or text i 0)) (i + 1) (encoded_next text i h));
            next =
                subst (λ (m : ℕ). Writing text old at (put out n (encode (get_or text i 0))) (i + 1) (n + m)) e
                (writing_more (encode (get_or text i 0)) (i + 1) (encoded_next text i h) (omega arith));
          }

      pub writing_one : get_or text i 0 < 0x80 → Written text old at out i n 1
      writing_one k = writing_step 1 (ap length (encode_1 (get_or text i 0) k))

      -- stored as the byte that it is
      pub writing_byte : get_or text i 0 < 0x80 → Writing text old at (set out n (get_or text i 0)) (i + 1) (n + 1)
      writing_byte k = rw (one_put out n (get_or text i 0) k (writing_one k).room) (writing_one k).next

      pub writing_two : 0x80 ≤ get_or text i 0 → get_or text i 0 < 0x800 → Written text old at out i n 2
      writing_two k l = writing_step 2 (ap length (encode_2 (get_or text i 0) k l))

      pub writing_three : 0x800 ≤ get_or text i 0 → get_or text i 0 < 0x10000 → Written text old at out i n 3
      writing_three k l = writing_step 3 (ap length (encode_3 (get_or text i 0) k l))

      pub writing_four : 0x10000 ≤ get_or text i 0 → Written text old at out i n 4
      writing_four k = writing_step 4 (ap length (encode_4 (get_or text i 0) k))

      pub writing_top : scalars text ≡ true → get_or text i 0 ≤ LAST_POINT
      writing_top s = scalar_top (get_or text i 0) (scalar_at text s i h)

    module _ (j : ℕ) (r : AsciiRun text i j) where
      pub run_room : n + length (take (j - i) (drop i text)) ≤ length out
      run_room = writing_room (take (j - i) (drop i text)) j (encoded_run text i j r)

      pub run_ascii : AllAscii (take (j - i) (drop i text))
      run_ascii k h =
          let l = run_length text i j r in
          rw (get_or-take (j - i) (drop i text) k 0 (omega arith), get_or-drop i text k 0) (r.ascii (i + k) (omega arith) (omega (arith, l, r.here)))

      pub writing_run : Writing text old at (put out n (take (j - i) (drop i text))) j (n + (j - i))
      writing_run =
          subst (λ (m : ℕ). Writing text old at (put out n (take (j - i) (drop i text))) j (n + m)) (run_length text i j r)
          (writing_more (take (j - i) (drop i text)) j (encoded_run text i j r) r.inside)

    -- what another loop wrote for a part of the text
    module _ (j : ℕ) (p : Part (length text) i j) where
      pub part_room : n + length (encode_all (take (j - i) (drop i text))) ≤ length out
      part_room = writing_room (encode_all (take (j - i) (drop i text))) j (encoded_part text i j p.here)

      pub writing_part : Writing text old at (put out n (encode_all (take (j - i) (drop i text)))) j (n + length (encode_all (take (j - i) (drop i text))))
      writing_part = writing_more (encode_all (take (j - i) (drop i text))) j (encoded_part text i j p.here) p.inside

    module _ (h : length text ≤ i) where
      all_there : take n out ≡ take at old ++ encode_all text
      unfolding encode_all
      all_there =
          let d : drop i text ≡ [] = drop_of_length-le text h in
          let f : take n out ++ encode_all (drop i text) ≡ take at old ++ encode_all text = w.front in
          sym (append-nil (take n out)) ∙ (rw d at f)

      pub writing_count : n ≡ at + length (encode_all text)
      writing_count =
          let l = length-take-le n out (omega (arith, w.room, w.same)) in
          let m = length-take-le at old (omega (arith, w.room, w.past)) in
          let k = length-append (take at old) (encode_all text) in
          let t : length (take n out) ≡ length (take at old ++ encode_all text) = ap length all_there in
          omega (arith, l, m, k, t)

      pub writing_end : out ≡ put old at (encode_all text)
      unfolding put
      writing_end =
          sym (take-append-drop n out)
          ∙ ap (λ (a : List ℕ). a ++ drop n out) all_there
          ∙ ap (λ (b : List ℕ). (take at old ++ encode_all text) ++ b) w.back
          ∙ ap (λ (k : ℕ). (take at old ++ encode_all text) ++ drop k old) writing_count
          ∙ append_assoc (take at old) (encode_all text) (drop (at + length (encode_all text)) old)

-- a turn that passes a run and then a part passes something
pub turn_less : (l i j k : ℕ) → i < l → i ≤ j → Part l j k → l - k < l - i
turn_less l i j k h a p =
    split j l (λ m. let s = p.some m in omega (arith, p.inside, s, a, h)) (λ m. omega (arith, p.here, p.inside, h, m))
