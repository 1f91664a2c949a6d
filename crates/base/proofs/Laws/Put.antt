-- Laws of `put`: its length, what stands before, in and behind the list that was put, one element more, two lists one after the other (`put_over`, `put_swap`, `put_on`),
-- and a list put over the front, which leaves nothing of it (`put_forgets`).
-- Assumes nothing.
use Prim.Native.Nat.{ℕ, suc, ◌+◌, ◌-◌, ◌≤◌, ◌<◌}
use mathlib.Core.Path.{◌≡◌, refl, sym, ap, ◌∙◌}
use mathlib.Core.List.{List, [], ◌∷◌, ◌++◌, append_assoc}
use native.Mathlib.Nat.{add-zero, zero-add, add_assoc, suc-add}
use native.Mathlib.Numerals.{add-one}
use native.Mathlib.Omega.{arith}
use lib.ListN.{length, get_or, set, take, drop, length-append, length-drop, length-set, get_or-append, take-append-drop}
use lib.Seq.{
  set-append_left,
  paste,
  paste-suc,
  length-take-le,
  take-append-le,
  take-append_seam,
  take_at,
  take-take,
  take-length,
  drop_at,
  drop-drop,
  get_or-take,
  get_or-drop,
  get_or-append-add,
  ext_get_or,
}
use Rattle.base.specs.Put.{put}
use Rattle.base.proofs.Laws.Tests.{split}

module _ {A : Type 0} where
  module _ (w : List A) (i : ℕ) (s : List A) (h : i + length s ≤ length w) where
    front : length (take i w) ≡ i
    front = length-take-le i w (omega arith)

    pub put_length : length (put w i s) ≡ length w
    unfolding put
    put_length =
        omega (
          arith,
          length-append (take i w) (s ++ drop (i + length s) w),
          length-append s (drop (i + length s) w),
          length-drop (i + length s) w,
          front,
        )

    pub put_front : (k : ℕ) → k ≤ i → take k (put w i s) ≡ take k w
    unfolding put
    put_front k l = take-append-le k (take i w) (s ++ drop (i + length s) w) (omega (arith, front)) ∙ take-take k i w l

    -- from i on
    pub put_drop : drop i (put w i s) ≡ s ++ drop (i + length s) w
    unfolding put
    put_drop = drop_at (take i w) (s ++ drop (i + length s) w) i front

    pub put_part : take (length s) (drop i (put w i s)) ≡ s
    put_part = ap (take (length s)) put_drop ∙ take-append_seam s (drop (i + length s) w)

    pub put_back : drop (i + length s) (put w i s) ≡ drop (i + length s) w
    put_back =
        sym (drop-drop (length s) i (put w i s)) ∙ ap (drop (length s)) put_drop ∙ drop_at s (drop (i + length s) w) (length s) refl

    pub put_beyond : (k : ℕ) → i + length s ≤ k → drop k (put w i s) ≡ drop k w
    put_beyond k l =
        let e : i + length s + (k - (i + length s)) ≡ k = omega arith in
        rw (← e)
        (sym (drop-drop (k - (i + length s)) (i + length s) (put w i s)) ∙ ap (drop (k - (i + length s))) put_back
        ∙ drop-drop (k - (i + length s)) (i + length s) w)

    pub put_before : (k : ℕ) → k < i → (z : A) → get_or (put w i s) k z ≡ get_or w k z
    put_before k l z = sym (get_or-take i (put w i s) k z l) ∙ ap (λ (v : List A). get_or v k z) (put_front i (omega arith)) ∙ get_or-take i w k z l

    pub put_in : (j : ℕ) → j < length s → (z : A) → get_or (put w i s) (i + j) z ≡ get_or s j z
    put_in j l z =
        sym (get_or-drop i (put w i s) j z) ∙ ap (λ (v : List A). get_or v j z) put_drop ∙ get_or-append s (drop (i + length s) w) z j l

    pub put_after : (j : ℕ) (z : A) → get_or (put w i s) (i + length s + j) z ≡ get_or w (i + length s + j) z
    put_after j z =
        sym (get_or-drop (i + length s) (put w i s) j z) ∙ ap (λ (v : List A). get_or v j z) put_back ∙ get_or-drop (i + length s) w j z

  pub put_nothing : (w : List A) (i : ℕ) → put w i [] ≡ w
  unfolding put
  put_nothing w i = rw add-zero (take-append-drop i w)

  -- s stored one element after the other
  pub put_paste : (w : List A) (a : ℕ) (s : List A) (i : ℕ) → i ≤ length s → put w a (take i s) ≡ paste w a s i
  unfolding put
  put_paste w a s i h = rw (length-take-le i s h) (sym (append_assoc (take a w) (take i s) (drop (a + i) w)))

  pub put_more : (w : List A) (a : ℕ) (s : List A) (i : ℕ) → a + length s ≤ length w → i < length s → (z : A)
      → set (put w a (take i s)) (a + i) (get_or s i z) ≡ put w a (take (i + 1) s)
  put_more w a s i h l z =
      ap (λ (v : List A). set v (a + i) (get_or s i z)) (put_paste w a s i (omega arith))
      ∙ paste-suc w a s i z (omega arith) l
      ∙ rw (add-one i) (sym (put_paste w a s (suc i) l))

  -- what stands at k
  put_here : (w : List A) (i : ℕ) (s : List A) (k : ℕ) → i + length s ≤ length w → i ≤ k → k < i + length s → (z : A)
      → get_or (put w i s) k z ≡ get_or s (k - i) z
  put_here w i s k h a b z =
      let e : i + (k - i) ≡ k = omega arith in
      rw e at (put_in w i s h (k - i) (omega arith) z)

  put_past : (w : List A) (i : ℕ) (s : List A) (k : ℕ) → i + length s ≤ length w → i + length s ≤ k → (z : A)
      → get_or (put w i s) k z ≡ get_or w k z
  put_past w i s k h a z =
      let e : i + length s + (k - (i + length s)) ≡ k = omega arith in
      rw e at (put_after w i s h (k - (i + length s)) z)

  -- a list put over another that was put there
  pub put_over : (w : List A) (i : ℕ) (s t : List A) → i + length s ≤ length w → i + length t ≤ length w → (z : A)
      → put (put w i s) i t ≡ put w i (t ++ drop (length t) s)
  put_over w i s t h l z =
      ext_get_or z (put (put w i s) i t) (put w i (t ++ drop (length t) s))
      (rw (put_length (put w i s) i t l', put_length w i s h, put_length w i (t ++ drop (length t) s) m)) at_each
    where
      l' : i + length t ≤ length (put w i s)
      l' = rw (put_length w i s h) l

      n : length (t ++ drop (length t) s) ≡ length t + (length s - length t)
      n = length-append t (drop (length t) s) ∙ rw (length-drop (length t) s)

      m : i + length (t ++ drop (length t) s) ≤ length w
      m = omega (arith, n)

      at_each : (k : ℕ) → k < length (put (put w i s) i t) → get_or (put (put w i s) i t) k z ≡ get_or (put w i (t ++ drop (length t) s)) k z
      at_each k m' =
          split k i
          (λ a. put_before (put w i s) i t l' k a z ∙ put_before w i s h k a z ∙ sym (put_before w i (t ++ drop (length t) s) m k a z))
          (λ a. split k (i + length t)
          (λ b. put_here (put w i s) i t k l' a b z
          ∙ sym (put_here w i (t ++ drop (length t) s) k m a (omega (arith, n)) z ∙ get_or-append t (drop (length t) s) z (k - i) (omega arith)))
          (λ b. put_past (put w i s) i t k l' b z ∙ split k (i + length s)
          (λ c. put_here w i s k h a c z ∙ sym (put_here w i (t ++ drop (length t) s) k m a (omega (arith, n)) z ∙ beyond k a b))
          (λ c. put_past w i s k h c z ∙ sym (put_past w i (t ++ drop (length t) s) k m (omega (arith, n)) z))))
        where
          beyond : (k : ℕ) → i ≤ k → i + length t ≤ k → get_or (t ++ drop (length t) s) (k - i) z ≡ get_or s (k - i) z
          beyond k a b =
              let e : length t + (k - i - length t) ≡ k - i = omega arith in
              (rw e at (get_or-append-add t (drop (length t) s) (k - i - length t) z ∙ get_or-drop (length t) s (k - i - length t) z))

  -- two lists put apart from each other
  pub put_swap : (w : List A) (i : ℕ) (s : List A) (j : ℕ) (t : List A) → i + length s ≤ j → j + length t ≤ length w → (z : A)
      → put (put w i s) j t ≡ put (put w j t) i s
  put_swap w i s j t h l z =
      ext_get_or z (put (put w i s) j t) (put (put w j t) i s)
      (rw (put_length (put w i s) j t l', put_length w i s g, put_length (put w j t) i s g', put_length w j t l)) at_each
    where
      g : i + length s ≤ length w
      g = omega arith

      l' : j + length t ≤ length (put w i s)
      l' = rw (put_length w i s g) l

      g' : i + length s ≤ length (put w j t)
      g' = rw (put_length w j t l) g

      at_each : (k : ℕ) → k < length (put (put w i s) j t) → get_or (put (put w i s) j t) k z ≡ get_or (put (put w j t) i s) k z
      at_each k m' =
          split k i
          (λ a. put_before (put w i s) j t l' k (omega arith) z ∙ put_before w i s g k a z
          ∙ sym (put_before (put w j t) i s g' k a z ∙ put_before w j t l k (omega arith) z))
          (λ a. split k (i + length s)
          (λ b. put_before (put w i s) j t l' k (omega arith) z ∙ put_here w i s k g a b z ∙ sym (put_here (put w j t) i s k g' a b z))
          (λ b. split k j
          (λ c. put_before (put w i s) j t l' k c z ∙ put_past w i s k g b z ∙ sym (put_past (put w j t) i s k g' b z ∙ put_before w j t l k c z))
          (λ c. split k (j + length t)
          (λ d. put_here (put w i s) j t k l' c d z ∙ sym (put_past (put w j t) i s k g' b z ∙ put_here w j t k l c d z))
          (λ d. put_past (put w i s) j t k l' d z ∙ put_past w i s k g b z ∙ sym (put_past (put w j t) i s k g' b z ∙ put_past w j t k l d z)))))

  -- what stands there already
  pub put_same : (w : List A) (i d : ℕ) → i + d ≤ length w → put w i (take d (drop i w)) ≡ w
  unfolding put
  put_same w i d h =
      rw (length-take-le d (drop i w) (omega (arith, length-drop i w)), ← drop-drop d i w, take-append-drop d (drop i w)) (take-append-drop i w)

  -- a part from m on, put in a call of its own
  pub put_within : (w : List A) (m : ℕ) (s : List A) → m ≤ length w → take m w ++ put (drop m w) 0 s ≡ put w m s
  unfolding put
  put_within w m s h = rw (zero-add, drop-drop (length s) m w)

  set_past : (p q : List A) (n : ℕ) (a : A) → set (p ++ q) (length p + n) a ≡ p ++ set q n a
  set_past [] q n a = rw zero-add
  set_past (x ∷ p) q n a = rw suc-add (ap (λ (l : List A). x ∷ l) (set_past p q n a))

  -- one element stored
  pub put_set : (w : List A) (i : ℕ) (s : List A) (j : ℕ) (a : A) → i + length s ≤ length w → j < length s
      → set (put w i s) (i + j) a ≡ put w i (set s j a)
  unfolding put
  put_set w i s j a h l =
      rw (length-set s j a, ← set-append_left s (drop (i + length s) w) j a l)
      (rw (length-take-le i w (omega arith)) at (set_past (take i w) (s ++ drop (i + length s) w) j a))

  -- into the first places
  pub put_first : (w l : List A) → put w 0 l ≡ l ++ drop (length l) w
  unfolding put
  put_first w l = rw zero-add

  pub put_all : (w : List A) (a : ℕ) (s : List A) → put w a s ≡ paste w a s (length s)
  put_all w a s = sym (ap (put w a) (take-length s)) ∙ put_paste w a s (length s) (omega arith)

  -- a list put right behind one that was put
  pub put_on : (b : List A) (at : ℕ) (p q : List A) → at + length p ≤ length b → put (put b at p) (at + length p) q ≡ put b at (p ++ q)
  unfolding put
  put_on b at p q room =
      let e : length (p ++ q) ≡ length p + length q = length-append p q in
      rw (taken, beyond, e) (simp (append_assoc, add_assoc))
    where
      front : length (take at b ++ p) ≡ at + length p
      front = simp (length-append, length-take-le at b (omega arith))

      taken : take (at + length p) (take at b ++ (p ++ drop (at + length p) b)) ≡ take at b ++ p
      taken = rw (← append_assoc (take at b) p (drop (at + length p) b)) (take_at (take at b ++ p) (drop (at + length p) b) (at + length p) front)

      beyond : drop (at + length p + length q) (take at b ++ (p ++ drop (at + length p) b)) ≡ drop (at + length p + length q) b
      beyond = put_beyond b at p room (at + length p + length q) (omega arith)

  -- a list put over the front leaves nothing of it
  pub put_forgets : (u w l : List A) (k : ℕ) → k ≤ length l → drop k u ≡ drop k w → put u 0 l ≡ put w 0 l
  put_forgets u w l k h e = put_first u l ∙ ap (λ (v : List A). l ++ v) behind ∙ sym (put_first w l)
    where
      behind : drop (length l) u ≡ drop (length l) w
      behind =
          let m : k + (length l - k) ≡ length l = omega arith in
          rw (← m) (sym (drop-drop (length l - k) k u) ∙ ap (drop (length l - k)) e ∙ drop-drop (length l - k) k w)
