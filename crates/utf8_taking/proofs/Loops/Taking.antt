-- The one pass: what holds when the bytes up to a place are taken, one sequence more, a run of ASCII more, and two parts that follow each other. Assumes nothing.
use Rattle.std.specs.Prelude.{Ok, Err}
use Prim.Native.Nat.{ℕ, ◌+◌, ◌-◌, ◌*◌, ◌/◌, ◌≤◌, ◌<◌}
use mathlib.Core.Path.{◌≡◌, refl, sym, ap, subst, ◌∙◌}
use mathlib.Core.List.{List, [], ◌∷◌, ◌++◌, append_assoc, append-nil}
use mathlib.Core.Bool.{true, false}
use native.Mathlib.Nat.{add-zero}
use native.Mathlib.Numerals.{add-one}
use native.Mathlib.Omega.{arith}
use lib.ListN.{length, take, drop, set, length-set, length-append}
use lib.Seq.{take-suc-set, take-set-le, take-length, take-paste}
use lib.Dec.{leb}
use borrow.Author.Tests.{leb-true}
use Rattle.base.specs.Put.{put}
use Rattle.base.proofs.Laws.Put.{put_length, put_all}
use Rattle.base.proofs.Laws.Tests.{and_l, split}
use Rattle.utf8_table.specs.WellFormed.{Step, two, point_of_two, point_of_three, point_of_four, no_row, byte_at, continues, step_at}
use Rattle.utf8_table.specs.Inner.ByLead.{leads_two, leads_three, leads_four}
use Rattle.utf8_table.proofs.Laws.Complete.{got}
use Rattle.utf8_meaning.specs.Text.{Reading, ended, after, reading, text_of, fault_at}
use Rattle.utf8_meaning.specs.Inner.Text.{from}
use Rattle.utf8_meaning.specs.Inner.Answer.{measured}
use Rattle.utf8_meaning.specs.Inner.Ascii.{AsciiRun}
use Rattle.utf8_taking.specs.Inner.Taking.{NO_ASCII, AHEAD, Room, Behind, Beyond, Twos, Put, Taken, Took}
use Rattle.utf8_meaning.proofs.Laws.Text.{past, from_start, from_end, is_whole, is_broken}
use Rattle.utf8_meaning.proofs.Laws.Ascii.{run_text}
use Rattle.utf8_meaning.proofs.Laws.Going.{goes_on, fits, run_length}
use Rattle.utf8_meaning.proofs.Laws.Places.{yes, no, at_one, at_two, at_three, at_four}

-- one code point of k bytes more
pub record Further (bytes old new : List ℕ) (i n j m k p : ℕ) : Type 0 where
  pub fits : j + k ≤ length bytes
  pub room : m < length new
  pub next : Taken bytes old (set new m p) i n (j + k) (m + 1)

-- code points before a reading that has code points before it
after_join : (ps qs : List ℕ) (r : Reading) → after ps (after qs r) ≡ after (ps ++ qs) r
after_join ps qs r = ap (λ (x : List ℕ). record { text = x; stop = r.stop }) (sym (append_assoc ps qs r.text))

module _ (bytes : List ℕ) where
  pub taken_none : (out : List ℕ) (i n : ℕ) → i ≤ length bytes → Taken bytes out out i n i n
  taken_none out i n h =
      record {
        inside = h;
        few = omega arith;
        same = refl;
        points = [];
        many = add-zero n;
        reads = refl;
        front = sym (append-nil (take n out));
      }

  -- a run of ASCII, copied
  pub taken_run : (out : List ℕ) (i n r : ℕ) → AsciiRun bytes i r → n + (r - i) ≤ length out
      → Taken bytes out (put out n (take (r - i) (drop i bytes))) i n r (n + (r - i))
  taken_run out i n r s h =
      let ps = take (r - i) (drop i bytes) in
      let l : length (take (r - i) (drop i bytes)) ≡ r - i = run_length bytes i r s in
      let k : n + length (take (r - i) (drop i bytes)) ≤ length out = omega (arith, l, h) in
      record {
        inside = s.inside;
        few = omega (arith, s.here);
        same = put_length out n ps k;
        points = ps;
        many = ap (λ (m : ℕ). n + m) l;
        reads = run_text bytes i r s;
        front =
            ap (λ (m : ℕ). take (n + m) (put out n ps)) (sym l)
            ∙ ap (take (n + length ps)) (put_all out n ps)
            ∙ take-paste out n ps (length ps) (omega (arith, k)) (omega arith)
            ∙ ap (λ (x : List ℕ). take n out ++ x) (take-length ps);
      }

  module _ (old new : List ℕ) (i n j m : ℕ) (t : Taken bytes old new i n j m) where
    pub taken_on : i ≤ j
    taken_on = omega (arith, t.few, t.many)

    taken_more : (k p : ℕ) → step_at bytes j ≡ got k p → 1 ≤ k → m < length new → Taken bytes old (set new m p) i n (j + k) (m + 1)
    taken_more k p e h r =
        record {
          inside = fits bytes j k p e h;
          few = omega (arith, t.few);
          same = length-set new m p ∙ t.same;
          points = t.points ++ (p ∷ []);
          many = omega (arith, t.many, length-append t.points (p ∷ []));
          reads = t.reads ∙ ap (after t.points) (goes_on bytes j k p e h) ∙ after_join t.points (p ∷ []) (from bytes (j + k));
          front =
              ap (λ (x : ℕ). take x (set new m p)) (add-one m)
              ∙ take-suc-set new m p r
              ∙ ap (λ (x : List ℕ). x ++ (p ∷ [])) t.front
              ∙ append_assoc (take n old) t.points (p ∷ []);
        }

    -- what is written past what is taken is of no account
    taken_aside : (k p : ℕ) → m ≤ k → Taken bytes old (set new k p) i n j m
    taken_aside k p h =
        record {
          inside = t.inside;
          few = t.few;
          same = length-set new k p ∙ t.same;
          points = t.points;
          many = t.many;
          reads = t.reads;
          front = take-set-le m new k p h ∙ t.front;
        }

    module _ (q : Room bytes old i n) where
      -- as many places are left as bytes, or more
      pub taken_step : (k p : ℕ) → step_at bytes j ≡ got k p → 1 ≤ k → Further bytes old new i n j m k p
      taken_step k p e h =
          let f = fits bytes j k p e h in
          let r : m < length new = omega (arith, f, h, t.few, t.same, q.places) in
          record { fits = f; room = r; next = taken_more k p e h r }

      module _ (h : j < length bytes) where
        pub taken_two : byte_at bytes j < 0xE0 → leads_two (byte_at bytes j) (byte_at bytes (j + 1)) ≡ true
            → Further bytes old new i n j m 2 (point_of_two (byte_at bytes j) (byte_at bytes (j + 1)))
        unfolding leads_two
        taken_two k e =
            let c = leb-true 0xC2 (byte_at bytes j) (and_l (leb 0xC2 (byte_at bytes j)) (continues (byte_at bytes (j + 1))) e) in
            taken_step 2 _ (yes (leads_two (byte_at bytes j) (byte_at bytes (j + 1))) (at_two bytes j h (omega (arith, c)) k) e) (omega arith)

        pub taken_three : byte_at bytes j / 16 ≡ 0xE → leads_three (byte_at bytes j) (byte_at bytes (j + 1)) (byte_at bytes (j + 2)) ≡ true
            → Further bytes old new i n j m 3 (point_of_three (byte_at bytes j) (byte_at bytes (j + 1)) (byte_at bytes (j + 2)))
        taken_three k e = taken_step 3 _ (yes _ (at_three bytes j h (omega (arith, k)) (omega (arith, k))) e) (omega arith)

        pub taken_four : 0xF0 ≤ byte_at bytes j
            → leads_four (byte_at bytes j) (byte_at bytes (j + 1)) (byte_at bytes (j + 2)) (byte_at bytes (j + 3)) ≡ true
            → Further bytes old new i n j m 4
            (point_of_four (byte_at bytes j) (byte_at bytes (j + 1)) (byte_at bytes (j + 2)) (byte_at bytes (j + 3)))
        taken_four k e = taken_step 4 _ (yes _ (at_four bytes j h k) e) (omega arith)

    pub taken_join : (last : List ℕ) (k l : ℕ) → Taken bytes new last j m k l → Taken bytes old last i n k l
    taken_join last k l u =
        record {
          inside = u.inside;
          few = omega (arith, t.few, u.few);
          same = u.same ∙ t.same;
          points = t.points ++ u.points;
          many = omega (arith, t.many, u.many, length-append t.points u.points);
          reads = t.reads ∙ ap (after t.points) u.reads ∙ after_join t.points u.points (from bytes k);
          front =
              u.front
              ∙ ap (λ (x : List ℕ). x ++ u.points) t.front
              ∙ append_assoc (take n old) t.points u.points;
        }

  -- and so is what stood there before
  taken_over : (old new : List ℕ) (i n j m p : ℕ) → Taken bytes (set old n p) new i n j m → Taken bytes old new i n j m
  taken_over old new i n j m p t =
      record {
        inside = t.inside;
        few = t.few;
        same = t.same ∙ length-set old n p;
        points = t.points;
        many = t.many;
        reads = t.reads;
        front = t.front ∙ ap (λ (x : List ℕ). x ++ t.points) (take-set-le n old n p (omega arith));
      }

  -- where something is left behind what is taken, there is room for it
  pub room_on : (old new : List ℕ) (i n j m : ℕ) → Behind bytes old i n → Taken bytes old new i n j m → j < length bytes → Room bytes new j m
  room_on old new i n j m q t h = record { left = h; places = omega (arith, q.places, t.few, t.same) }

  -- what is taken behind what was taken, of which there is some or no sequence stands there
  pub took_on : (old new : List ℕ) (i n j m : ℕ) → Took bytes old new i n j m → (last : List ℕ) (k l : ℕ) → Taken bytes new last j m k l
      → Took bytes old last i n k l
  took_on old new i n j m t last k l u =
      let h = taken_on old new i n j m t.taken in
      let g = taken_on new last j m k l u in
      record { taken = taken_join old new i n j m t.taken last k l u; none = λ e. t.none (omega (arith, h, g, e)) }

  module _ (out : List ℕ) (i n : ℕ) (q : Room bytes out i n) where
    pub place_behind : (k p : ℕ) → i + k < length bytes → n + k < length (set out n p)
    place_behind k p h = omega (arith, q.places, h, length-set out n p)

    here : Taken bytes out out i n i n
    here = taken_none out i n (omega (arith, q.left))

    -- a sequence of three, behind an ASCII byte or over the place of one
    pub taken_spaced : (f p : ℕ) → Beyond (byte_at bytes i) f → step_at bytes (i + (1 - f)) ≡ got 3 p
        → Taken bytes out (set (set out n (byte_at bytes i)) (n + (1 - f)) p) i n (i + (1 - f) + 3) (n + (1 - f) + 1)
    taken_spaced f p b e =
        let a = byte_at bytes i in
        split a NO_ASCII
        (λ h.
        let g : 1 - f ≡ 1 = omega (arith, b.is, h) in
        let t = (taken_step out out i n i n here q 1 a (at_one bytes i q.left h) (omega arith)).next in
        rw g (taken_step out (set out n a) i n (i + 1) (n + 1) t q 3 p (rw g at e) (omega arith)).next)
        (λ h.
        let g : f ≡ 1 = omega (arith, b.is, b.small, h) in
        let g₁ : i + (1 - f) ≡ i = omega (arith, g) in
        let g₂ : n + (1 - f) ≡ n = omega (arith, g) in
        let l = length-set out n a in
        let r : Room bytes (set out n a) i n = record { left = q.left; places = omega (arith, q.places, l) } in
        let t = taken_none (set out n a) i n (omega (arith, q.left)) in
        rw (g₁, g₂)
        (taken_over out _ i n (i + 3) (n + 1) a (taken_step (set out n a) (set out n a) i n i n t r 3 p (rw g₁ at e) (omega arith)).next))

  -- ---- sequences of two that are looked at together, from the last to the first: those from j on that stand before `first` are such
  pub record Backward (i first j : ℕ) : Type 0 where
    pub few : first ≤ AHEAD
    pub each : (k : ℕ) → j ≤ k → k < first → step_at bytes (i + 2 * k) ≡ two (byte_at bytes (i + 2 * k)) (byte_at bytes (i + 2 * k + 1))

  -- ---- what they are as code points: those of the first j that stand are taken
  module _ (old : List ℕ) (i n : ℕ) where
    pub Placed : List ℕ → ℕ → Type 0
    Placed new j = (k : ℕ) → k ≤ j → Twos bytes i k → Taken bytes old new i n (i + 2 * k) (n + k)

  pub placed_start : (out : List ℕ) (i n : ℕ) → i ≤ length bytes → Placed out i n out 0
  unfolding Placed
  placed_start out i n h k a t =
      let q : k ≡ 0 = omega arith in
      let q₁ : i + 2 * k ≡ i = omega (arith, q) in
      let q₂ : n + k ≡ n = omega (arith, q) in
      rw (q₁, q₂) (taken_none out i n h)

  module _ (old new : List ℕ) (i n j : ℕ) (q : Room bytes old i n) (s : Placed old i n new j) where
    pub placed_more : (p : ℕ) → p ≡ point_of_two (byte_at bytes (i + 2 * j)) (byte_at bytes (i + 2 * j + 1)) → Placed old i n (set new (n + j) p) (j + 1)
    unfolding Placed
    placed_more p e k a t =
        split k (j + 1)
        (λ m. taken_aside old new i n (i + 2 * k) (n + k) (s k (omega (arith, m)) t) (n + j) p (omega (arith, m)))
        (λ m.
        let w : k ≡ j + 1 = omega arith in
        let w₁ : i + 2 * k ≡ i + 2 * j + 2 = omega (arith, w) in
        let w₂ : n + k ≡ n + j + 1 = omega (arith, w) in
        let u : Twos bytes i j = record { few = omega (arith, t.few, w); each = λ x y. t.each x (omega (arith, y, w)) } in
        rw (w₁, w₂, e)
        (taken_step old new i n (i + 2 * j) (n + j) (s j (omega arith) u) q 2 _ (t.each j (omega (arith, w))) (omega arith)).next)

    pub placed_length : length new ≡ length old
    unfolding Placed
    placed_length = (s 0 (omega arith) (record { few = omega arith; each = λ k b. absurd (omega arith) })).same

  pub placed_all : (old new : List ℕ) (i n j : ℕ) → Placed old i n new j → AHEAD ≤ j → Put bytes old new i n
  unfolding Placed
  placed_all old new i n j s h f t = s f (omega (arith, t.few)) t

  -- an ASCII byte behind what is taken
  pub taken_lone : (old new : List ℕ) (i n j m : ℕ) → Taken bytes old new i n j m → Behind bytes old i n → i < length bytes → j < length bytes
      → byte_at bytes j < NO_ASCII → (p : ℕ) → p ≡ byte_at bytes j → Taken bytes old (set new m p) i n (j + 1) (m + 1)
  taken_lone old new i n j m t q h k l p e =
      rw e (taken_step old new i n j m t (record { left = h; places = q.places }) 1 _ (at_one bytes j k l) (omega arith)).next

  module _ (i : ℕ) (h : i < length bytes) where
    -- where a loop ends at the place that it began at, no sequence stands there: j is where it ends
    module _ (j : ℕ) where
      pub none_two : 0x80 ≤ byte_at bytes i → byte_at bytes i < 0xE0 → leads_two (byte_at bytes j) (byte_at bytes (j + 1)) ≡ false → j ≡ i
          → step_at bytes i ≡ no_row
      none_two k l f e =
          no _ _ (at_two bytes i h k l) (subst (λ (x : ℕ). leads_two (byte_at bytes x) (byte_at bytes (x + 1)) ≡ false) e f)

      pub none_three : 0xE0 ≤ byte_at bytes i → byte_at bytes i < 0xF0
          → leads_three (byte_at bytes j) (byte_at bytes (j + 1)) (byte_at bytes (j + 2)) ≡ false → j ≡ i → step_at bytes i ≡ no_row
      none_three k l f e =
          no _ _ (at_three bytes i h k l)
          (subst (λ (x : ℕ). leads_three (byte_at bytes x) (byte_at bytes (x + 1)) (byte_at bytes (x + 2)) ≡ false) e f)

      -- and it does not end there at another byte, nor at the end of the bytes
      pub not_there : (byte_at bytes j ≡ byte_at bytes i → ⊥) → j ≡ i → step_at bytes i ≡ no_row
      not_there f e = absurd (f (ap (byte_at bytes) e))

      pub not_past : length bytes ≤ j → j ≡ i → step_at bytes i ≡ no_row
      not_past k e = absurd (omega (arith, h, k, e))

    pub none_four : 0xF0 ≤ byte_at bytes i
        → leads_four (byte_at bytes i) (byte_at bytes (i + 1)) (byte_at bytes (i + 2)) (byte_at bytes (i + 3)) ≡ false
        → step_at bytes i ≡ no_row
    none_four k f = no _ _ (at_four bytes i h k) f

  -- an ASCII byte, and the run behind it
  pub run_room : (out : List ℕ) (i n r p : ℕ) → Room bytes out i n → AsciiRun bytes (i + 1) r
      → n + 1 + length (take (r - (i + 1)) (drop (i + 1) bytes)) ≤ length (set out n p)
  run_room out i n r p q s =
      omega (arith, run_length bytes (i + 1) r s, length-set out n p, q.left, q.places, s.here, s.inside)

  pub took_ascii : (out : List ℕ) (i n r : ℕ) → Room bytes out i n → byte_at bytes i < 0x80 → AsciiRun bytes (i + 1) r
      → Took bytes out (put (set out n (byte_at bytes i)) (n + 1) (take (r - (i + 1)) (drop (i + 1) bytes))) i n r (n + (r - i))
  took_ascii out i n r q k s =
      let new = set out n (byte_at bytes i) in
      let t = (taken_step out out i n i n (taken_none out i n (omega (arith, q.left))) q 1 _ (at_one bytes i q.left k) (omega arith)).next in
      let l = length-set out n (byte_at bytes i) in
      let u = taken_run new (i + 1) (n + 1) r s (omega (arith, l, q.left, q.places, s.here, s.inside)) in
      let e : n + 1 + (r - (i + 1)) ≡ n + (r - i) = omega (arith, s.here) in
      record {
        taken = rw e at (taken_join out new i n (i + 1) (n + 1) t _ r _ u);
        none = λ z. absurd (omega (arith, s.here, z));
      }

  -- the pass from the first byte on
  module _ (old out : List ℕ) (i n : ℕ) (t : Taken bytes old out 0 0 i n) where
    pub room_left : length bytes ≤ length old → i < length bytes → Room bytes out i n
    room_left h k = record { left = k; places = omega (arith, h, t.few, t.same) }

    module _ (e : (step_at bytes i).size ≡ 0) where
      -- where none stands, what is taken is the text
      all_taken : reading bytes ≡ after t.points (ended i)
      all_taken = sym (from_start bytes) ∙ t.reads ∙ ap (after t.points) (from_end bytes i e)

      points_are : text_of bytes ≡ t.points
      points_are = ap (λ (r : Reading). r.text) all_taken ∙ append-nil t.points

      stop_is : fault_at bytes ≡ i
      stop_is = ap (λ (r : Reading). r.stop) all_taken

      count_is : n ≡ length (text_of bytes)
      count_is = omega (arith, t.many, ap length points_are)

      pub taken_text : take (length (text_of bytes)) out ≡ text_of bytes
      taken_text = ap (λ (m : ℕ). take m out) (sym count_is) ∙ t.front ∙ sym points_are

    taken_fault : i < length bytes → step_at bytes i ≡ no_row → (Err i ≡ measured bytes) × (take (length (text_of bytes)) out ≡ text_of bytes)
    unfolding measured
    taken_fault h e =
        let z : (step_at bytes i).size ≡ 0 = ap (λ (s : Step). s.size) e in
        (rw (is_broken bytes (omega (arith, h, stop_is z))) (ap Err (sym (stop_is z))), taken_text z)

    pub taken_end : length bytes ≤ i → (Ok n ≡ measured bytes) × (take (length (text_of bytes)) out ≡ text_of bytes)
    unfolding measured
    taken_end h =
        let z = past bytes i h in
        (rw (is_whole bytes (omega (arith, h, stop_is z))) (ap Ok (count_is z)), taken_text z)

  -- where a turn takes nothing, the first fault stands
  pub taken_stop : (old out : List ℕ) (i n : ℕ) → Taken bytes old out 0 0 i n → (last : List ℕ) (j m : ℕ) → Took bytes out last i n j m → j ≡ i → i < length bytes
      → (Err i ≡ measured bytes) × (take (length (text_of bytes)) last ≡ text_of bytes)
  taken_stop old out i n t last j m u e h =
      taken_fault old last i m (subst (λ (x : ℕ). Taken bytes old last 0 0 x m) e (taken_join old out 0 0 i n t last j m u.taken)) h (u.none e)
