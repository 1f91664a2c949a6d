-- Laws of a good page: no two used bytes have one code point (`point_once`), so that the byte of a byte's code point is that byte (`byte_of_point`)
-- and the code point of a code point's byte that code point (`point_of_byte`). Assumes nothing.
use Prim.Native.Nat.{ℕ, ◌+◌, ◌-◌, ◌≤◌, ◌<◌}
use mathlib.Core.Path.{◌≡◌, refl, sym, ap, ◌∙◌}
use mathlib.Core.Logic.{◌≢◌}
use mathlib.Core.Bool.{Bool, true, false, cond, not, ◌&&◌, ◌||◌}
use mathlib.Core.List.{List}
use native.Mathlib.Omega.{arith}
use lib.ListN.{length, get_or, take}
use lib.Dec.{eqb, ltb}
use borrow.Author.Tests.{eq-eqb, ne_eqb, eqb-true, eqb-false, ltb-true, ltb-false, lt-ltb, le-ltb}
use Rattle.base.specs.Among.{among}
use Rattle.base.specs.First.{first}
use Rattle.base.specs.Limits.{SURROGATE_FIRST, SURROGATE_LAST}
use Rattle.base.specs.Tests.{within}
use Rattle.base.proofs.Laws.First.{first_is, first_before, first_found, first_within}
use Rattle.base.proofs.Laws.Tests.{by_bool, split}
use Rattle.page_meaning.specs.Page.{PAGE_ENTRIES, FIRST_HIGH, BYTES, UNUSED, entry, bad_entry, first_bad, point_of, byte_of, lacks}
use Rattle.page_meaning.specs.Inner.Good.{Good}
use Rattle.page_meaning.proofs.Laws.Lists.{get_d_any, get_d_past, among_before}

module _ (page : List ℕ) where
  pub point_low : (b : ℕ) → b < FIRST_HIGH → point_of page b ≡ b
  unfolding point_of
  point_low b h = rw (lt-ltb b FIRST_HIGH h)

  pub point_high : (b : ℕ) → FIRST_HIGH ≤ b → point_of page b ≡ entry page (b - FIRST_HIGH)
  unfolding point_of
  point_high b h = rw (le-ltb b FIRST_HIGH h)

-- the tests of an entry that was read
pub entry_tested : (page : List ℕ) (i x : ℕ) (twice : Bool) → i < length page → x ≡ get_or page i 0 → twice ≡ among (get_or page i 0) (take i page)
    → (not (eqb x UNUSED) && (ltb x FIRST_HIGH || twice || within SURROGATE_FIRST SURROGATE_LAST x)) ≡ bad_entry page i
unfolding bad_entry
entry_tested page i x twice h e t = rw (t, e, get_d_any page i UNUSED 0 h)

-- what an entry is that is used and not bad
used_good : (u low twice sur : Bool) → not u && (low || twice || sur) ≡ false → u ≡ false → (low ≡ false) × (twice ≡ false)
used_good u true twice sur e w = let z : true ≡ false = rw w at e in absurd (no z)
  where
    no : true ≡ false → ⊥
    no z = let y : ◌≡◌ {A = ℕ} 0 1 = cc in omega arith
used_good u false true sur e w = let z : true ≡ false = rw w at e in absurd (no z)
  where
    no : true ≡ false → ⊥
    no z = let y : ◌≡◌ {A = ℕ} 0 1 = cc in omega arith
used_good u false false sur e w = (refl, refl)

module _ (page : List ℕ) (g : Good page) where
  entry_good : (i : ℕ) → i < PAGE_ENTRIES → bad_entry page i ≡ false
  unfolding first_bad
  entry_good i h = first_before (bad_entry page) PAGE_ENTRIES i (omega (arith, g.none_bad))

  entry_facts : (i : ℕ) → i < PAGE_ENTRIES → entry page i ≢ UNUSED
      → (ltb (entry page i) FIRST_HIGH ≡ false) × (among (entry page i) (take i page) ≡ false)
  unfolding bad_entry
  entry_facts i h n =
      used_good (eqb (entry page i) UNUSED) (ltb (entry page i) FIRST_HIGH) (among (entry page i) (take i page))
      (within SURROGATE_FIRST SURROGATE_LAST (entry page i)) (entry_good i h)
      (ne_eqb (entry page i) UNUSED n)

  -- of two equal entries that are used, neither is the later
  not_later : (i k : ℕ) → i < PAGE_ENTRIES → entry page i ≢ UNUSED → entry page k ≡ entry page i → k < i → ⊥
  not_later i k h n e l =
      let a : among (entry page k) (take i page) ≡ true = among_before page i k UNUSED l (omega (arith, g.size)) in
      let b : among (entry page i) (take i page) ≡ true = rw e at a in
      let z : true ≡ false = sym b ∙ (entry_facts i h n).1 in
      let y : ◌≡◌ {A = ℕ} 0 1 = cc in
      omega arith

  entry_once : (i k : ℕ) → i < PAGE_ENTRIES → k < PAGE_ENTRIES → entry page i ≢ UNUSED → entry page i ≡ entry page k → i ≡ k
  entry_once i k h l n e =
      split i k
      (λ a. absurd (not_later k i l (λ z. n (e ∙ z)) e a))
      (λ a. split k i (λ b. absurd (not_later i k h n (sym e) b)) (λ b. omega arith))

  -- a byte that is used is one of the 256
  pub used_byte : (b : ℕ) → point_of page b ≢ UNUSED → b < BYTES
  used_byte b n =
      split b BYTES (λ h. h)
      (λ h. absurd (n (point_high page b (omega arith) ∙ get_d_past page (b - FIRST_HIGH) UNUSED (omega (arith, g.size)))))

  high_point : (b : ℕ) → FIRST_HIGH ≤ b → b < BYTES → point_of page b ≢ UNUSED → FIRST_HIGH ≤ point_of page b
  high_point b h l n =
      let e = point_high page b h in
      ltb-false (point_of page b) FIRST_HIGH (rw e (entry_facts (b - FIRST_HIGH) (omega arith) (λ z. n (e ∙ z))).0)

  pub point_once : (b c : ℕ) → point_of page b ≢ UNUSED → point_of page b ≡ point_of page c → b ≡ c
  point_once b c n e =
      let lb = used_byte b n in
      let m : point_of page c ≢ UNUSED = λ z. n (e ∙ z) in
      let lc = used_byte c m in
      split b FIRST_HIGH
      (λ h. split c FIRST_HIGH
      (λ k. sym (point_low page b h) ∙ e ∙ point_low page c k)
      (λ k. let x = point_low page b h in let y = high_point c k lc m in omega arith))
      (λ h. split c FIRST_HIGH
      (λ k. let x = point_low page c k in let y = high_point b h lb n in omega arith)
      (λ k. let q = entry_once (b - FIRST_HIGH) (c - FIRST_HIGH) (omega arith) (omega arith) (λ z. n (point_high page b h ∙ z))
      (sym (point_high page b h) ∙ e ∙ point_high page c k) in omega arith))

  -- there and back
  pub byte_of_point : (b : ℕ) → point_of page b ≢ UNUSED → byte_of page (point_of page b) ≡ b
  unfolding byte_of
  byte_of_point b n =
      first_is (λ c. eqb (point_of page c) (point_of page b)) BYTES b (used_byte b n) (eq-eqb (point_of page b) (point_of page b) refl)
      (λ c l. ne_eqb (point_of page c) (point_of page b) (λ e. let q = point_once b c n (sym e) in omega arith))

  pub used_has : (b : ℕ) → point_of page b ≢ UNUSED → lacks page (point_of page b) ≡ false
  unfolding lacks
  used_has b n =
      rw (ne_eqb (point_of page b) UNUSED n, byte_of_point b n) (ne_eqb b BYTES (λ z. let h = used_byte b n in omega arith))

-- a code point that the page has, whether or not the page is good
has_parts : (a b : Bool) → (a || b) ≡ false → (a ≡ false) × (b ≡ false)
has_parts true b e = let z : ◌≡◌ {A = ℕ} 0 1 = cc in absurd (no z)
  where
    no : ◌≡◌ {A = ℕ} 0 1 → ⊥
    no z = omega arith
has_parts false b e = (refl, e)

module _ (page : List ℕ) (p : ℕ) (h : lacks page p ≡ false) where
  pub has_used : p ≢ UNUSED
  unfolding lacks
  has_used = eqb-false p UNUSED (has_parts (eqb p UNUSED) (eqb (byte_of page p) BYTES) h).0

  pub has_byte : byte_of page p < BYTES
  unfolding lacks byte_of
  has_byte =
      let n = eqb-false (byte_of page p) BYTES (has_parts (eqb p UNUSED) (eqb (byte_of page p) BYTES) h).1 in
      let w = first_within (λ b. eqb (point_of page b) p) BYTES in
      split (byte_of page p) BYTES (λ l. l) (λ l. absurd (n (omega arith)))

  pub point_of_byte : point_of page (byte_of page p) ≡ p
  unfolding byte_of
  point_of_byte = eqb-true (point_of page (byte_of page p)) p (first_found (λ b. eqb (point_of page b) p) BYTES has_byte)
