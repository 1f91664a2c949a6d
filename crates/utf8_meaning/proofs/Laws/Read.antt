-- What the answers of a reading say of encodings, for readers and for a writer of UTF-8. The bytes accepted are the concatenation of the
-- encodings of the text, so that nothing else is accepted (`accepted_encodes`); every such concatenation within the limits is accepted,
-- and gives its text (`encoded_accepted`); the place in a refusal 2 is the length of the longest front that is such a concatenation
-- (`refused_place`). Assumes nothing.
use Rattle.std.specs.Prelude.{Result, Ok, Err, ⊤}
use Prim.Native.Nat.{ℕ, ◌*◌, ◌≤◌, ◌<◌}
use mathlib.Core.Path.{◌≡◌, refl, sym, ap, ◌∙◌}
use mathlib.Core.List.{List, [], ◌∷◌, ◌++◌}
use mathlib.Core.Bool.{Bool, true, false, not}
use native.Mathlib.Omega.{arith}
use lib.ListN.{length, take, length-append}
use lib.Dec.{ltb}
use Rattle.base.specs.declared.refusals.Cause.{Cause}
use Rattle.base.specs.declared.Refusal.{Refusal}
use Rattle.base.specs.Causes.{refused_at, given, first_of}
use Rattle.base.specs.Limits.{LONGEST_BYTES, LONGEST_TEXT}
use Rattle.base.specs.Put.{put}
use Rattle.base.specs.declared.refusals.Cause.TheVariants.{TooLong, IllFormed, NoRoom}
use Rattle.base.proofs.Laws.Causes.{never, first_free}
use Rattle.base.proofs.Laws.Counted.{counted_allowed, count_allowed, count_is}
use Rattle.utf8_table.specs.Encoding.{encode_all, scalars}
use Rattle.utf8_table.proofs.Laws.Encoding.{encode_size}
use Rattle.utf8_meaning.specs.Inner.Readable.{Readable}
use Rattle.utf8_meaning.specs.Text.{text_of, fault_at, well_formed}
use Rattle.utf8_meaning.proofs.Laws.Text.{fault_within, broken_is}
use Rattle.utf8_meaning.proofs.Laws.Encoded.{text_scalars, fault_front, fault_longest, well_formed_encoded, encoded_text, encoded_well_formed}
use Rattle.utf8_meaning.specs.Answer.{many_bytes, ill_formed, many_points, no_room, causes, answer}
use Rattle.utf8_meaning.specs.Inner.Answer.{count_utf8}
use Rattle.utf8_meaning.proofs.Laws.Answer.{free_readable, readable_free, Ends, reads}
use Rattle.utf8_meaning.specs.Read.{Encodes}

pub accepted_encodes : (bytes : List ℕ) (room n : ℕ) → answer bytes room ≡ Ok n → Encodes bytes n
unfolding answer causes
accepted_encodes bytes room n e =
    let a = first_free (many_bytes bytes) _ (count_allowed (causes bytes room) (length (text_of bytes)) n e) in
    let b = first_free (ill_formed bytes) _ a.1 in
    let c = first_free (many_points bytes) _ b.1 in
    let r = free_readable bytes a.0 b.0 c.0 in
    record {
      scalar = text_scalars bytes;
      bytes_are = sym (well_formed_encoded bytes r.whole);
      count = count_is (causes bytes room) (length (text_of bytes)) n e;
    }

-- a text takes at most four bytes a code point, so that the limit of bytes is met where that of code points is
encoded_most : (cs : List ℕ) → length (encode_all cs) ≤ 4 * length cs
unfolding encode_all
encoded_most [] = omega arith
encoded_most (c ∷ cs) = simp length-append (omega (arith, (encode_size c).1, encoded_most cs))

module _ (cs : List ℕ) (s : scalars cs ≡ true) (h : length cs ≤ LONGEST_TEXT) where
  readable_all : Readable (encode_all cs) (length cs)
  readable_all =
      let t : text_of (encode_all cs) ≡ cs = encoded_text cs s in
      record {
        short = omega (arith, encoded_most cs);
        whole = encoded_well_formed cs s;
        count = ap length (sym t);
        few = h;
      }

  pub encoded_counted : count_utf8 (encode_all cs) ≡ Ok (length cs)
  unfolding count_utf8
  encoded_counted =
      counted_allowed _ _ (readable_free (encode_all cs) (length cs) readable_all) ∙ ap (λ (l : List ℕ). Ok (length l)) (encoded_text cs s)

  pub encoded_accepted : (out : List ℕ) → length cs ≤ length out → Ends (encode_all cs) out (Ok (length cs)) (put out 0 cs)
  encoded_accepted out k = rw (encoded_text cs s) at (reads (encode_all cs) out (length cs) encoded_counted k)

-- what a refusal 2 says of its place
pub record LongestFront (bytes : List ℕ) (p : ℕ) : Type 0 where
  pub inside : p < length bytes
  pub scalar : scalars (text_of bytes) ≡ true
  pub front : encode_all (text_of bytes) ≡ take p bytes
  pub longest : (cs rest : List ℕ) → scalars cs ≡ true → bytes ≡ encode_all cs ++ rest → length (encode_all cs) ≤ p

module _ (p : ℕ) where
  another : (cause : Cause) (place : ℕ) → ◌≡◌ {A = Result ⊤ Refusal} (Err (record { cause = cause; place = place })) (Err (record { cause = IllFormed; place = p })) → cause ≡ IllFormed
  another cause place e = ap (λ (r : Refusal). r.cause) (same e)
    where
      same : {r q : Refusal} → ◌≡◌ {A = Result ⊤ Refusal} (Err r) (Err q) → r ≡ q
      same f = cc

  -- the other causes of reading are not an ill-formed sequence
  not_long : TooLong ≡ IllFormed → ⊥
  not_long e = let z : ◌≡◌ {A = ℕ} 0 1 = cc in omega arith

  not_room : NoRoom ≡ IllFormed → ⊥
  not_room e = let z : ◌≡◌ {A = ℕ} 0 1 = cc in omega arith

  passed : (b : Bool) (cause : Cause) (place : ℕ) (cs : List (Result ⊤ Refusal)) → (cause ≡ IllFormed → ⊥)
      → first_of (given b cause place ∷ cs) ≡ refused_at IllFormed p → first_of cs ≡ refused_at IllFormed p
  unfolding first_of given refused_at
  passed true cause place cs n e = absurd (n (another cause place e))
  passed false cause place cs n e = e

  here : (w : Bool) (q : ℕ) (cs : List (Result ⊤ Refusal)) → (first_of cs ≡ refused_at IllFormed p → ⊥)
      → first_of (given (not w) IllFormed q ∷ cs) ≡ refused_at IllFormed p → (w ≡ false) × (p ≡ q)
  unfolding first_of given refused_at
  here true q cs n e = absurd (n e)
  here false q cs n e = (refl, ap (λ (r : Refusal). r.place) (same e))
    where
      same : {r s : Refusal} → ◌≡◌ {A = Result ⊤ Refusal} (Err r) (Err s) → s ≡ r
      same f = cc

  last : (bytes : List ℕ) (room : ℕ) → first_of (many_points bytes ∷ no_room bytes room ∷ []) ≡ refused_at IllFormed p → ⊥
  unfolding many_points no_room first_of refused_at
  last bytes room e =
      let a = passed (ltb LONGEST_TEXT (length (text_of bytes))) TooLong 0 (no_room bytes room ∷ []) not_long e in
      never _ (sym (passed (ltb room (length (text_of bytes))) NoRoom 0 [] not_room a))

  pub refused_place : (bytes : List ℕ) (room : ℕ) → causes bytes room ≡ refused_at IllFormed p → LongestFront bytes p
  unfolding causes many_bytes ill_formed
  refused_place bytes room e =
      let a = passed (ltb LONGEST_BYTES (length bytes)) TooLong 0 _ not_long e in
      let f = here (well_formed bytes) (fault_at bytes) _ (last bytes room) a in
      let z : p ≡ fault_at bytes = f.1 in
      record {
        inside = omega (arith, fault_within bytes, broken_is bytes f.0);
        scalar = text_scalars bytes;
        front = fault_front bytes ∙ ap (λ (n : ℕ). take n bytes) (sym z);
        longest = λ cs rest s b. omega (arith, fault_longest bytes cs rest s b);
      }
