-- Both round trips, about the two calls in a row: the second is lent what the first left in its output, cut to its count (02 [3]: "Reading the output
-- gives the text; writing a well-formed input's reading gives its bytes"). `written_read`: what was written for a text, read, is that text, and the
-- reader accepts it wherever it has room for the text. `read_written`: what was read from bytes, written, is those bytes, and the writer accepts it
-- wherever it has room for the bytes. Assumes nothing.
use Rattle.std.specs.Prelude.{Ok}
use Prim.Native.Nat.{ℕ, ◌≤◌}
use mathlib.Core.Path.{◌≡◌, refl, sym, ap, subst, ◌∙◌}
use mathlib.Core.List.{List, ◌++◌}
use mathlib.Core.Bool.{true}
use native.Mathlib.Omega.{arith}
use lib.ListN.{length, take, drop}
use lib.Seq.{take-append_seam}
use Rattle.base.specs.Limits.{LONGEST_TEXT}
use Rattle.base.specs.Put.{put}
use Rattle.base.proofs.Laws.Causes.{first_free}
use Rattle.base.proofs.Laws.Counted.{count_allowed, count_is, after_allowed}
use Rattle.base.proofs.Laws.Put.{put_first}
use Rattle.utf8_table.specs.Encoding.{encode_all, scalars}
use Rattle.utf8_meaning.specs.Inner.Readable.{Readable}
use Rattle.utf8_meaning.specs.Text.{text_of}
use Rattle.utf8_meaning.specs.Answer as read
use Rattle.utf8_meaning.proofs.Laws.Answer as reading
use Rattle.utf8_meaning.proofs.Laws.Encoded.{text_scalars, well_formed_encoded}
use Rattle.utf8_meaning.proofs.Laws.Read.{encoded_accepted}
use Rattle.utf8_write_meaning.specs.Answer.{answer, out_after}
use Rattle.utf8_write_meaning.proofs.Laws.Answer.{Ends, writes, Accepted, accepted}

-- what was put into the first places is what stands in them
front : (out l : List ℕ) → take (length l) (put out 0 l) ≡ l
front out l = ap (take (length l)) (put_first out l) ∙ take-append_seam l (drop (length l) out)

-- the bytes that an accepted call left, cut to its count, are the encodings of the text, one after the other
pub written_bytes : (text out : List ℕ) (n : ℕ) → answer text (length out) ≡ Ok n → take n (out_after text out) ≡ encode_all text
written_bytes text out n e =
    let a = accepted text (length out) n e in
    let w = writes text out a.short a.scalar (omega (arith, a.count, a.fits)) in
    let l : n ≡ length (encode_all text) = a.count in
    rw (← w.1, l) (front out (encode_all text))

pub written_read : (text out : List ℕ) (n : ℕ) → answer text (length out) ≡ Ok n
    → (room : List ℕ) → length text ≤ length room
    → (read.answer (take n (out_after text out)) (length room) ≡ Ok (length text)) × (read.out_after (take n (out_after text out)) room ≡ put room 0 text)
written_read text out n e room h =
    let a = accepted text (length out) n e in
    let r = encoded_accepted text a.scalar a.short room h in
    rw (written_bytes text out n e) (sym r.0, sym r.1)

-- what is known of a reading that was accepted
record Got (bytes room : List ℕ) (n : ℕ) : Type 0 where
  pub readable : Readable bytes (length (text_of bytes))
  pub text : take n (read.out_after bytes room) ≡ text_of bytes

-- what a reading left, cut to its count, is the text of its bytes
read_text : (bytes room : List ℕ) (n : ℕ) → read.answer bytes (length room) ≡ Ok n → Got bytes room n
unfolding read.answer read.causes read.out_after
read_text bytes room n e =
    let a = count_allowed (read.causes bytes (length room)) (length (text_of bytes)) n e in
    let b = first_free (read.many_bytes bytes) _ a in
    let c = first_free (read.ill_formed bytes) _ b.1 in
    let d = first_free (read.many_points bytes) _ c.1 in
    let k = count_is (read.causes bytes (length room)) (length (text_of bytes)) n e in
    record {
      readable = reading.free_readable bytes b.0 c.0 d.0;
      text = ap (take n) (after_allowed (text_of bytes) room _ a) ∙ ap (λ (m : ℕ). take m (put room 0 (text_of bytes))) k ∙ front room (text_of bytes);
    }

pub read_written : (bytes room : List ℕ) (n : ℕ) → read.answer bytes (length room) ≡ Ok n
    → (out : List ℕ) → length bytes ≤ length out
    → (answer (take n (read.out_after bytes room)) (length out) ≡ Ok (length bytes)) × (out_after (take n (read.out_after bytes room)) out ≡ put out 0 bytes)
read_written bytes room n e out h =
    let g = read_text bytes room n e in
    let r = g.readable in
    let w : encode_all (text_of bytes) ≡ bytes = well_formed_encoded bytes r.whole in
    let k : length (encode_all (text_of bytes)) ≤ length out = rw w h in
    let d : Ends (text_of bytes) out (Ok (length bytes)) (put out 0 bytes) = rw w at (writes (text_of bytes) out r.few (text_scalars bytes) k) in
    rw g.text (sym d.0, sym d.1)
