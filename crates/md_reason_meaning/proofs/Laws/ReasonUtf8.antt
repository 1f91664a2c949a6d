-- What each way through reading shows of the reason of bytes: `unread`, `unread_into`, `read`, `read_into_lem`. Assumes nothing.
use Rattle.std.specs.Prelude.{Ok, Err}
use Prim.Native.Nat.{ℕ}
use mathlib.Core.Path.{◌≡◌, sym}
use mathlib.Core.List.{List}
use lib.Ieee.{Float}
use lib.ListN.{length}
use Rattle.base.specs.declared.Refusal.{Refusal}
use Rattle.base.proofs.Laws.Causes.{first_front, first_past}
use Rattle.base.proofs.Laws.Counted.{not_counted, after_refused}
use Rattle.utf8_meaning.specs.Text.{text_of}
use Rattle.utf8_meaning.specs.Inner.Answer.{in_bytes, unreadable, count_utf8}
use Rattle.utf8_meaning.proofs.Laws.Answer.{counted_free}
use Rattle.md_reason_meaning.specs.Reason.{indexes, of_reason, reason_unless, reason_causes, reason_answer, reason_into}
use Rattle.md_reason_meaning.specs.ReasonUtf8.{utf8_causes, utf8_answer, utf8_into}

module _ (bytes : List ℕ) (threshold : Float) (classes pairs : List ℕ) where
  module _ (r : Refusal) (e : count_utf8 bytes ≡ Err r) where
    unread_causes : (room : ℕ) → utf8_causes bytes threshold classes pairs room ≡ Err r
    unfolding utf8_causes count_utf8 unreadable
    unread_causes room =
        first_front (in_bytes bytes) (of_reason (text_of bytes) threshold classes pairs room) r (not_counted (unreadable bytes) (length (text_of bytes)) r e)

    -- bytes that were not read
    pub unread : (room : ℕ) → Err r ≡ utf8_answer bytes threshold classes pairs room
    unfolding utf8_answer reason_unless
    unread room = rw (unread_causes room)

    pub unread_into : (out : List ℕ) → out ≡ utf8_into bytes threshold classes pairs out
    unfolding utf8_into
    unread_into out = sym (after_refused (indexes (text_of bytes) threshold classes pairs) out _ r (unread_causes (length out)))

  module _ (n : ℕ) (e : count_utf8 bytes ≡ Ok n) where
    read_causes_lem : (room : ℕ) → reason_causes (text_of bytes) threshold classes pairs room ≡ utf8_causes bytes threshold classes pairs room
    unfolding utf8_causes reason_causes unreadable
    read_causes_lem room = sym (first_past (in_bytes bytes) (of_reason (text_of bytes) threshold classes pairs room) (counted_free bytes n e))

    -- bytes that were
    pub read : (room : ℕ) → reason_answer (text_of bytes) threshold classes pairs room ≡ utf8_answer bytes threshold classes pairs room
    unfolding utf8_answer reason_answer
    read room = rw (read_causes_lem room)

    pub read_into_lem : (out : List ℕ) → reason_into (text_of bytes) threshold classes pairs out ≡ utf8_into bytes threshold classes pairs out
    unfolding utf8_into reason_into
    read_into_lem out = rw (read_causes_lem (length out))
