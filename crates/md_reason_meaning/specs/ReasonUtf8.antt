-- The reason of UTF-8 bytes in one call: the causes of reading that lie in the bytes, "1 (bytes), 2, 1 (code points)", and then those of the reason of the text that the bytes are. The
-- indexes, and the place of 6, are in code points. The laws stand in proofs/Laws/ReasonUtf8.
-- Assumes nothing.
use Rattle.std.specs.Prelude.{ℕ, List, ◌∷◌, Float, length, Result, ⊤}
use Rattle.base.specs.declared.Refusal.{Refusal}
use Rattle.base.specs.Causes.{first_of}
use Rattle.base.specs.Counted.{lent_after}
use Rattle.utf8_meaning.specs.Text.{text_of}
use Rattle.utf8_meaning.specs.Answer.{many_bytes, ill_formed, many_points}
use Rattle.md_reason_meaning.specs.Reason.{indexes, told, of_reason, reason_unless}
use Rattle.md_reason_meaning.specs.declared.Why.{Why}

unfoldable pub utf8_causes : List ℕ → Float → List ℕ → List ℕ → ℕ → Result ⊤ Refusal
utf8_causes bytes threshold classes pairs room =
    first_of (many_bytes bytes ∷ ill_formed bytes ∷ many_points bytes ∷ of_reason (text_of bytes) threshold classes pairs room)

unfoldable pub utf8_answer : List ℕ → Float → List ℕ → List ℕ → ℕ → Result Why Refusal
utf8_answer bytes threshold classes pairs room =
    reason_unless (utf8_causes bytes threshold classes pairs room) (told (text_of bytes) threshold classes pairs)

unfoldable pub utf8_into : List ℕ → Float → List ℕ → List ℕ → List ℕ → List ℕ
utf8_into bytes threshold classes pairs out =
    lent_after (utf8_causes bytes threshold classes pairs (length out)) (indexes (text_of bytes) threshold classes pairs) out
