-- "One 32-byte record per line, no header, little-endian: line number u64, score bits u32, fed u32, stopped u32, refusal u32, 8 zero bytes" (02,
-- [11]). That the five numbers can be read back from the bytes is the law `record_back` (proofs/Laws/Record).
-- Assumes nothing.
use Rattle.std.specs.Prelude.{ℕ, zero, suc, ◌/◌, ◌%◌, List, [], ◌∷◌, ◌++◌, replicate}
use Rattle.ring_meaning.specs.declared.Verdict.{Verdict}

-- bytes of a record
abbrev pub RECORD : ℕ
RECORD = 32

-- "little-endian": the n lowest bytes of a number, the lowest first
unfoldable pub le_bytes : ℕ → ℕ → List ℕ
le_bytes zero v = []
le_bytes (suc n) v = v % 256 ∷ le_bytes n (v / 256)

unfoldable pub record_of : Verdict → List ℕ
record_of v =
    le_bytes 8 v.line ++ (le_bytes 4 v.bits ++ (le_bytes 4 v.fed ++ (le_bytes 4 v.stopped ++ (le_bytes 4 v.refusal ++ replicate 8 0))))
