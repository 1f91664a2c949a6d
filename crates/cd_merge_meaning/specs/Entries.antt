-- Match entries laid end to end (02 [14], "earlier rankings laid end to end"), as a list of CoherenceMatch lies in memory: two u32 an entry, the number
-- of a language and the bits of its score. Past the list's end both are 0; no entry is read there.
-- Assumes nothing.
use Rattle.std.specs.Prelude.{ℕ, ◌+◌, ◌*◌, ◌/◌, List, length, get_or, Float}
use Rattle.std.specs.Float.Ieee.{of_bits}
use Rattle.std.specs.Float.{binary32}

-- how many entries so many u32 hold
abbrev pub entries_in : ℕ → ℕ
entries_in words = words / 2

abbrev pub entries : List ℕ → ℕ
entries list = entries_in (length list)

abbrev pub language_at : List ℕ → ℕ → ℕ
language_at list i = get_or list (i * 2) 0

abbrev pub score_at : List ℕ → ℕ → Float
score_at list i = of_bits binary32 (get_or list (i * 2 + 1) 0)
