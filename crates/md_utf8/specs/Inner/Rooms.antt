-- How many code points the small and the middle room hold through which a text goes. No answer depends on these: they only say how much is
-- cleared for a short text.
-- Assumes nothing.
use Rattle.std.specs.Prelude.{ℕ}

abbrev pub SHORT : ℕ
SHORT = 256

abbrev pub MIDDLE : ℕ
MIDDLE = 4096
