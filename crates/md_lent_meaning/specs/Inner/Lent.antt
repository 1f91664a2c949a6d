-- Words of inner contracts, beside Lent: `no_lent`, what no line is in numbers (`none_lent`, proofs/Laws/Lent). No public promise rests on them.
-- Assumes nothing.
use Rattle.md_lent_meaning.specs.declared.HostRunning.{HostRunning}

-- no line: zeros
unfoldable pub no_lent : HostRunning
no_lent =
    record {
      length = 0;
      received = 0;
      fed = 0;
      threshold = 0;
      stopped = 0;
      symbols = record { characters = 0; punctuation = 0; symbols = 0; last = 0 };
      accents = record { characters = 0; accentuated = 0 };
      unprintable = record { characters = 0; unprintable = 0 };
      ranges = record { characters = 0; suspicious = 0; seen = 0; last = 0 };
      doubled = record { characters = 0; successive = 0; flags = 0; base = 0 };
      words = record { characters = 0; words = 0; foreign = 0; spoilt = 0; bad = 0; watch = 0; accents = 0; uppercase = 0; length = 0; last = 0 };
      stops = record { wrong = 0; cjk = 0 };
      archaic = record { characters = 0; since = 0; run = 0; total = 0; last = 0; ascii = 0; buf = 0 };
      grown = record { symbols = 0; accents = 0; unprintable = 0; ranges = 0; doubled = 0; words = 0; stops = 0; archaic = 0 };
    }
