-- A running line in 48 numbers, as a host keeps and lends it (02 [6]): what any such numbers mean (`running_of`), a state in numbers (`lent_of`), and what
-- the calls leave in them. The threshold is its bits; a mark is true where its number is not 0. "Refusals, state unchanged": the very numbers given stay. "Once
-- stopped, further characters are counted as received and change nothing else": only a call that feeds writes marks, as 1 or 0. That numbers which a call
-- wrote mean the state that it wrote is the law `back` (proofs/Laws/Lent).
-- Assumes nothing.
use Rattle.std.specs.Prelude.{ℕ, Bool, not, cond, ◌||◌, eqb, Result, Ok, Err}
use Rattle.std.specs.Float.Ieee.{of_bits}
use Rattle.std.specs.Float.{binary32}
use Rattle.base.specs.declared.Refusal.{Refusal}
use Rattle.base.specs.Numbers.{bump}
use Rattle.ratio.specs.Rounded.{bits_of}
use Rattle.md_eight.specs.declared.Detectors.{Detectors}
use Rattle.md_growth.specs.declared.Growths.{Growths}
use Rattle.md_running_meaning.specs.declared.Running.{Running}
use Rattle.md_running_meaning.specs.declared.Fed.{Fed}
use Rattle.md_running_meaning.specs.Opening.{values}
use Rattle.md_lent_meaning.specs.declared.HostRunning.{HostRunning}
use Rattle.md_lent_meaning.specs.declared.HostOpened.{HostOpened}
use Rattle.md_lent_meaning.specs.declared.LentFed.{LentFed}

-- a mark
abbrev pub marked : ℕ → Bool
marked n = not (eqb n 0)

-- ---- what numbers mean
unfoldable pub eight_lent : HostRunning → Detectors
eight_lent h =
    record {
      symbols =
          record {
            characters = h.symbols.characters;
            punctuation = h.symbols.punctuation;
            symbols = h.symbols.symbols;
            last = h.symbols.last;
          };
      accents = record { characters = h.accents.characters; accentuated = h.accents.accentuated };
      unprintable = record { characters = h.unprintable.characters; unprintable = h.unprintable.unprintable };
      ranges =
          record {
            characters = h.ranges.characters;
            suspicious = h.ranges.suspicious;
            seen = marked h.ranges.seen;
            last = h.ranges.last;
          };
      doubled =
          record {
            characters = h.doubled.characters;
            successive = h.doubled.successive;
            flags = h.doubled.flags;
            base = h.doubled.base;
          };
      words =
          record {
            characters = h.words.characters;
            words = h.words.words;
            foreign = h.words.foreign;
            spoilt = h.words.spoilt;
            bad = marked h.words.bad;
            watch = marked h.words.watch;
            accents = h.words.accents;
            uppercase = h.words.uppercase;
            length = h.words.length;
            last = h.words.last;
          };
      stops = record { wrong = h.stops.wrong; cjk = h.stops.cjk };
      archaic =
          record {
            characters = h.archaic.characters;
            since = h.archaic.since;
            run = h.archaic.run;
            total = h.archaic.total;
            last = h.archaic.last;
            ascii = marked h.archaic.ascii;
            buf = marked h.archaic.buf;
          };
    }

unfoldable pub growths_lent : HostRunning → Growths
growths_lent h =
    record {
      symbols = h.grown.symbols;
      accents = h.grown.accents;
      unprintable = h.grown.unprintable;
      ranges = h.grown.ranges;
      doubled = h.grown.doubled;
      words = h.grown.words;
      stops = h.grown.stops;
      archaic = h.grown.archaic;
    }

unfoldable pub running_of : HostRunning → Running
running_of h =
    record {
      length = h.length;
      received = h.received;
      fed = h.fed;
      threshold = of_bits binary32 h.threshold;
      stopped = marked h.stopped;
      watched = record { eight = eight_lent h; grown = growths_lent h };
    }

-- ---- a state in numbers, with the bits of its threshold
unfoldable pub lent_of : Running → ℕ → HostRunning
lent_of s bits =
    record {
      length = s.length;
      received = s.received;
      fed = s.fed;
      threshold = bits;
      stopped = bump s.stopped;
      symbols =
          record {
            characters = s.watched.eight.symbols.characters;
            punctuation = s.watched.eight.symbols.punctuation;
            symbols = s.watched.eight.symbols.symbols;
            last = s.watched.eight.symbols.last;
          };
      accents = record { characters = s.watched.eight.accents.characters; accentuated = s.watched.eight.accents.accentuated };
      unprintable = record { characters = s.watched.eight.unprintable.characters; unprintable = s.watched.eight.unprintable.unprintable };
      ranges =
          record {
            characters = s.watched.eight.ranges.characters;
            suspicious = s.watched.eight.ranges.suspicious;
            seen = bump s.watched.eight.ranges.seen;
            last = s.watched.eight.ranges.last;
          };
      doubled =
          record {
            characters = s.watched.eight.doubled.characters;
            successive = s.watched.eight.doubled.successive;
            flags = s.watched.eight.doubled.flags;
            base = s.watched.eight.doubled.base;
          };
      words =
          record {
            characters = s.watched.eight.words.characters;
            words = s.watched.eight.words.words;
            foreign = s.watched.eight.words.foreign;
            spoilt = s.watched.eight.words.spoilt;
            bad = bump s.watched.eight.words.bad;
            watch = bump s.watched.eight.words.watch;
            accents = s.watched.eight.words.accents;
            uppercase = s.watched.eight.words.uppercase;
            length = s.watched.eight.words.length;
            last = s.watched.eight.words.last;
          };
      stops = record { wrong = s.watched.eight.stops.wrong; cjk = s.watched.eight.stops.cjk };
      archaic =
          record {
            characters = s.watched.eight.archaic.characters;
            since = s.watched.eight.archaic.since;
            run = s.watched.eight.archaic.run;
            total = s.watched.eight.archaic.total;
            last = s.watched.eight.archaic.last;
            ascii = bump s.watched.eight.archaic.ascii;
            buf = bump s.watched.eight.archaic.buf;
          };
      grown =
          record {
            symbols = s.watched.grown.symbols;
            accents = s.watched.grown.accents;
            unprintable = s.watched.grown.unprintable;
            ranges = s.watched.grown.ranges;
            doubled = s.watched.grown.doubled;
            words = s.watched.grown.words;
            stops = s.watched.grown.stops;
            archaic = s.watched.grown.archaic;
          };
    }

-- ---- the calls
-- opening: zeros where it refuses, which is what no line is in numbers (`none_lent`)
unfoldable pub host_opened : Result Running Refusal → HostOpened
host_opened a =
    record {
      number = (values a).number;
      place = (values a).place;
      state = lent_of (values a).state (bits_of (values a).state.threshold);
    }

-- lent numbers, with another number received
unfoldable pub lent_received : HostRunning → ℕ → HostRunning
lent_received h n =
    record {
      length = h.length;
      received = n;
      fed = h.fed;
      threshold = h.threshold;
      stopped = h.stopped;
      symbols = h.symbols;
      accents = h.accents;
      unprintable = h.unprintable;
      ranges = h.ranges;
      doubled = h.doubled;
      words = h.words;
      stops = h.stops;
      archaic = h.archaic;
      grown = h.grown;
    }

-- what is left of lent numbers once the line has come to a state: where nothing was fed, since it had stopped or no character came, only the number received
unfoldable pub next_lent : HostRunning → Running → HostRunning
next_lent h s = cond (marked h.stopped || eqb s.received h.received) (lent_received h s.received) (lent_of s h.threshold)

unfoldable pub left_of : Result ℕ Refusal → HostRunning → HostRunning → HostRunning
left_of (Ok n) h next = next
left_of (Err r) h next = h

-- a feeding call
unfoldable pub fed_lent : HostRunning → Fed → LentFed
fed_lent h f = record { state = left_of f.answer h (next_lent h f.state); answer = f.answer }
