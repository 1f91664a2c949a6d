-- Laws of the lent numbers: what a call leaves of them (`next_same`, `next_fed`, `left_refused`, `left_counted`); opening (`opened_none`, `opened_line`);
-- and that numbers which a call wrote mean the state that it wrote (`back`).
-- Assumes nothing.
use Rattle.std.specs.Prelude.{Result, Ok, Err}
use Prim.Native.Nat.{ℕ}
use mathlib.Core.Path.{◌≡◌, refl}
use mathlib.Core.Bool.{Bool, true, false, ◌||◌}
use lib.Dec.{eqb}
use lib.Ieee.{of_bits, binary32, to_bits}
use Rattle.base.specs.declared.Refusal.{Refusal}
use Rattle.base.specs.Numbers.{bump}
use Rattle.base.specs.Refusals.{ACCEPTED, number_of}
use Rattle.ratio.specs.Rounded.{ZERO, bits_of}
use Rattle.md_growth.specs.Growth.{no_growths}
use Rattle.md_running_meaning.specs.declared.Running.{Running}
use Rattle.md_running_meaning.specs.declared.Fed.{Fed}
use Rattle.md_running_meaning.specs.Opening.{no_line, values}
use Rattle.md_lent_meaning.specs.declared.HostRunning.{HostRunning}
use Rattle.md_lent_meaning.specs.declared.HostOpened.{HostOpened}
use Rattle.md_lent_meaning.specs.declared.LentFed.{LentFed}
use Rattle.md_lent_meaning.specs.Inner.Lent.{no_lent}
use Rattle.md_lent_meaning.specs.Lent.{marked, eight_lent, growths_lent, running_of, lent_of, host_opened, lent_received, next_lent, left_of, fed_lent}

module _ (h : HostRunning) (s : Running) where
  pub next_same : (marked h.stopped || eqb s.received h.received) ≡ true → lent_received h s.received ≡ next_lent h s
  unfolding next_lent
  next_same e = rw e

  pub next_fed : (marked h.stopped || eqb s.received h.received) ≡ false → lent_of s h.threshold ≡ next_lent h s
  unfolding next_lent
  next_fed e = rw e

module _ (h : HostRunning) (f : Fed) where
  -- "Refusals, state unchanged"
  pub left_refused : (r : Refusal) → f.answer ≡ Err r → record { state = h; answer = Err r } ≡ fed_lent h f
  unfolding fed_lent left_of
  left_refused r e = rw e

  pub left_counted : (n : ℕ) → f.answer ≡ Ok n → record { state = next_lent h f.state; answer = Ok n } ≡ fed_lent h f
  unfolding fed_lent left_of
  left_counted n e = rw e

-- ---- opening
none_lent : lent_of no_line (bits_of ZERO) ≡ no_lent
unfolding lent_of no_line no_lent no_growths of_bits to_bits
none_lent = refl

module _ (a : Result Running Refusal) where
  pub opened_none : (r : Refusal) → a ≡ Err r → record { number = number_of r.cause; place = r.place; state = no_lent } ≡ host_opened a
  unfolding host_opened values no_line
  opened_none r e = rw (e, ← none_lent)

  pub opened_line : (s : Running) → a ≡ Ok s → record { number = ACCEPTED; place = 0; state = lent_of s (bits_of s.threshold) } ≡ host_opened a
  unfolding host_opened values
  opened_line s e = rw e

-- ---- what was written means what was written
mark_back : (b : Bool) → marked (bump b) ≡ b
mark_back true = refl
mark_back false = refl

pub back : (s : Running) (bits : ℕ) → of_bits binary32 bits ≡ s.threshold → running_of (lent_of s bits) ≡ s
unfolding running_of lent_of eight_lent growths_lent
back s bits e =
    simp (
      e,
      mark_back s.stopped,
      mark_back s.watched.eight.ranges.seen,
      mark_back s.watched.eight.words.bad,
      mark_back s.watched.eight.words.watch,
      mark_back s.watched.eight.archaic.ascii,
      mark_back s.watched.eight.archaic.buf,
    )
