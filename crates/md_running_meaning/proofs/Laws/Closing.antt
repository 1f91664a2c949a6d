-- Laws of closing: the newline's class (`newline_is`), at which no pair of ranges is looked at (`newline_any`); and one law for each way in which closing
-- returns (`close_refused`, `close_on`, `close_short`, `close_stopped`, `close_ended`).
-- Assumes nothing.
use Rattle.std.specs.Prelude.{Result, Ok, Err, Some, ⊤}
use Prim.Native.Nat.{ℕ, ◌+◌, ◌≤◌, ◌<◌}
use mathlib.Core.Path.{◌≡◌, refl, sym, ap, ◌∙◌}
use mathlib.Core.Bool.{Bool, true, false, ◌&&◌}
use mathlib.Core.List.{[]}
use lib.Dec.{lit<}
use borrow.Author.Tests.{lt-ltb, le-ltb}
use Rattle.base.specs.Causes.{refused_at}
use Rattle.base.specs.declared.Refusal.{Refusal}
use Rattle.base.specs.Flags.{has, WHITESPACE, SEPARATOR, ASCII}
use Rattle.base.specs.Limits.{NEWLINE}
use Rattle.base.specs.declared.refusals.Cause.TheVariants.{LineShort}
use Rattle.base.proofs.Laws.Causes.{first_one, first_refused, first_on, given_yes, free_given}
use Rattle.classes.specs.declared.Class.{Class}
use Rattle.classes.specs.Lookup.{builtin_class}
use Rattle.classes.proofs.Laws.Lookup.{class_builtin, newline_class}
use Rattle.md_neighbours.specs.SuspiciousRange as ranges
use Rattle.md_eight.specs.declared.Detectors.{Detectors}
use Rattle.md_eight.specs.Detectors.{feed}
use Rattle.md_eight.specs.Inner.Detectors.{Countable}
use Rattle.md_meaning.specs.Text.{checkpoint}
use Rattle.md_meaning.specs.Scan.{reaches, sum_of, scored, unless}
use Rattle.md_meaning.proofs.Laws.Scan.{unless_allowed, unless_refused, unless_at}
use Rattle.md_running_meaning.specs.declared.Running.{Running}
use Rattle.md_running_meaning.specs.State.{eight_of, bad_state}
use Rattle.md_running_meaning.specs.Feeding.{stops_at}
use Rattle.md_running_meaning.specs.Inner.Sound.{Sound}
use Rattle.md_running_meaning.proofs.Laws.Bounds.{fed_countable}
use Rattle.md_running_meaning.specs.Closing.{ended, closed, line_short, close_causes, close_line}

-- ---- the newline
abbrev newline : Class
newline = record { point = NEWLINE; flags = WHITESPACE + SEPARATOR + ASCII; range = 1; base = NEWLINE; lower = NEWLINE }

same_class : (c d : Class) → Some c ≡ Some d → c ≡ d
same_class c d e = cc

pub newline_is : newline ≡ builtin_class NEWLINE
newline_is = same_class _ _ (sym (newline_class []) ∙ class_builtin [] NEWLINE (lit< tt))

-- it forgets the last range: whether the pair is suspicious does not matter
newline_forgets : (e : Detectors) (pair : Bool) → feed e newline pair ≡ feed e newline false
unfolding feed ranges.feed ranges.forgets has
newline_forgets e pair = refl

pub newline_any : (e : Detectors) (pair : Bool) → feed e (builtin_class NEWLINE) pair ≡ feed e (builtin_class NEWLINE) false
newline_any e pair = rw (← newline_is) (newline_forgets e pair)

-- ---- the call
module _ (s : Running) where
  closed_stopped : s.stopped ≡ true → closed s ≡ scored (eight_of s) s.fed true
  unfolding closed
  closed_stopped e = rw e

  closed_ended : s.stopped ≡ false → closed s ≡ scored (ended s) (s.length + 1) (stops_at s (ended s) s.length)
  unfolding closed
  closed_ended e = rw e

  pub close_refused : (r : Refusal) → bad_state s ≡ Err r → Err r ≡ close_line s
  unfolding close_line close_causes
  close_refused r e = sym (unless_refused _ _ r (first_refused _ (bad_state s) r e))

  pub close_on : bad_state s ≡ Ok tt → unless (line_short s) (closed s) ≡ close_line s
  unfolding close_line close_causes
  close_on e = ap (λ (c : Result ⊤ Refusal). unless c (closed s)) (sym (first_on _ (bad_state s) e ∙ first_one (line_short s)))

  pub close_short : s.received < s.length → refused_at LineShort 0 ≡ unless (line_short s) (closed s)
  unfolding line_short
  close_short h = sym (unless_at _ _ LineShort 0 (given_yes _ LineShort 0 (lt-ltb _ _ h)))

  module _ (h : s.length ≤ s.received) where
    not_short : unless (line_short s) (closed s) ≡ closed s
    unfolding line_short
    not_short = unless_allowed _ _ (free_given _ LineShort 0 (le-ltb _ _ h))

    pub close_stopped : s.stopped ≡ true → scored (eight_of s) s.fed true ≡ unless (line_short s) (closed s)
    close_stopped e = sym (not_short ∙ closed_stopped e)

    pub close_ended : s.stopped ≡ false → scored (ended s) (s.length + 1) (stops_at s (ended s) s.length) ≡ unless (line_short s) (closed s)
    close_ended e = sym (not_short ∙ closed_ended e)

    -- the same of what the code has in hand
    pub close_over : s.stopped ≡ false → (e : Detectors) (o : Bool) → e ≡ ended s
        → o ≡ (checkpoint s.length s.length && reaches (Some s.threshold) (sum_of e))
        → scored e (s.length + 1) o ≡ unless (line_short s) (closed s)
    unfolding stops_at
    close_over f e o p q = rw (q, p) (close_ended f)

  pub ended_countable : Sound s → Countable (ended s)
  unfolding ended
  ended_countable g = fed_countable s g _ _
