-- One law for each way in which opening returns: over the length (`open_long`), a cause that lies in what is lent (`open_lent`), or a fresh line
-- (`open_fresh`). And a line that was opened has a finite threshold (`opened_finite`).
-- Assumes nothing.
use Rattle.std.specs.Prelude.{Result, Ok, Err, ⊤}
use Prim.Native.Nat.{ℕ, ◌≤◌, ◌<◌}
use mathlib.Core.Path.{◌≡◌, refl, sym, ap, ◌∙◌}
use mathlib.Core.Bool.{true, not}
use mathlib.Core.List.{List}
use native.Mathlib.Omega.{arith}
use lib.Ieee.{Float}
use borrow.Author.Tests.{lt-ltb, le-ltb, not-false}
use Rattle.base.specs.declared.Refusal.{Refusal}
use Rattle.base.specs.Causes.{refused_at}
use Rattle.base.specs.Limits.{LONGEST_TEXT}
use Rattle.base.specs.declared.refusals.Cause.TheVariants.{TooLong, NotFinite}
use Rattle.base.proofs.Laws.Causes.{first_given, first_passed, first_free, given_free}
use Rattle.ratio.specs.Finite.{is_finite, not_finite}
use Rattle.md_meaning.specs.Inner.Lent.{of_lent, bad_lent}
use Rattle.md_running_meaning.specs.declared.Running.{Running}
use Rattle.md_running_meaning.specs.Opening.{fresh, open_unless, long_line, open_causes, open_line}

module _ (c : Result ⊤ Refusal) (s : Running) where
  open_allowed : c ≡ Ok tt → open_unless c s ≡ Ok s
  unfolding open_unless
  open_allowed e = rw e

  open_refused : (r : Refusal) → c ≡ Err r → open_unless c s ≡ Err r
  unfolding open_unless
  open_refused r e = rw e

module _ (length : ℕ) (threshold : Float) (classes pairs : List ℕ) where
  pub open_long : LONGEST_TEXT < length → Err (record { cause = TooLong; place = 0 }) ≡ open_line length threshold classes pairs
  unfolding open_line open_causes long_line refused_at
  open_long h =
      sym (open_refused _ _ (record { cause = TooLong; place = 0 }) (first_given (of_lent threshold classes pairs) _ TooLong 0 (lt-ltb LONGEST_TEXT length h)))

  module _ (h : length ≤ LONGEST_TEXT) where
    on : open_causes length threshold classes pairs ≡ bad_lent threshold classes pairs
    unfolding open_causes long_line bad_lent
    on = first_passed (of_lent threshold classes pairs) _ TooLong 0 (le-ltb LONGEST_TEXT length h)

    pub open_lent : (r : Refusal) → bad_lent threshold classes pairs ≡ Err r → Err r ≡ open_line length threshold classes pairs
    unfolding open_line
    open_lent r e = sym (open_refused _ _ r (on ∙ e))

    pub open_fresh : bad_lent threshold classes pairs ≡ Ok tt → Ok (fresh length threshold) ≡ open_line length threshold classes pairs
    unfolding open_line
    open_fresh e = sym (open_allowed _ _ (on ∙ e))

-- a line that was opened
opened_by : (c : Result ⊤ Refusal) (s t : Running) → open_unless c s ≡ Ok t → (c ≡ Ok tt) × (s ≡ t)
unfolding open_unless
opened_by (Ok u) s t e = (refl, same e)
  where
    same : ◌≡◌ {A = Result Running Refusal} (Ok s) (Ok t) → s ≡ t
    same f = cc
opened_by (Err r) s t e = absurd (no (told e))
  where
    told : ◌≡◌ {A = Result Running Refusal} (Err r) (Ok t) → ◌≡◌ {A = ℕ} 0 1
    told f = cc

    no : ◌≡◌ {A = ℕ} 0 1 → ⊥
    no z = omega arith

pub opened_finite : (length : ℕ) (threshold : Float) (classes pairs : List ℕ) (s : Running) → open_line length threshold classes pairs ≡ Ok s
    → is_finite s.threshold ≡ true
unfolding open_line open_causes not_finite fresh
opened_finite length threshold classes pairs s e =
    let o = opened_by (open_causes length threshold classes pairs) (fresh length threshold) s e in
    let a = first_free (long_line length) (of_lent threshold classes pairs) o.0 in
    let b = first_free (not_finite threshold) _ a.1 in
    rw (← o.1) (not-false (is_finite threshold) (given_free _ NotFinite 0 b.0))
