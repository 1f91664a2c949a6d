-- What each verdict shows of the part that is handed back, and of the scores; that a first text is refused whole (`first_refused`).
-- Assumes nothing.
use Rattle.std.specs.Prelude.{Result, Ok, Err}
use Prim.Native.Nat.{ℕ, ◌≤◌}
use mathlib.Core.Path.{◌≡◌, refl, sym, ap, ◌∙◌}
use mathlib.Core.Bool.{true, false}
use mathlib.Core.List.{List, []}
use native.Mathlib.Omega.{arith}
use lib.Ieee.{lt}
use lib.ListN.{length}
use lib.Seq.{length-take-le}
use Rattle.base.specs.declared.Refusal.{Refusal}
use Rattle.base.specs.Limits.{LONGEST_TEXT}
use Rattle.base.proofs.Laws.Tests.{cond_both}
use Rattle.md_meaning.specs.declared.Score.{Score}
use Rattle.md_meaning.specs.MessRatio.{whole_score}
use Rattle.md_meaning.proofs.Laws.Default.{whole_faultless}
use Rattle.md_chooser_meaning.specs.declared.Side.{Side}
use Rattle.md_chooser_meaning.specs.declared.Side.TheVariants.{First, Second}
use Rattle.md_chooser_meaning.specs.declared.Unjudged.{Unjudged}
use Rattle.md_chooser_meaning.specs.Cut.{cut}
use Rattle.md_chooser_meaning.specs.Choose.{unjudged, judged, verdict_of, part_of, taken_from, chosen}
use Rattle.md_chooser_meaning.specs.Inner.Cut.{CutLength}
use Rattle.md_chooser_meaning.specs.Inner.Part.{PartLength}
use Rattle.md_chooser_meaning.proofs.Laws.Cut.{cut_within}

pub judged_first : (a b : Result Score Refusal) (r : Refusal) → a ≡ Err r → unjudged First r ≡ judged a b
unfolding judged
judged_first a (Err q) r e = rw e
judged_first a (Ok b) r e = rw e

pub judged_second : (a b : Result Score Refusal) (s : Score) (r : Refusal) → a ≡ Ok s → b ≡ Err r → unjudged Second r ≡ judged a b
unfolding judged
judged_second a b s r e f = rw (e, f)

pub lower_second : (a b : Result Score Refusal) (s t : Score) → a ≡ Ok s → b ≡ Ok t → lt t.sum s.sum ≡ true → Ok Second ≡ judged a b
unfolding judged
lower_second a b s t e f l = rw (e, f, l)

pub else_first : (a b : Result Score Refusal) (s t : Score) → a ≡ Ok s → b ≡ Ok t → lt t.sum s.sum ≡ false → Ok First ≡ judged a b
unfolding judged
else_first a b s t e f l = rw (e, f, l)

-- how long the part is, by the verdict, and what its length tells
module _ (v : Result Side Unjudged) (first second : List ℕ) where
  pub length_first : (n : ℕ) → v ≡ Ok First → CutLength first n → PartLength v first second n
  unfolding taken_from part_of
  length_first n e h = rw e (record { within = h.within; is = h.is })

  pub length_second : (n : ℕ) → v ≡ Ok Second → CutLength second n → PartLength v first second n
  unfolding taken_from part_of
  length_second n e h = rw e (record { within = h.within; is = h.is })

  pub length_refused : (u : Unjudged) → v ≡ Err u → PartLength v first second 0
  unfolding taken_from part_of
  length_refused u e = rw e (record { within = omega arith; is = refl })

  module _ (n : ℕ) (h : PartLength v first second n) where
    pub first_length : v ≡ Ok First → CutLength first n
    unfolding taken_from part_of
    first_length e = record { within = rw e at h.within; is = rw e at h.is }

    pub second_length : v ≡ Ok Second → CutLength second n
    unfolding taken_from part_of
    second_length e = record { within = rw e at h.within; is = rw e at h.is }

    -- no more is handed back than the part has
    pub part_length : n ≡ length (part_of v first second)
    part_length = sym (length-take-le n (taken_from v first second) h.within) ∙ ap length h.is

-- of texts that are short where they are scored, the part handed back is short
module _ (first second : List ℕ) where
  judged_short : (a b : Result Score Refusal) → ((s : Score) → a ≡ Ok s → length first ≤ LONGEST_TEXT) → ((s : Score) → b ≡ Ok s → length second ≤ LONGEST_TEXT)
      → length (part_of (judged a b) first second) ≤ LONGEST_TEXT
  unfolding judged part_of
  judged_short (Err r) (Err q) A B = omega arith
  judged_short (Err r) (Ok t) A B = omega arith
  judged_short (Ok s) (Err q) A B = omega arith
  judged_short (Ok s) (Ok t) A B =
      cond_both (λ (v : Side). length (part_of (Ok v) first second) ≤ LONGEST_TEXT) (lt t.sum s.sum) Second First
      (omega (arith, cut_within second, B t refl))
      (omega (arith, cut_within first, A s refl))

-- "each scored whole": a first text that is refused as it is lent, with the newlines at its end, is told as refused
pub first_refused : (first second classes pairs : List ℕ) (r : Refusal) → whole_score first classes pairs ≡ Err r
    → verdict_of first second classes pairs ≡ unjudged First r
unfolding verdict_of
first_refused first second classes pairs r e = sym (judged_first _ _ r e)

module _ (first second classes pairs : List ℕ) (v : Result Side Unjudged) (f : v ≡ verdict_of first second classes pairs) where
  pub chosen_first : v ≡ Ok First → cut first ≡ chosen first second classes pairs
  unfolding chosen part_of
  chosen_first e = rw (sym f ∙ e)

  pub chosen_second : v ≡ Ok Second → cut second ≡ chosen first second classes pairs
  unfolding chosen part_of
  chosen_second e = rw (sym f ∙ e)

  pub chosen_refused : (u : Unjudged) → v ≡ Err u → [] ≡ chosen first second classes pairs
  unfolding chosen part_of
  chosen_refused u e = rw (sym f ∙ e)

  -- the text of which a part is handed back
  module _ {A : Type 0} (a b : A) where
    pub from_first : v ≡ Ok First → a ≡ taken_from (verdict_of first second classes pairs) a b
    unfolding taken_from
    from_first e = rw (sym f ∙ e)

    pub from_second : v ≡ Ok Second → b ≡ taken_from (verdict_of first second classes pairs) a b
    unfolding taken_from
    from_second e = rw (sym f ∙ e)

    pub from_refused : (u : Unjudged) → v ≡ Err u → a ≡ taken_from (verdict_of first second classes pairs) a b
    unfolding taken_from
    from_refused u e = rw (sym f ∙ e)

  scored_short : (text : List ℕ) (s : Score) → whole_score text classes pairs ≡ Ok s → length text ≤ LONGEST_TEXT
  scored_short text s e = (whole_faultless text classes pairs s e).faultless.short

  part_short : length (part_of v first second) ≤ LONGEST_TEXT
  unfolding verdict_of
  part_short = rw f (judged_short first second _ _ (scored_short first) (scored_short second))

  -- a text of which a part is handed back was scored, and so is short
  pub chosen_short : (n : ℕ) → PartLength v first second n → n ≤ LONGEST_TEXT
  chosen_short n h = rw (part_length v first second n h) part_short

  -- the part's length, as the call is told it
  pub chosen_length : (n : ℕ) → PartLength v first second n → n ≡ length (chosen first second classes pairs)
  unfolding chosen
  chosen_length n h = part_length v first second n h ∙ rw f
