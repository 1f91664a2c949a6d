-- The export desk's way (02 [3]): the part that the chooser hands back, written as UTF-8, and read again. It is never refused but for room: whatever is handed
-- back was scored, so it is short, and each of its numbers has a class, which none but a scalar value has (`chosen_scalars`). `chosen_written`: the part's bytes are
-- written wherever there is room for them. `chosen_back`: what was written for it, read again, is the part. Assumes nothing.
use Rattle.std.specs.Prelude.{Result, Ok, Err}
use Prim.Native.Nat.{ℕ, zero, suc, ◌≤◌, ◌<◌}
use mathlib.Core.Path.{◌≡◌, refl, sym, ap, ◌∙◌}
use mathlib.Core.Bool.{Bool, true, false}
use mathlib.Core.List.{List, [], ◌∷◌}
use native.Mathlib.Omega.{arith}
use lib.Ieee.{lt}
use lib.ListN.{length, get_or, take}
use Rattle.base.specs.declared.Refusal.{Refusal}
use Rattle.base.specs.Limits.{LONGEST_TEXT, NEWLINE}
use Rattle.base.specs.Put.{put}
use Rattle.base.specs.Tests.{scalar}
use Rattle.base.proofs.Laws.Tests.{by_bool, cond_both, and_l, and_r, and_yes}
use Rattle.classes.specs.Lookup.{class_of, missing}
use Rattle.classes.proofs.Laws.Lookup.{no_scalar}
use Rattle.utf8_table.specs.Encoding.{encode_all, scalars}
use Rattle.utf8_meaning.specs.Answer as read
use Rattle.utf8_write_meaning.specs.Answer as written
use Rattle.utf8_write_meaning.proofs.Laws.Answer.{writes}
use Rattle.utf8_write_meaning.proofs.Laws.RoundTrips.{written_read}
use Rattle.md_meaning.specs.declared.Score.{Score}
use Rattle.md_meaning.specs.MessRatio.{whole_score}
use Rattle.md_meaning.specs.Scan.{class_at, unclassed}
use Rattle.md_meaning.proofs.Laws.Default.{whole_faultless}
use Rattle.md_chooser_meaning.specs.declared.Side.{Side}
use Rattle.md_chooser_meaning.specs.declared.Side.TheVariants.{First, Second}
use Rattle.md_chooser_meaning.specs.Cut.{only_newlines, cut}
use Rattle.md_chooser_meaning.specs.Choose.{judged, verdict_of, part_of, chosen}
use Rattle.md_chooser_meaning.proofs.Laws.Cut.{cut_within}

each_scalar : (cs : List ℕ) → ((j : ℕ) → j < length cs → scalar (get_or cs j NEWLINE) ≡ true) → scalars cs ≡ true
unfolding scalars
each_scalar [] h = refl
each_scalar (c ∷ cs) h = rw (h 0 (omega arith)) (each_scalar cs (λ j l. h (suc j) (omega arith)))

cut_scalars : (l : List ℕ) → scalars l ≡ true → scalars (cut l) ≡ true
unfolding cut scalars
cut_scalars [] s = refl
cut_scalars (x ∷ xs) s =
    cond_both (λ (l : List ℕ). scalars l ≡ true) (only_newlines (x ∷ xs)) [] (x ∷ cut xs) refl
    (and_yes (and_l (scalar x) (scalars xs) s) (cut_scalars xs (and_r (scalar x) (scalars xs) s)))

told : true ≡ false → ◌≡◌ {A = ℕ} 0 1
told e = cc

no : true ≡ false → ⊥
no e = let z = told e in omega arith

-- what holds of nothing, and of the cut of each text that was scored, holds of the part
part_has : (P : List ℕ → Type 0) (first second : List ℕ) (a b : Result Score Refusal) → P [] → ((s : Score) → a ≡ Ok s → P (cut first))
    → ((s : Score) → b ≡ Ok s → P (cut second)) → P (part_of (judged a b) first second)
unfolding judged part_of
part_has P first second (Err r) (Err q) none A B = none
part_has P first second (Err r) (Ok t) none A B = none
part_has P first second (Ok s) (Err q) none A B = none
part_has P first second (Ok s) (Ok t) none A B =
    cond_both (λ (v : Side). P (part_of (Ok v) first second)) (lt t.sum s.sum) Second First (B t refl) (A s refl)

module _ (classes pairs : List ℕ) where
  scored_scalars : (text : List ℕ) (s : Score) → whole_score text classes pairs ≡ Ok s → scalars text ≡ true
  unfolding unclassed class_at
  scored_scalars text s e =
      let f = (whole_faultless text classes pairs s e).faultless in
      each_scalar text
      (λ j h. by_bool (scalar (get_or text j NEWLINE)) (λ y. y)
      (λ n. absurd (no (sym (ap missing (no_scalar classes f.tables.good (get_or text j NEWLINE) n)) ∙ f.classed j (omega arith)))))

module _ (first second classes pairs : List ℕ) where
  abbrev part : List ℕ
  part = chosen first second classes pairs

  pub chosen_scalars : scalars part ≡ true
  unfolding chosen verdict_of scalars
  chosen_scalars =
      part_has (λ (l : List ℕ). scalars l ≡ true) first second _ _ refl
      (λ s e. cut_scalars first (scored_scalars classes pairs first s e)) (λ s e. cut_scalars second (scored_scalars classes pairs second s e))

  chosen_few : length part ≤ LONGEST_TEXT
  unfolding chosen verdict_of
  chosen_few =
      part_has (λ (l : List ℕ). length l ≤ LONGEST_TEXT) first second _ _ (omega arith)
      (λ s e. let h = (whole_faultless first classes pairs s e).faultless.short in omega (arith, cut_within first))
      (λ s e. let h = (whole_faultless second classes pairs s e).faultless.short in omega (arith, cut_within second))

  pub chosen_written : (out : List ℕ) → length (encode_all part) ≤ length out
      → (written.answer part (length out) ≡ Ok (length (encode_all part))) × (written.out_after part out ≡ put out 0 (encode_all part))
  chosen_written out h = let w = writes part out chosen_few chosen_scalars h in (sym w.0, sym w.1)

  pub chosen_back : (out : List ℕ) (n : ℕ) → written.answer part (length out) ≡ Ok n → (room : List ℕ) → length part ≤ length room
      → (read.answer (take n (written.out_after part out)) (length room) ≡ Ok (length part))
      × (read.out_after (take n (written.out_after part out)) room ≡ put room 0 part)
  chosen_back out n e room h = written_read part out n e room h
