-- What each answer of scoring makes of the reason: a refusal is the reason's (`reason_refused`, `refused_into`), and where the text is scored only 3 is left (`reason-scored`), the
-- characters fed and the detector being the score's (`scored_answer`, `scored_into`). What the list's room makes of it: `listed_short`, `listed_told` and the like. A text that is scored has
-- all that the passes ask for (`Ripe`, `scored_ripe`). Assumes nothing.
use Rattle.std.specs.Prelude.{Result, Ok, Err, Some, ⊤}
use Prim.Native.Nat.{ℕ, ◌≤◌, ◌<◌}
use mathlib.Core.Path.{◌≡◌, sym, ap, ◌∙◌}
use mathlib.Core.Bool.{Bool}
use mathlib.Core.List.{List, [], ◌∷◌}
use native.Mathlib.Omega.{arith}
use lib.Dec.{ltb}
use lib.Ieee.{Float}
use lib.ListN.{length}
use borrow.Author.Tests.{lt-ltb, le-ltb, ltb-true}
use Rattle.base.specs.declared.Refusal.{Refusal}
use Rattle.base.specs.Causes.{refused_at}
use Rattle.base.specs.Limits.{LONGEST_TEXT}
use Rattle.base.specs.Put.{put}
use Rattle.base.specs.declared.refusals.Cause.TheVariants.{NoRoom}
use Rattle.base.proofs.Laws.Causes.{first_front, first_past, first_one, given_yes, free_given}
use Rattle.base.proofs.Laws.Counted.{after_allowed, after_refused}
use Rattle.base.proofs.Laws.Tests.{by_bool}
use Rattle.cd_order.specs.Chosen.{passing}
use Rattle.classes.specs.Inner.Tables.{Tables}
use Rattle.ratio.specs.Eight.{DETECTORS}
use Rattle.md_meaning.specs.declared.Score.{Score}
use Rattle.md_meaning.specs.Text.{total}
use Rattle.md_meaning.specs.Scan.{unless, scored, stop_of, accepted_score}
use Rattle.md_meaning.specs.MessRatio.{of_scoring, causes, mess_ratio}
use Rattle.md_meaning.specs.Values as score
use Rattle.md_meaning.proofs.Laws.Scan.{unless_score}
use Rattle.md_meaning.proofs.Laws.Accepted.{scored_faultless}
use Rattle.md_meaning.proofs.Laws.Plain.{ratio_plain}
use Rattle.md_eight.specs.declared.Detectors.{Detectors}
use Rattle.md_growth.specs.Text.{grows}
use Rattle.md_reason_meaning.specs.declared.Why.{Why}
use Rattle.md_reason_meaning.specs.Greatest.{detector_of}
use Rattle.md_reason_meaning.specs.Numbered.{detector_at, detector_number}
use Rattle.md_reason_meaning.specs.Reason.{detector, indexes, told, no_room, reason_unless, reason_causes, reason_answer, reason_into}
use Rattle.md_reason_meaning.specs.Inner.Reason.{listed, listed_answer, listed_into}
use Rattle.md_reason_meaning.proofs.Laws.Greatest.{detector_few}
use Rattle.md_reason_meaning.proofs.Laws.Numbered.{number_at}

-- ---- the list and its room
module _ (classes pairs text : List ℕ) (d fed : ℕ) where
  short : (room : ℕ) → room < length (listed classes pairs text d fed) → no_room (listed classes pairs text d fed) room ≡ refused_at NoRoom 0
  unfolding no_room
  short room h = given_yes _ NoRoom 0 (lt-ltb room (length (listed classes pairs text d fed)) h)

  fits : (room : ℕ) → length (listed classes pairs text d fed) ≤ room → no_room (listed classes pairs text d fed) room ≡ Ok tt
  unfolding no_room
  fits room h = free_given _ NoRoom 0 (le-ltb room (length (listed classes pairs text d fed)) h)

  pub listed_short : (room : ℕ) → room < length (listed classes pairs text d fed) → refused_at NoRoom 0 ≡ listed_answer classes pairs text d fed room
  unfolding listed_answer reason_unless refused_at
  listed_short room h = rw (short room h)

  pub short_into : (out : List ℕ) → length out < length (listed classes pairs text d fed) → out ≡ listed_into classes pairs text d fed out
  unfolding listed_into refused_at
  short_into out h = sym (after_refused (listed classes pairs text d fed) out _ (record { cause = NoRoom; place = 0 }) (short (length out) h))

  pub listed_told : (room n : ℕ) → n ≡ length (listed classes pairs text d fed) → length (listed classes pairs text d fed) ≤ room
      → Ok (record { detector = detector_at d; count = n }) ≡ listed_answer classes pairs text d fed room
  unfolding listed_answer reason_unless
  listed_told room n e h = rw (fits room h, e)

  pub told_into : (out : List ℕ) → length (listed classes pairs text d fed) ≤ length out
      → put out 0 (listed classes pairs text d fed) ≡ listed_into classes pairs text d fed out
  unfolding listed_into
  told_into out h = sym (after_allowed (listed classes pairs text d fed) out _ (fits (length out) h))

-- ---- scoring's answer
told_fed : (t : Detectors) (n : ℕ) (early : Bool) (s : Score) → scored t n early ≡ Ok s → s.fed ≡ n
unfolding scored
told_fed t n early s e = cc

same_why : {d e m n : ℕ} → d ≡ e → m ≡ n → ◌≡◌ {A = Why} (record { detector = detector_at d; count = m }) (record { detector = detector_at e; count = n })
same_why p q = rw (p, q)

same_answer : {c k : Result ⊤ Refusal} {v w : Why} → c ≡ k → v ≡ w → reason_unless c v ≡ reason_unless k w
same_answer p q = rw (p, q)

never_told : (r : Refusal) (s : Score) → ◌≡◌ {A = Result Score Refusal} (Ok s) (Err r) → ⊥
never_told r s e = let z : ◌≡◌ {A = ℕ} 0 1 = cc in omega arith

accepted_told : (classes pairs text : List ℕ) (threshold : Float) (r : Refusal) → accepted_score classes pairs text (Some threshold) ≡ Err r → ⊥
unfolding accepted_score scored
accepted_told classes pairs text threshold r e =
    by_bool (ltb (stop_of classes pairs text (Some threshold)) (total text))
    (λ t. never_told r _ (rw t at e))
    (λ t. never_told r _ (rw t at e))

unless_not : (c : Result ⊤ Refusal) (x : Result Score Refusal) (r : Refusal) → ((q : Refusal) → x ≡ Err q → ⊥) → unless c x ≡ Err r → c ≡ Err r
unfolding unless
unless_not (Ok u) x r never e = absurd (never r e)
unless_not (Err q) x r never e = same e
  where
    same : ◌≡◌ {A = Result Score Refusal} (Err q) (Err r) → ◌≡◌ {A = Result ⊤ Refusal} (Err q) (Err r)
    same f = cc

module _ (text : List ℕ) (threshold : Float) (classes pairs : List ℕ) where
  module _ (r : Refusal) (e : mess_ratio text threshold classes pairs ≡ Err r) where
    pub refused_causes : causes text threshold classes pairs ≡ Err r
    unfolding mess_ratio
    refused_causes = unless_not (causes text threshold classes pairs) _ r (accepted_told classes pairs text threshold) e

    reason_causes_lem : (room : ℕ) → reason_causes text threshold classes pairs room ≡ Err r
    unfolding reason_causes causes
    reason_causes_lem room = first_front (of_scoring text threshold classes pairs) (no_room (indexes text threshold classes pairs) room ∷ []) r refused_causes

    pub reason_refused : (room : ℕ) → Err r ≡ reason_answer text threshold classes pairs room
    unfolding reason_answer reason_unless
    reason_refused room = rw (reason_causes_lem room)

    pub refused_into : (out : List ℕ) → out ≡ reason_into text threshold classes pairs out
    unfolding reason_into
    refused_into out = sym (after_refused (indexes text threshold classes pairs) out _ r (reason_causes_lem (length out)))

  module _ (s : Score) (e : mess_ratio text threshold classes pairs ≡ Ok s) where
    -- the list is that of the score's detector, among the characters that it fed
    pub scored_indexes : indexes text threshold classes pairs ≡ listed classes pairs text (detector_of s.ratios) s.fed
    unfolding indexes score.values
    scored_indexes = ap (λ (a : Result Score Refusal). passing (grows classes pairs text (detector_of (score.values a).ratios)) (score.values a).fed) e

    scored_causes : (room : ℕ) → reason_causes text threshold classes pairs room ≡ no_room (listed classes pairs text (detector_of s.ratios) s.fed) room
    unfolding reason_causes mess_ratio causes
    scored_causes room =
        first_past (of_scoring text threshold classes pairs) (no_room (indexes text threshold classes pairs) room ∷ []) (unless_score (causes text threshold classes pairs) _ s e).0
        ∙ first_one (no_room (indexes text threshold classes pairs) room)
        ∙ rw scored_indexes

    pub scored_detector : detector text threshold classes pairs ≡ detector_of s.ratios
    unfolding score.values
    scored_detector = ap (λ (a : Result Score Refusal). detector_of (score.values a).ratios) e

    -- and the number told is its number
    pub told_number : detector_number (told text threshold classes pairs).detector ≡ detector_of s.ratios
    told_number =
        ap (λ (d : ℕ). detector_number (detector_at d)) scored_detector
        ∙ number_at (detector_of s.ratios) (detector_few s.ratios (ratio_plain text threshold classes pairs s e).ratios)

    module _ (d : ℕ) (k : d ≡ detector_of s.ratios) where
      pub scored_answer : (room : ℕ) → listed_answer classes pairs text d s.fed room ≡ reason_answer text threshold classes pairs room
      unfolding reason_answer listed_answer
      scored_answer room = rw k (sym (same_answer (scored_causes room) (same_why scored_detector (ap length scored_indexes))))

      pub scored_into : (out : List ℕ) → listed_into classes pairs text d s.fed out ≡ reason_into text threshold classes pairs out
      unfolding reason_into listed_into
      scored_into out = rw (k, scored_causes (length out), scored_indexes)

    -- what the passes ask for
    pub record Ripe : Type 0 where
      pub tables : Tables classes pairs
      pub short : length text ≤ LONGEST_TEXT
      pub fed : s.fed ≤ total text
      pub detector : detector_of s.ratios ≤ DETECTORS

    fed_few : accepted_score classes pairs text (Some threshold) ≡ Ok s → s.fed ≤ total text
    unfolding accepted_score
    fed_few a =
        let k = stop_of classes pairs text (Some threshold) in
        by_bool (ltb k (total text))
        (λ t. let l = ltb-true k (total text) t in omega (arith, told_fed _ _ _ s (rw t at a)))
        (λ t. omega (arith, told_fed _ _ _ s (rw t at a)))

    pub scored_ripe : Ripe
    scored_ripe =
        let a = scored_faultless text threshold classes pairs s e in
        record {
          tables = a.faultless.tables;
          short = a.faultless.short;
          fed = fed_few a.is;
          detector = detector_few s.ratios (ratio_plain text threshold classes pairs s e).ratios;
        }
