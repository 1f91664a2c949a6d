-- Scoring accepts either form with equal answers: with a good compact table as with its expansion (`compact_same`, `compact_same_utf8`,
-- `compact_lines_same`), and with what a good table was packed to as with that table (`packed_same`, `packed_same_utf8`). And the returns of the
-- calls, one by one.
-- Assumes nothing.
use Rattle.std.specs.Prelude.{Result, Ok, Err, Some, ⊤}
use Prim.Native.Nat.{ℕ, ◌≤◌, ◌<◌}
use mathlib.Core.Path.{◌≡◌, refl, sym, ap, ◌∙◌}
use mathlib.Core.Bool.{true, false, not}
use mathlib.Core.List.{List, [], ◌∷◌, ◌++◌}
use lib.Ieee.{Float}
use lib.ListN.{length}
use borrow.Author.Tests.{lt-ltb, le-ltb}
use Rattle.base.specs.declared.Refusal.{Refusal}
use Rattle.base.specs.Causes.{refused_at, given, first_of}
use Rattle.base.specs.Limits.{LONGEST_TEXT}
use Rattle.base.specs.declared.refusals.Cause.TheVariants.{TooLong, NotFinite}
use Rattle.base.proofs.Laws.Causes.{first_one, first_on, first_refused, given_yes, free_given, first_given, first_passed, first_front, first_past, first_free}
use Rattle.base.proofs.Laws.Counted.{counted_refused, after_refused, not_counted}
use Rattle.utf8_meaning.specs.Text.{text_of}
use Rattle.utf8_meaning.specs.Answer as reading
use Rattle.utf8_meaning.specs.Inner.Answer.{in_bytes, unreadable, count_utf8}
use Rattle.utf8_meaning.proofs.Laws.Answer.{counted_free}
use Rattle.classes.specs.Check.{bad_classes}
use Rattle.classes.specs.Pairs.{bad_pairs}
use Rattle.class_records.specs.Records.{good_table}
use Rattle.ratio.specs.Finite.{is_finite, not_finite}
use Rattle.md_meaning.specs.MessRatio.{DEFAULT_THRESHOLD, too_long, causes, mess_ratio}
use Rattle.md_meaning.specs.Scan.{accepted_score, no_class, unless}
use Rattle.md_meaning.proofs.Laws.MessRatio.{default_finite, behind_same}
use Rattle.md_meaning.proofs.Laws.Scan.{unless_refused}
use Rattle.md_utf8_meaning.specs.ScoreUtf8.{causes_utf8, mess_ratio_utf8}
use Rattle.md_lines_meaning.specs.Lines.{lines_of}
use Rattle.md_lines_meaning.specs.Burst as bursts
use Rattle.class_compact_meaning.specs.Form.{Bytes}
use Rattle.class_compact_meaning.specs.Unpacked.{unpacked}
use Rattle.class_compact_meaning.specs.Check.{bad_compact}
use Rattle.class_compact_meaning.specs.Packed.{packed_records, packed_letters}
use Rattle.class_compact_meaning.specs.Inner.Form.{Sized}
use Rattle.class_compact_meaning.specs.Inner.Sound.{beyond_table}
use Rattle.class_compact_meaning.proofs.Laws.Back.{allowed_sized}
use Rattle.class_compact_meaning.proofs.Laws.Packing.{packed_back, packed_good}
use Rattle.class_compact_meaning.proofs.Laws.Sound.{by_cause, beyond_then, table_allowed, good_parts}
use Rattle.md_compact.specs.Scoring.{of_compact, mess_ratio_compact, mess_ratio_compact_default, mess_ratio_utf8_compact, mess_ratio_utf8_compact_default}
use Rattle.md_compact.specs.Lines.{lines_causes, lines_answer, lines_after}
use Rattle.md_meaning.specs.declared.Score.{Score}

-- ---- causes in front
module _ (front cs ds : List (Result ⊤ Refusal)) where
  -- behind causes that come first, the others may be put for each other
  behind : first_of cs ≡ first_of ds → first_of (front ++ cs) ≡ first_of (front ++ ds)
  behind e =
      by_cause (first_of front)
      (λ a. first_past front cs a ∙ e ∙ sym (first_past front ds a))
      (λ r a. first_front front cs r a ∙ sym (first_front front ds r a))

module _ (c l : List ℕ) (front cs : List (Result ⊤ Refusal)) where
  -- nothing beyond the expansion's check
  swapped : Sized c → beyond_table c l ≡ Ok tt → first_of (front ++ (bad_classes (unpacked c l) ∷ cs)) ≡ first_of (front ++ (bad_compact c l ∷ cs))
  swapped s e =
      behind front (bad_classes (unpacked c l) ∷ cs) (bad_compact c l ∷ cs)
      (sym (first_on (bad_classes (unpacked c l) ∷ cs) (beyond_table c l) e) ∙ beyond_then c l s cs)

  -- the table's own refusal, where nothing comes before it
  own : first_of front ≡ Ok tt → (why : Refusal) → bad_compact c l ≡ Err why → first_of (front ++ (bad_compact c l ∷ cs)) ≡ Err why
  own f why e = first_past front (bad_compact c l ∷ cs) f ∙ first_refused cs (bad_compact c l) why e

-- ---- the returns of what comes first
module _ (threshold : Float) where
  pub threshold_bad : not (is_finite threshold) ≡ true → refused_at NotFinite 0 ≡ not_finite threshold
  unfolding not_finite
  threshold_bad e = sym (given_yes _ NotFinite 0 e)

  pub threshold_fine : not (is_finite threshold) ≡ false → Ok tt ≡ not_finite threshold
  unfolding not_finite
  threshold_fine e = sym (free_given _ NotFinite 0 e)

  module _ (text : List ℕ) where
    pub text_long : LONGEST_TEXT < length text → refused_at TooLong 0 ≡ first_of (too_long text ∷ (not_finite threshold ∷ []))
    unfolding too_long
    text_long h = sym (first_given _ _ TooLong 0 (lt-ltb LONGEST_TEXT (length text) h))

    pub text_fits : length text ≤ LONGEST_TEXT → not_finite threshold ≡ first_of (too_long text ∷ (not_finite threshold ∷ []))
    unfolding too_long
    text_fits h = sym (first_passed _ _ TooLong 0 (le-ltb LONGEST_TEXT (length text) h) ∙ first_one _)

  module _ (bytes : List ℕ) where
    abbrev rest : List (Result ⊤ Refusal)
    rest = too_long (text_of bytes) ∷ (not_finite threshold ∷ [])

    pub bytes_bad : (r : Refusal) → count_utf8 bytes ≡ Err r → Err r ≡ first_of (in_bytes bytes ++ rest)
    unfolding count_utf8 unreadable
    bytes_bad r e = sym (first_front (in_bytes bytes) rest r (not_counted (unreadable bytes) (length (text_of bytes)) r e))

    pub bytes_fine : (n : ℕ) → count_utf8 bytes ≡ Ok n → not_finite threshold ≡ first_of (in_bytes bytes ++ rest)
    unfolding unreadable too_long reading.many_points
    bytes_fine n e =
        let f = counted_free bytes n e in
        let a = first_free (reading.many_bytes bytes) _ f in
        let b = first_free (reading.ill_formed bytes) _ a.1 in
        let d = first_free (reading.many_points bytes) _ b.1 in
        sym (first_past (in_bytes bytes) rest f ∙ first_on _ (too_long (text_of bytes)) d.0 ∙ first_one _)

    pub burst_long : bursts.LONGEST_BURST < length bytes → refused_at TooLong 0 ≡ first_of (bursts.many_bytes bytes ∷ (not_finite threshold ∷ []))
    unfolding bursts.many_bytes
    burst_long h = sym (first_given _ _ TooLong 0 (lt-ltb bursts.LONGEST_BURST (length bytes) h))

    pub burst_fits : length bytes ≤ bursts.LONGEST_BURST → not_finite threshold ≡ first_of (bursts.many_bytes bytes ∷ (not_finite threshold ∷ []))
    unfolding bursts.many_bytes
    burst_fits h = sym (first_passed _ _ TooLong 0 (le-ltb bursts.LONGEST_BURST (length bytes) h) ∙ first_one _)

-- ---- the returns of the calls
module _ (c l pairs : List ℕ) (threshold : Float) where
  module _ (text : List ℕ) where
    abbrev of_text : List (Result ⊤ Refusal)
    of_text = too_long text ∷ not_finite threshold ∷ []

    pub text_before : (r : Refusal) → first_of of_text ≡ Err r → Err r ≡ mess_ratio_compact c l pairs text threshold
    unfolding mess_ratio_compact
    text_before r e = sym (unless_refused _ _ r (first_front of_text (of_compact c l pairs text) r e))

    pub text_refused : first_of of_text ≡ Ok tt → (why : Refusal) → bad_compact c l ≡ Err why → Err why ≡ mess_ratio_compact c l pairs text threshold
    unfolding mess_ratio_compact
    text_refused f why e = sym (unless_refused _ _ why (own c l of_text (bad_pairs pairs ∷ no_class (unpacked c l) text ∷ []) f why e))

    pub text_scored : Sized c → (table : List ℕ) → table ≡ unpacked c l → beyond_table c l ≡ Ok tt
        → mess_ratio text threshold table pairs ≡ mess_ratio_compact c l pairs text threshold
    unfolding mess_ratio causes mess_ratio_compact
    text_scored s table t e =
        rw t (ap (λ (x : Result ⊤ Refusal). unless x (accepted_score (unpacked c l) pairs text (Some threshold)))
        (swapped c l of_text (bad_pairs pairs ∷ no_class (unpacked c l) text ∷ []) s e))

  module _ (bytes : List ℕ) where
    abbrev of_bytes : List (Result ⊤ Refusal)
    of_bytes = in_bytes bytes ++ (too_long (text_of bytes) ∷ not_finite threshold ∷ [])

    pub bytes_before : (r : Refusal) → first_of of_bytes ≡ Err r → Err r ≡ mess_ratio_utf8_compact c l pairs bytes threshold
    unfolding mess_ratio_utf8_compact
    bytes_before r e = sym (unless_refused _ _ r (first_front of_bytes (of_compact c l pairs (text_of bytes)) r e))

    pub bytes_refused : first_of of_bytes ≡ Ok tt → (why : Refusal) → bad_compact c l ≡ Err why
        → Err why ≡ mess_ratio_utf8_compact c l pairs bytes threshold
    unfolding mess_ratio_utf8_compact
    bytes_refused f why e = sym (unless_refused _ _ why (own c l of_bytes (bad_pairs pairs ∷ no_class (unpacked c l) (text_of bytes) ∷ []) f why e))

    pub bytes_scored : Sized c → (table : List ℕ) → table ≡ unpacked c l → beyond_table c l ≡ Ok tt
        → mess_ratio_utf8 bytes threshold table pairs ≡ mess_ratio_utf8_compact c l pairs bytes threshold
    unfolding mess_ratio_utf8 causes_utf8 mess_ratio_utf8_compact
    bytes_scored s table t e =
        rw t (ap (λ (x : Result ⊤ Refusal). unless x (accepted_score (unpacked c l) pairs (text_of bytes) (Some threshold)))
        (swapped c l of_bytes (bad_pairs pairs ∷ no_class (unpacked c l) (text_of bytes) ∷ []) s e))

    module _ (out : List ℕ) where
      abbrev of_burst : List (Result ⊤ Refusal)
      of_burst = bursts.many_bytes bytes ∷ not_finite threshold ∷ []

      abbrev of_table : List (Result ⊤ Refusal)
      of_table = bad_pairs pairs ∷ bursts.no_room bytes (length out) ∷ []

      -- a burst that is refused
      abbrev Stopped : Refusal → Type 0
      Stopped r = (Err r ≡ lines_answer bytes threshold c l pairs (length out)) × (out ≡ lines_after bytes threshold c l pairs out)

      stopped : (r : Refusal) → lines_causes bytes threshold c l pairs (length out) ≡ Err r → Stopped r
      unfolding lines_answer lines_after
      stopped r g =
          (sym (counted_refused _ (length (lines_of bytes)) r g), sym (after_refused (bursts.rows threshold (unpacked c l) pairs (lines_of bytes)) out _ r g))

      pub lines_before : (r : Refusal) → first_of of_burst ≡ Err r → Stopped r
      unfolding lines_causes
      lines_before r e = stopped r (first_front of_burst (bad_compact c l ∷ of_table) r e)

      pub lines_refused : first_of of_burst ≡ Ok tt → (why : Refusal) → bad_compact c l ≡ Err why → Stopped why
      unfolding lines_causes
      lines_refused f why e = stopped why (own c l of_burst of_table f why e)

      pub lines_causes_lem : Sized c → beyond_table c l ≡ Ok tt
          → bursts.causes bytes threshold (unpacked c l) pairs (length out) ≡ lines_causes bytes threshold c l pairs (length out)
      unfolding bursts.causes lines_causes
      lines_causes_lem s e = swapped c l of_burst of_table s e

      pub lines_scored : Sized c → (table : List ℕ) → table ≡ unpacked c l → beyond_table c l ≡ Ok tt
          → (bursts.answer bytes threshold table pairs (length out) ≡ lines_answer bytes threshold c l pairs (length out))
          × (bursts.out_after bytes threshold table pairs out ≡ lines_after bytes threshold c l pairs out)
      unfolding bursts.answer bursts.out_after lines_answer lines_after
      lines_scored s table t e =
          rw (t, lines_causes_lem s e) (refl, refl)

-- a threshold that is finite gives no cause
finite_passed : (causes : List (Result ⊤ Refusal)) → first_of (not_finite DEFAULT_THRESHOLD ∷ causes) ≡ first_of causes
unfolding first_of not_finite given
finite_passed causes = rw default_finite

module _ (c l pairs : List ℕ) where
  scored_unless : List ℕ → Result ⊤ Refusal → Result Score Refusal
  scored_unless text cause = unless cause (accepted_score (unpacked c l) pairs text (Some DEFAULT_THRESHOLD))

  pub default_same_compact : (text : List ℕ) → mess_ratio_compact c l pairs text DEFAULT_THRESHOLD ≡ mess_ratio_compact_default c l pairs text
  unfolding mess_ratio_compact mess_ratio_compact_default scored_unless
  default_same_compact text = ap (scored_unless text) (behind_same (too_long text ∷ []) _ _ (finite_passed (of_compact c l pairs text)))

  pub default_same_utf8_compact : (bytes : List ℕ) → mess_ratio_utf8_compact c l pairs bytes DEFAULT_THRESHOLD ≡ mess_ratio_utf8_compact_default c l pairs bytes
  unfolding mess_ratio_utf8_compact mess_ratio_utf8_compact_default scored_unless
  default_same_utf8_compact bytes =
      let text = text_of bytes in
      ap (scored_unless text)
      (behind_same (reading.many_bytes bytes ∷ reading.ill_formed bytes ∷ reading.many_points bytes ∷ too_long text ∷ []) _ _
      (finite_passed (of_compact c l pairs text)))

-- ---- "with equal answers"
module _ (c l pairs : List ℕ) (threshold : Float) (ok : bad_compact c l ≡ Ok tt) where
  equal : bad_compact c l ≡ bad_classes (unpacked c l)
  equal = ok ∙ sym (table_allowed c l (allowed_sized c l ok) (good_parts c l (allowed_sized c l ok) ok))

  -- a good compact table, and its expansion
  pub compact_same : (text : List ℕ) → mess_ratio_compact c l pairs text threshold ≡ mess_ratio text threshold (unpacked c l) pairs
  unfolding mess_ratio causes mess_ratio_compact
  compact_same text = rw equal

  pub compact_same_utf8 : (bytes : List ℕ) → mess_ratio_utf8_compact c l pairs bytes threshold ≡ mess_ratio_utf8 bytes threshold (unpacked c l) pairs
  unfolding mess_ratio_utf8 causes_utf8 mess_ratio_utf8_compact
  compact_same_utf8 bytes = rw equal

  pub compact_lines_same : (bytes : List ℕ) (room : ℕ) → lines_answer bytes threshold c l pairs room ≡ bursts.answer bytes threshold (unpacked c l) pairs room
  unfolding bursts.answer bursts.causes lines_answer lines_causes
  compact_lines_same bytes room = rw equal

  pub compact_rows_same : (bytes out : List ℕ) → lines_after bytes threshold c l pairs out ≡ bursts.out_after bytes threshold (unpacked c l) pairs out
  unfolding bursts.out_after bursts.causes lines_after lines_causes
  compact_rows_same bytes out = rw equal

-- a good table, and what it is packed to
module _ (t pairs : List ℕ) (threshold : Float) (g : good_table t ≡ true) (b : Bytes t) where
  pub packed_same : (text : List ℕ) → mess_ratio_compact (packed_records t) (packed_letters t) pairs text threshold ≡ mess_ratio text threshold t pairs
  packed_same text =
      compact_same (packed_records t) (packed_letters t) pairs threshold (packed_good t g b) text
      ∙ ap (λ (x : List ℕ). mess_ratio text threshold x pairs) (packed_back t g b)

  pub packed_same_utf8 : (bytes : List ℕ) → mess_ratio_utf8_compact (packed_records t) (packed_letters t) pairs bytes threshold ≡ mess_ratio_utf8 bytes threshold t pairs
  packed_same_utf8 bytes =
      compact_same_utf8 (packed_records t) (packed_letters t) pairs threshold (packed_good t g b) bytes
      ∙ ap (λ (x : List ℕ). mess_ratio_utf8 bytes threshold x pairs) (packed_back t g b)
