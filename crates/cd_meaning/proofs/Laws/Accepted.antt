-- coherence_ratio refuses exactly for 01's causes, the threshold among them: a call with none of them is answered by the ranking of its matches
-- (`faultless_ranked`), and a call that is answered by a ranking has none of them (`ranked_faultless`). The same of the list of causes
-- (`faultless_free`, `free_faultless`) and of the call without a threshold (`faultless_default`, `default_faultless`). In which order the causes
-- are given is the definition's own order.
-- Assumes nothing.
use Rattle.std.specs.Prelude.{Result, Ok, Err, ⊤}
use Prim.Native.Nat.{ℕ, ◌*◌, ◌≤◌, ◌<◌}
use mathlib.Core.Path.{◌≡◌, refl, sym, ap, ◌∙◌}
use mathlib.Core.Bool.{Bool, true, false, not, ◌||◌}
use mathlib.Core.List.{List, [], ◌∷◌}
use native.Mathlib.Omega.{arith}
use lib.Dec.{ltb}
use lib.Ieee.{Float}
use lib.ListN.{length}
use borrow.Author.Tests.{ltb-false, le-ltb, not-false}
use Rattle.base.specs.declared.Refusal.{Refusal}
use Rattle.base.specs.Causes.{first_of}
use Rattle.base.specs.Limits.{LONGEST_RANKED, WORK_PER_POINT}
use Rattle.base.specs.declared.refusals.Cause.TheVariants.{TooLong, NoRoom, NotFinite, Unclassed}
use Rattle.base.proofs.Laws.Causes.{first_free, free_first, given_free, free_given}
use Rattle.base.proofs.Laws.First.{first_none, first_before}
use Rattle.classes.specs.Check.{bad_classes}
use Rattle.classes.specs.Inner.Tables.{Tables}
use Rattle.classes.specs.Pairs.{bad_pairs}
use Rattle.classes.proofs.Laws.Tables.{free_tables, tables_free}
use Rattle.cd_languages.specs.Check.{bad_languages}
use Rattle.cd_languages.specs.Included.{bad_included}
use Rattle.cd_languages.specs.Inner.Languages.{good_languages}
use Rattle.cd_languages.specs.Inner.Permitted.{Permitted}
use Rattle.cd_languages.specs.Languages.{languages}
use Rattle.cd_languages.proofs.Laws.Check.{free_good, good_free}
use Rattle.cd_languages.proofs.Laws.Included.{free_permitted, permitted_free}
use Rattle.cd_ranking.specs.declared.CoherenceMatch.{CoherenceMatch}
use Rattle.cd_ranking.specs.declared.Ranking.{Ranking}
use Rattle.cd_ranking.specs.Ranking.{by_value}
use Rattle.cd_taken_meaning.specs.Unclassed.{unclassed_at, first_unclassed}
use Rattle.ratio.specs.Finite.{is_finite, not_finite}
use Rattle.cd_meaning.specs.Causes.{too_long, no_room, no_class, of_text, of_languages, of_tables, causes}
use Rattle.cd_meaning.specs.Coherence.{DEFAULT_THRESHOLD, matches_of, answered, coherence_ratio, coherence_ratio_default}
use Rattle.cd_meaning.proofs.Laws.Causes.{or_free}
use Rattle.cd_meaning.proofs.Laws.Coherence.{default_same}

-- none of the causes of a ranking: 1, 4, 5, 7, 8, 9, 3, 6
pub record Faultless (text : List ℕ) (threshold : Float) (classes pairs t included : List ℕ) (work room : ℕ) : Type 0 where
  pub short : length text ≤ LONGEST_RANKED
  pub finite : is_finite threshold ≡ true
  pub tables : Tables classes pairs
  pub good : good_languages t ≡ true
  pub permitted : Permitted included t
  pub entries : languages t ≤ room
  pub words : WORK_PER_POINT * length text ≤ work
  pub classed : (i : ℕ) → i < length text → unclassed_at classes text i ≡ false

-- ---- 6
module _ (classes text : List ℕ) where
  classed_free : ((i : ℕ) → i < length text → unclassed_at classes text i ≡ false) → no_class classes text ≡ Ok tt
  unfolding no_class first_unclassed
  classed_free f =
      free_given _ Unclassed _
      (rw (first_none (unclassed_at classes text) (length text) f) (le-ltb (length text) (length text) (omega arith)))

  free_classed : no_class classes text ≡ Ok tt → (i : ℕ) → i < length text → unclassed_at classes text i ≡ false
  unfolding no_class first_unclassed
  free_classed e i h =
      let l = ltb-false (first_unclassed classes text) (length text) (given_free _ Unclassed _ e) in
      first_before (unclassed_at classes text) (length text) i (omega arith)

module _ (text : List ℕ) (threshold : Float) (classes pairs t included : List ℕ) (work room : ℕ) where
  pub faultless_free : Faultless text threshold classes pairs t included work room → causes text threshold classes pairs t included work room ≡ Ok tt
  unfolding causes too_long not_finite no_room first_of
  faultless_free f =
      let tables = tables_free classes pairs f.tables in
      let room_is : ltb room (languages t) || ltb work (WORK_PER_POINT * length text) ≡ false
      = rw (le-ltb room (languages t) f.entries, le-ltb work (WORK_PER_POINT * length text) f.words) in
      free_first _ (not_finite threshold ∷ of_tables text classes pairs t included work room)
      (free_given _ TooLong 0 (le-ltb LONGEST_RANKED (length text) f.short))
      (free_first _ (of_tables text classes pairs t included work room) (free_given _ NotFinite 0 (ap not f.finite))
      (free_first _ (bad_pairs pairs ∷ of_languages text classes t included work room) tables.0
      (free_first _ (of_languages text classes t included work room) tables.1
      (free_first _ (bad_included included t ∷ of_text text classes t work room) (good_free t f.good)
      (free_first _ (of_text text classes t work room) (permitted_free included t f.permitted)
      (free_first _ (no_class classes text ∷ []) (free_given _ NoRoom 0 room_is)
      (free_first _ [] (classed_free classes text f.classed) refl)))))))

  pub free_faultless : causes text threshold classes pairs t included work room ≡ Ok tt → Faultless text threshold classes pairs t included work room
  unfolding causes too_long not_finite no_room
  free_faultless e =
      let a = first_free (too_long text) _ e in
      let b = first_free (not_finite threshold) _ a.1 in
      let c = first_free (bad_classes classes) _ b.1 in
      let d = first_free (bad_pairs pairs) _ c.1 in
      let f = first_free (bad_languages t) _ d.1 in
      let g = first_free (bad_included included t) _ f.1 in
      let h = first_free (no_room text t work room) _ g.1 in
      let i = first_free (no_class classes text) _ h.1 in
      let r = or_free _ _ (given_free (ltb room (languages t) || ltb work (WORK_PER_POINT * length text)) NoRoom 0 h.0) in
      record {
        short = ltb-false LONGEST_RANKED (length text) (given_free _ TooLong 0 a.0);
        finite = not-false (is_finite threshold) (given_free _ NotFinite 0 b.0);
        tables = free_tables classes pairs c.0 d.0;
        good = free_good t f.0;
        permitted = free_permitted included t g.0;
        entries = ltb-false room (languages t) r.0;
        words = ltb-false work (WORK_PER_POINT * length text) r.1;
        classed = free_classed classes text i.0;
      }

-- ---- the answer
ranked_allowed : (c : Result ⊤ Refusal) (l : List CoherenceMatch) (r : Ranking) → answered c l ≡ Ok r → c ≡ Ok tt
unfolding answered
ranked_allowed (Ok u) l r e = refl
ranked_allowed (Err q) l r e = let z : ◌≡◌ {A = ℕ} 0 1 = cc in absurd (omega arith)

module _ (text : List ℕ) (threshold : Float) (small : ℕ) (classes pairs t included : List ℕ) (work room : ℕ) where
  -- no cause, no refusal
  pub faultless_ranked : Faultless text threshold classes pairs t included work room
      → coherence_ratio text threshold small classes pairs t included work room ≡ Ok (by_value (matches_of text threshold small classes pairs t included))
  unfolding coherence_ratio answered
  faultless_ranked f = rw (faultless_free text threshold classes pairs t included work room f)

  -- no refusal, no cause
  pub ranked_faultless : (r : Ranking) → coherence_ratio text threshold small classes pairs t included work room ≡ Ok r
      → Faultless text threshold classes pairs t included work room
  unfolding coherence_ratio
  ranked_faultless r e = free_faultless text threshold classes pairs t included work room (ranked_allowed _ _ r e)

-- the call without a threshold: 0.1 is finite, and so is none of its causes
module _ (text : List ℕ) (small : ℕ) (classes pairs t included : List ℕ) (work room : ℕ) where
  abbrev pub FaultlessDefault : Type 0
  FaultlessDefault = Faultless text DEFAULT_THRESHOLD classes pairs t included work room

  pub faultless_default : FaultlessDefault
      → coherence_ratio_default text small classes pairs t included work room ≡ Ok (by_value (matches_of text DEFAULT_THRESHOLD small classes pairs t included))
  faultless_default f =
      sym (default_same text small classes pairs t included work room) ∙ faultless_ranked text DEFAULT_THRESHOLD small classes pairs t included work room f

  pub default_faultless : (r : Ranking) → coherence_ratio_default text small classes pairs t included work room ≡ Ok r → FaultlessDefault
  default_faultless r e =
      ranked_faultless text DEFAULT_THRESHOLD small classes pairs t included work room r
      (rw (default_same text small classes pairs t included work room) e)
