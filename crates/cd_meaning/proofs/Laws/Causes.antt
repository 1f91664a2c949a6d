-- What each way through the causes shows (one law for each return), and what is known where there is none (`allowed_free`).
-- Assumes nothing.
use Rattle.std.specs.Prelude.{Result, Ok, Err, ⊤}
use Prim.Native.Nat.{ℕ, ◌*◌, ◌≤◌, ◌<◌}
use mathlib.Core.Path.{◌≡◌, refl, sym, ◌∙◌}
use mathlib.Core.Bool.{Bool, true, false, ◌||◌}
use mathlib.Core.List.{List, ◌∷◌}
use native.Mathlib.Omega.{arith}
use lib.Dec.{ltb}
use lib.Ieee.{Float}
use lib.ListN.{length}
use borrow.Author.Tests.{lt-ltb, le-ltb, ltb-false}
use Rattle.base.specs.declared.Refusal.{Refusal}
use Rattle.base.specs.Causes.{refused_at, given, first_of}
use Rattle.base.specs.Limits.{LONGEST_RANKED, WORK_PER_POINT}
use Rattle.base.specs.declared.refusals.Cause.TheVariants.{TooLong, NoRoom, NotFinite, Unclassed}
use Rattle.base.proofs.Laws.Causes.{first_refused, first_on, first_free, given_free}
use Rattle.classes.specs.Check.{bad_classes}
use Rattle.classes.specs.Pairs.{bad_pairs}
use Rattle.classes.proofs.Laws.Check.{free_good as classes_good}
use Rattle.classes.proofs.Laws.Tables.{free_tables}
use Rattle.cd_languages.specs.Check.{bad_languages}
use Rattle.cd_languages.proofs.Laws.Check.{free_good as languages_good}
use Rattle.cd_languages.specs.Included.{bad_included}
use Rattle.cd_languages.proofs.Laws.Included.{free_permitted}
use Rattle.cd_languages.specs.Languages.{languages}
use Rattle.ratio.specs.Finite.{is_finite, not_finite}
use Rattle.cd_taken_meaning.specs.Unclassed.{first_unclassed}
use Rattle.cd_meaning.specs.Causes.{too_long, no_room, no_class, of_text, of_languages, of_tables, causes, causes_default}
use Rattle.cd_meaning.specs.Inner.Causes.{Free}

module _ (text classes t : List ℕ) (work room : ℕ) where
  pub text_room : (ltb room (languages t) || ltb work (WORK_PER_POINT * length text)) ≡ true
      → refused_at NoRoom 0 ≡ first_of (of_text text classes t work room)
  unfolding first_of no_room given refused_at
  text_room e = rw e

  module _ (e : (ltb room (languages t) || ltb work (WORK_PER_POINT * length text)) ≡ false) where
    pub text_unclassed : first_unclassed classes text < length text
        → refused_at Unclassed (first_unclassed classes text) ≡ first_of (of_text text classes t work room)
    unfolding first_of no_room no_class given refused_at
    text_unclassed h = rw (e, lt-ltb (first_unclassed classes text) (length text) h)

    pub text_free : length text ≤ first_unclassed classes text → (Ok tt) ≡ first_of (of_text text classes t work room)
    unfolding first_of no_room no_class given refused_at
    text_free h = rw (e, le-ltb (first_unclassed classes text) (length text) h)

module _ (text classes t included : List ℕ) (work room : ℕ) where
  pub languages_bad : (r : Refusal) → bad_languages t ≡ Err r → Err r ≡ first_of (of_languages text classes t included work room)
  languages_bad r e = sym (first_refused _ (bad_languages t) r e)

  module _ (g : bad_languages t ≡ Ok tt) where
    pub included_bad : (r : Refusal) → bad_included included t ≡ Err r → Err r ≡ first_of (of_languages text classes t included work room)
    included_bad r e = sym (first_on _ (bad_languages t) g ∙ first_refused _ (bad_included included t) r e)

    pub languages_on : bad_included included t ≡ Ok tt → (c : Result ⊤ Refusal) → c ≡ first_of (of_text text classes t work room)
        → c ≡ first_of (of_languages text classes t included work room)
    languages_on e c o = o ∙ sym (first_on _ (bad_languages t) g ∙ first_on _ (bad_included included t) e)

module _ (text classes pairs t included : List ℕ) (work room : ℕ) where
  pub classes_bad : (r : Refusal) → bad_classes classes ≡ Err r → Err r ≡ first_of (of_tables text classes pairs t included work room)
  classes_bad r e = sym (first_refused _ (bad_classes classes) r e)

  module _ (g : bad_classes classes ≡ Ok tt) where
    pub pairs_bad : (r : Refusal) → bad_pairs pairs ≡ Err r → Err r ≡ first_of (of_tables text classes pairs t included work room)
    pairs_bad r e = sym (first_on _ (bad_classes classes) g ∙ first_refused _ (bad_pairs pairs) r e)

    pub tables_on : bad_pairs pairs ≡ Ok tt → (c : Result ⊤ Refusal) → c ≡ first_of (of_languages text classes t included work room)
        → c ≡ first_of (of_tables text classes pairs t included work room)
    tables_on e c o = o ∙ sym (first_on _ (bad_classes classes) g ∙ first_on _ (bad_pairs pairs) e)

  module _ (threshold : Float) where
    pub cause_long : LONGEST_RANKED < length text → refused_at TooLong 0 ≡ causes text threshold classes pairs t included work room
    unfolding causes first_of too_long given refused_at
    cause_long h = rw (lt-ltb LONGEST_RANKED (length text) h)

    module _ (h : length text ≤ LONGEST_RANKED) where
      pub cause_unbounded : is_finite threshold ≡ false → refused_at NotFinite 0 ≡ causes text threshold classes pairs t included work room
      unfolding causes first_of too_long not_finite given refused_at
      cause_unbounded e = rw (le-ltb LONGEST_RANKED (length text) h, e)

      pub cause_on : is_finite threshold ≡ true → (c : Result ⊤ Refusal) → c ≡ first_of (of_tables text classes pairs t included work room)
          → c ≡ causes text threshold classes pairs t included work room
      unfolding causes first_of too_long not_finite given refused_at
      cause_on e c o = o ∙ rw (le-ltb LONGEST_RANKED (length text) h, e)

-- a second cause that is none is passed
passed_second : (c : Result ⊤ Refusal) (causes : List (Result ⊤ Refusal)) → first_of (c ∷ (Ok tt) ∷ causes) ≡ first_of (c ∷ causes)
unfolding first_of
passed_second (Ok u) causes = refl
passed_second (Err r) causes = refl

-- ---- where there is no cause
pub or_free : (a b : Bool) → a || b ≡ false → (a ≡ false) × (b ≡ false)
or_free true b e = absurd (no (told b e))
  where
    told : (b : Bool) → true ≡ false → ◌≡◌ {A = ℕ} 0 1
    told b e = cc

    no : ◌≡◌ {A = ℕ} 0 1 → ⊥
    no z = omega arith
or_free false b e = (refl, e)

module _ (text classes pairs t included : List ℕ) (work room : ℕ) where
  free : too_long text ≡ Ok tt → first_of (of_tables text classes pairs t included work room) ≡ Ok tt
      → Free text classes pairs t included work × (languages t ≤ room)
  unfolding too_long no_room no_class
  free long e =
      let a = first_free (bad_classes classes) _ e in
      let b = first_free (bad_pairs pairs) _ a.1 in
      let c = first_free (bad_languages t) _ b.1 in
      let d = first_free (bad_included included t) _ c.1 in
      let f = first_free (no_room text t work room) _ d.1 in
      let g = first_free (no_class classes text) _ f.1 in
      let r = or_free _ _ (given_free (ltb room (languages t) || ltb work (WORK_PER_POINT * length text)) NoRoom 0 f.0) in (
        record {
          short = ltb-false LONGEST_RANKED (length text) (given_free _ TooLong 0 long);
          tables = free_tables classes pairs a.0 b.0;
          comparable = record {
            classes = classes_good classes a.0;
            languages = languages_good t c.0;
            included = free_permitted included t d.0;
          };
          enough = ltb-false work (WORK_PER_POINT * length text) r.1;
          classed = ltb-false (first_unclassed classes text) (length text) (given_free _ Unclassed (first_unclassed classes text) g.0);
        },
        ltb-false room (languages t) r.0,
      )

  module _ (threshold : Float) (c : Result ⊤ Refusal) (first : c ≡ causes text threshold classes pairs t included work room) (e : c ≡ Ok tt) where
    both : Free text classes pairs t included work × (languages t ≤ room)
    unfolding causes
    both =
        let a = first_free (too_long text) _ (sym first ∙ e) in
        let b = first_free (not_finite threshold) _ a.1 in
        free a.0 b.1

    pub allowed_free : Free text classes pairs t included work
    allowed_free = both.0

    pub allowed_room : languages t ≤ room
    allowed_room = both.1

  -- a threshold that is finite gives no cause
  pub default_causes : (threshold : Float) → is_finite threshold ≡ true
      → causes text threshold classes pairs t included work room ≡ causes_default text classes pairs t included work room
  unfolding causes causes_default first_of not_finite given
  default_causes threshold e = rw e (passed_second (too_long text) (of_tables text classes pairs t included work room))
