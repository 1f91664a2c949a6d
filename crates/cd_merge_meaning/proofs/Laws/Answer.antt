-- Laws of Answer, one for each way in which the call returns: lengths that do not fit (`unfit_ends`), a score that is none (`bad_ends`), and a good list
-- (`good_ends`), which lacks room (`short_ends`) or is merged (`merged_ends`); and what an accepted call's list is (`accepted_good`).
-- Assumes nothing.
use Rattle.std.specs.Prelude.{Result, Ok, ⊤}
use Prim.Native.Nat.{ℕ, ◌≤◌, ◌<◌}
use mathlib.Core.Path.{◌≡◌, sym, ap, ◌∙◌}
use mathlib.Core.Bool.{true}
use mathlib.Core.List.{List, [], ◌∷◌}
use lib.ListN.{length}
use lib.Dec.{ltb}
use borrow.Author.Tests.{lt-ltb, le-ltb, ltb-false}
use Rattle.base.specs.declared.refusals.Cause.{Cause}
use Rattle.base.specs.declared.Refusal.{Refusal}
use Rattle.base.specs.Causes.{refused_at, first_of}
use Rattle.base.specs.Counted.{count_unless, lent_after}
use Rattle.base.specs.Put.{put}
use Rattle.base.specs.declared.refusals.Cause.TheVariants.{NoRoom, NotFinite, BadLengths}
use Rattle.base.proofs.Laws.Causes.{given_yes, free_given, given_free, first_one, first_given, first_passed, first_free}
use Rattle.base.proofs.Laws.Counted.{count_allowed, counted_allowed, counted_at, after_allowed, after_refused}
use Rattle.cd_merge_meaning.specs.Entries.{entries_in, entries}
use Rattle.cd_merge_meaning.specs.Merge.{firsts, merged, merged_words}
use Rattle.cd_merge_meaning.specs.Answer.{unfit, bad_lengths, first_bad, bad_score, no_room, merge_causes, merge_answer, merge_into}
use Rattle.cd_merge_meaning.specs.Inner.Good.{Fit, Good}
use Rattle.cd_merge_meaning.proofs.Laws.Check.{fit_good}

-- what a call with this cause answers and leaves
abbrev Ends : Result ⊤ Refusal → List ℕ → List ℕ → Result ℕ Refusal → List ℕ → Type 0
Ends c list out a new = (a ≡ count_unless c (length (merged list))) × (new ≡ lent_after c (merged_words list) out)

refuses : (c : Result ⊤ Refusal) (list out : List ℕ) (cause : Cause) (place : ℕ) → c ≡ refused_at cause place → Ends c list out (refused_at cause place) out
unfolding refused_at
refuses c list out cause place e = (counted_at c (length (merged list)) cause place e, sym (after_refused (merged_words list) out c _ e))

-- ---- the list is good: its room decides
module _ (list out : List ℕ) where
  pub short_ends : entries_in (length out) < length (firsts list) → Ends (no_room list (length out)) list out (refused_at NoRoom 0) out
  unfolding no_room
  short_ends h =
      refuses (no_room list (length out)) list out NoRoom 0
      (given_yes (ltb (entries_in (length out)) (length (firsts list))) NoRoom 0 (lt-ltb (entries_in (length out)) (length (firsts list)) h))

  pub merged_ends : length (firsts list) ≤ entries_in (length out) → (n : ℕ) → n ≡ length (merged list)
      → Ends (no_room list (length out)) list out (Ok n) (put out 0 (merged_words list))
  unfolding no_room
  merged_ends h n e =
      let f : no_room list (length out) ≡ (Ok tt) = free_given _ NoRoom 0 (le-ltb (entries_in (length out)) (length (firsts list)) h) in
      (ap Ok e ∙ sym (counted_allowed (no_room list (length out)) (length (merged list)) f), sym (after_allowed (merged_words list) out (no_room list (length out)) f))

-- ---- the call
module _ (list lengths out : List ℕ) where
  abbrev pub MergeEnds : Result ℕ Refusal → List ℕ → Type 0
  MergeEnds a new = (a ≡ merge_answer list lengths (length out)) × (new ≡ merge_into list lengths out)

  abbrev here : Result ⊤ Refusal
  here = merge_causes list lengths (length out)

  pub unfit_ends : unfit list lengths ≡ true → MergeEnds (refused_at BadLengths 0) out
  unfolding merge_answer merge_into merge_causes bad_lengths
  unfit_ends e = refuses here list out BadLengths 0 (first_given _ _ BadLengths 0 e)

  module _ (f : Fit list lengths) where
    past_lengths : here ≡ first_of (bad_score list ∷ no_room list (length out) ∷ [])
    unfolding merge_causes bad_lengths
    past_lengths = first_passed _ _ BadLengths 0 f

    pub bad_ends : (k : ℕ) → k ≡ first_bad list → k < entries list → MergeEnds (refused_at NotFinite k) out
    unfolding merge_answer merge_into bad_score
    bad_ends k e h =
        refuses here list out NotFinite k
        (past_lengths ∙ rw (← e) (first_given _ _ NotFinite k (lt-ltb k (entries list) h)))

    past_scores : entries list ≤ first_bad list → here ≡ no_room list (length out)
    unfolding bad_score
    past_scores h = past_lengths ∙ first_passed _ _ NotFinite (first_bad list) (le-ltb (first_bad list) (entries list) h) ∙ first_one (no_room list (length out))

    pub good_ends : entries list ≤ first_bad list → (a : Result ℕ Refusal) (new : List ℕ) → Ends (no_room list (length out)) list out a new → MergeEnds a new
    unfolding merge_answer merge_into
    good_ends h a new e = rw (past_scores h) e

  -- ---- a call that was accepted
  pub accepted_good : (room n : ℕ) → merge_answer list lengths room ≡ Ok n → Good list
  unfolding merge_answer merge_causes bad_lengths bad_score
  accepted_good room n e =
      let a = first_free (bad_lengths list lengths) _ (count_allowed (merge_causes list lengths room) (length (merged list)) n e) in
      let b = first_free (bad_score list) _ a.1 in
      fit_good list lengths (given_free (unfit list lengths) BadLengths 0 a.0)
      (ltb-false (first_bad list) (entries list) (given_free (ltb (first_bad list) (entries list)) NotFinite (first_bad list) b.0))
