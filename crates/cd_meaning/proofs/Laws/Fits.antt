-- A call that is not refused: all its kept matches are known of (`kept_known`), so that the laws of Rattle.cd_ranking.proofs.Laws.Ranking hold of its
-- matches; and there is room for them (`ratio_fits`).
-- Assumes nothing.
use Rattle.std.specs.Prelude.{Result, Ok, Err, ⊤, IfOk}
use Prim.Native.Nat.{ℕ, ◌≤◌}
use mathlib.Core.Path.{◌≡◌, refl}
use mathlib.Core.List.{List}
use native.Mathlib.Omega.{arith}
use lib.Ieee.{Float}
use lib.ListN.{length, replicate, length-replicate}
use Rattle.base.specs.declared.Refusal.{Refusal}
use Rattle.base.specs.Limits.{MOST_LANGUAGES}
use Rattle.base.specs.Put.{put}
use Rattle.base.proofs.Laws.In.{In}
use Rattle.cd_languages.specs.Languages.{languages}
use Rattle.cd_languages.proofs.Laws.Languages.{good_most}
use Rattle.cd_layers.specs.Inner.Numbers.{numbers, keys_of}
use Rattle.cd_work.specs.Inner.Layout.{numbers_start}
use Rattle.cd_work.specs.Inner.Parts.{numbers_in}
use Rattle.cd_layers.specs.Inner.Split.{Split}
use Rattle.cd_taken_meaning.specs.Inner.Area.{slots_of, filled}
use Rattle.cd_best.specs.Kept.{Hit}
use Rattle.cd_best.specs.Inner.Known.{Known}
use Rattle.cd_ranking.specs.declared.Ranking.{Ranking}
use Rattle.cd_ranking.proofs.Laws.Ranking.{ranking_count}
use Rattle.cd_meaning.specs.Causes.{causes}
use Rattle.cd_meaning.specs.Inner.Causes.{Free}
use Rattle.cd_meaning.proofs.Laws.Causes.{allowed_free, allowed_room}
use Rattle.cd_meaning.specs.Coherence.{DEFAULT_THRESHOLD, matches_of, answered, coherence_ratio, coherence_ratio_default}
use Rattle.cd_meaning.specs.KeptMatches.{kept_of}
use Rattle.cd_meaning.proofs.Laws.Coherence.{standing_tallies, default_same}

module _ (text classes pairs t included : List ℕ) (work : ℕ) (free : Free text classes pairs t included work) where
  -- the area may hold what it will: here zeros
  abbrev area : List ℕ
  area = filled classes text (replicate work 0)

  ready : Free text classes pairs t included (length (replicate {A = ℕ} work 0))
  ready = rw (length-replicate {A = ℕ} work 0) free

  abbrev ranges : List ℕ
  ranges = numbers_in (slots_of text) (slots_of text) (filled classes text (replicate work 0))

  split : Split pairs (slots_of text) area (put area (numbers_start (slots_of text)) (numbers pairs ranges)) (length (keys_of pairs ranges))
  split = record { numbers = refl; count = refl }

  pub kept_known : (threshold : Float) (small : ℕ) (h : Hit) → In h (kept_of text threshold small classes pairs t included) → Known t h.at h.score
  kept_known threshold small h i = (standing_tallies text classes pairs t included (replicate work 0) ready split threshold small).known h i

module _ (text : List ℕ) (threshold : Float) (small : ℕ) (classes pairs t included : List ℕ) where
  -- how many matches an answer may have
  abbrev pub Fits : ℕ → Result Ranking Refusal → Type 0
  Fits room a = IfOk a (λ r. (r.count ≤ MOST_LANGUAGES) × (r.count ≤ room))

  answer_fits : (work room : ℕ) (c : Result ⊤ Refusal) → causes text threshold classes pairs t included work room ≡ c
      → Fits room (answered c (matches_of text threshold small classes pairs t included))
  unfolding answered matches_of
  answer_fits work room (Ok u) e =
      let free : Free text classes pairs t included work = allowed_free text classes pairs t included work room threshold _ refl e in
      let most : languages t ≤ MOST_LANGUAGES = good_most t free.comparable.languages in
      let few =
      ranking_count t (kept_of text threshold small classes pairs t included) most (kept_known text classes pairs t included work free threshold small) in
      (omega (arith, few, most), omega (arith, few, allowed_room text classes pairs t included work room threshold _ refl e))
  answer_fits work room (Err r) e = tt

  pub ratio_fits : (work room : ℕ) → Fits room (coherence_ratio text threshold small classes pairs t included work room)
  unfolding coherence_ratio
  ratio_fits work room = answer_fits work room (causes text threshold classes pairs t included work room) refl

pub default_fits : (text : List ℕ) (small : ℕ) (classes pairs t included : List ℕ) (work room : ℕ)
    → Fits text DEFAULT_THRESHOLD small classes pairs t included room (coherence_ratio_default text small classes pairs t included work room)
default_fits text small classes pairs t included work room =
    rw (← default_same text small classes pairs t included work room)
    (ratio_fits text DEFAULT_THRESHOLD small classes pairs t included work room)
