-- The work area on its way through a call that is not refused: filled (`filled`), split (v), read (u) and cleared; what each step needs, and that
-- the end is 01's ranking (`ranked_is`) and a cleared area (`cleared_is`). And what each way through the call shows.
-- Assumes nothing.
use Rattle.std.specs.Prelude.{Result, Ok, Err, ⊤}
use Prim.Native.Nat.{ℕ, suc, ◌+◌, ◌*◌, ◌≤◌}
use mathlib.Core.Path.{◌≡◌, refl, sym, ap, ◌∙◌}
use mathlib.Core.Bool.{true}
use mathlib.Core.List.{List, [], ◌∷◌}
use native.Mathlib.Omega.{arith}
use lib.Ieee.{Float, of_bits}
use lib.ListN.{length, take, drop, replicate, length-replicate}
use Rattle.base.specs.declared.Refusal.{Refusal}
use Rattle.base.specs.Limits.{LAST_RANGE, PAIR_BYTES, WORK_PER_POINT}
use Rattle.base.specs.Inner.Limits.{MOST_LETTERS}
use Rattle.base.specs.Put.{put}
use Rattle.base.proofs.Laws.Put.{put_forgets}
use Rattle.ratio.specs.Finite.{is_finite}
use Rattle.cd_languages.proofs.Laws.Languages.{good_most}
use Rattle.cd_work.specs.Inner.Layout.{words, letters_start, lacks_start}
use Rattle.cd_work.specs.Inner.Parts.{Room, Kept, numbers_in, letters_in}
use Rattle.cd_layers.specs.Layers.{Layer, alpha_unicode_split}
use Rattle.cd_layers.specs.Inner.Numbers.{numbers, keys_of, Below}
use Rattle.cd_layers.proofs.Laws.Numbers.{alone, layers_few}
use Rattle.cd_layers.proofs.Laws.Layers.{layer_alone, layer_count}
use Rattle.cd_layers.proofs.Laws.Joining.{letters_at_lem}
use Rattle.cd_layers.specs.Inner.Split.{Split}
use Rattle.cd_layers.proofs.Laws.Split.{split_size, split_numbers, split_back}
use Rattle.cd_letters.specs.Letters.{ranking}
use Rattle.cd_letters.specs.Inner.LayerLetters.{layer_letters}
use Rattle.cd_taken_meaning.specs.Taken.{taken_chars}
use Rattle.cd_taken_meaning.specs.Inner.Area.{slots_of, ranges_of, lowers_of, filled, FewUndotted}
use Rattle.cd_taken_meaning.proofs.Laws.Area.{split_taken, ranges_below, ranges_length, lowers_length, lowers_undotted, slots_few, slots_room, filled_ranges, filled_lowers, filled_back, filled_size}
use Rattle.cd_best.specs.declared.Standing.{Standing}
use Rattle.cd_best.specs.Kept.{Hit}
use Rattle.cd_best.specs.Inner.Standing.{best_at, start}
use Rattle.cd_best.specs.Inner.Known.{Known}
use Rattle.cd_best.proofs.Laws.Tallies.{Tallies, start_tallies}
use Rattle.cd_ranking.specs.declared.Ranking.{Ranking}
use Rattle.cd_ranking.specs.Ranking.{in_rank, by_value}
use Rattle.cd_ranking.specs.Inner.Listed.{kept_records}
use Rattle.cd_ranking.proofs.Laws.Tallied.{tallied_ranking}
use Rattle.cd_meaning.specs.Causes.{causes, causes_default}
use Rattle.cd_meaning.specs.Inner.Causes.{Free}
use Rattle.cd_meaning.proofs.Laws.Causes.{default_causes}
use Rattle.cd_meaning.specs.Coherence.{DEFAULT_THRESHOLD, matches_of, answered, coherence_ratio, coherence_ratio_default, cleared, work_after}
use Rattle.cd_meaning.specs.KeptMatches.{kept_of}
use Rattle.cd_meaning.proofs.Laws.Kept.{layers_tallies}
use Rattle.cd_meaning.specs.Inner.After.{layers_after}
use Rattle.cd_meaning.specs.Inner.Reading.{read_from}
use Rattle.cd_meaning.proofs.Laws.Reading.{layer_distinct, read_layers}

alone_length : (xs : List ℕ) → length (alone xs) ≡ length xs
alone_length [] = refl
alone_length (x ∷ xs) = ap suc (alone_length xs)

module _ (text classes pairs t included w : List ℕ) (free : Free text classes pairs t included (length w)) where
  abbrev slots : ℕ
  slots = slots_of text

  -- the work that 01 asks for is room for the slots
  pub work_room : Room slots w
  work_room = slots_room text w free.short free.enough

  pub fill_room : lacks_start slots ≤ length w
  fill_room = omega (arith, work_room.wide)

  size : length (filled classes text w) ≡ length w
  size = filled_size classes text w fill_room

  -- the slots' ranges are ones that the pair table knows
  pub split_needs : (slots ≤ length (filled classes text w)) × (length pairs ≡ PAIR_BYTES) × Below (numbers_in slots slots (filled classes text w))
  split_needs =
      (omega (arith, size, work_room.wide), free.tables.fits, rw (filled_ranges classes text w fill_room) (ranges_below classes text free.tables.good))

  abbrev layers_of : List Layer
  layers_of = alpha_unicode_split pairs (taken_chars classes text)

  module _ {v : List ℕ} {c : ℕ} (s : Split pairs slots (filled classes text w) v c) where
    room : slots ≤ length (filled classes text w)
    room = split_needs.0

    same_lengths : length (ranges_of classes text) ≡ length (lowers_of classes text)
    same_lengths = ranges_length classes text ∙ sym (lowers_length classes text)

    pub split_room : length v ≡ length w
    split_room = split_size pairs slots (filled classes text w) s room ∙ size

    pub room_after : Room slots v
    room_after = record { few = work_room.few; wide = omega (arith, work_room.wide, split_room) }

    pub few_layers : c ≤ LAST_RANGE
    few_layers =
        let e : c ≡ length (keys_of pairs (ranges_of classes text)) = rw (filled_ranges classes text w fill_room) at s.count in
        rw e (layers_few pairs (ranges_of classes text) (ranges_below classes text free.tables.good))

    -- as many layers as 01 has
    count_is : c ≡ length layers_of
    count_is =
        let e : c ≡ length (keys_of pairs (ranges_of classes text)) = rw (filled_ranges classes text w fill_room) at s.count in
        e
        ∙ sym (ap (λ (ys : List Layer). length ys) (split_taken pairs classes free.tables.good text)
        ∙ layer_count pairs (ranges_of classes text) (alone (lowers_of classes text)) alone_same)
      where
        alone_same : length (ranges_of classes text) ≡ length (alone (lowers_of classes text))
        alone_same = same_lengths ∙ sym (alone_length (lowers_of classes text))

    letters_kept : letters_in slots slots v ≡ lowers_of classes text
    letters_kept =
        ap (take slots) (split_back pairs slots (filled classes text w) s room (letters_start slots) (omega arith)) ∙ filled_lowers classes text w fill_room

    pub undotted_after : FewUndotted slots v
    undotted_after = rw letters_kept (omega (arith, free.short, lowers_undotted classes text))

    -- and each with the letters of its number
    letters_are_lem : (k : ℕ) → letters_at_lem k layers_of ≡ layer_letters slots (k + 1) v
    letters_are_lem k =
        let a : numbers_in slots slots v ≡ numbers pairs (ranges_of classes text) =
        split_numbers pairs slots (filled classes text w) s room ∙ ap (numbers pairs) (filled_ranges classes text w fill_room) in
        rw (a, letters_kept)
        (ap (λ (ys : List Layer). letters_at_lem k ys) (split_taken pairs classes free.tables.good text)
        ∙ layer_alone pairs (ranges_of classes text) (lowers_of classes text) same_lengths k)

    pub letters_distinct : (k : ℕ) → length (ranking (letters_at_lem k layers_of)) ≤ MOST_LETTERS
    letters_distinct k = rw (letters_are_lem k) (layer_distinct slots (k + 1) v room_after undotted_after)

    module _ (threshold : Float) (small : ℕ) where
      abbrev standing : Standing
      standing = read_from threshold small classes t included slots v 0 c start

      standing_is : standing ≡ layers_after threshold small classes t included start layers_of
      standing_is = rw count_is (read_layers threshold small classes t included slots v layers_of start letters_are_lem)

      abbrev hits : List Hit
      hits = kept_of text threshold small classes pairs t included

      -- what is read tallies with the kept matches
      pub standing_tallies : Tallies (Known t) hits standing
      standing_tallies =
          rw standing_is (layers_tallies threshold small classes t included free.comparable start [] (start_tallies (Known t)) layers_of letters_distinct)

      pub ranked_is : (x : Ranking) → x ≡ by_value (in_rank t (best_at standing) (kept_records standing))
          → x ≡ by_value (matches_of text threshold small classes pairs t included)
      unfolding matches_of
      ranked_is x e = e ∙ ap by_value (tallied_ranking t (good_most t free.comparable.languages) standing_tallies)

    -- what lies past the area stays
    pub cleared_is : {u x : List ℕ} → Kept slots v u → x ≡ put u 0 (replicate (WORK_PER_POINT * length text) 0) → x ≡ cleared text w
    unfolding cleared
    cleared_is {u} {x} k e =
        let zeros : length (replicate {A = ℕ} (WORK_PER_POINT * length text) 0) ≡ WORK_PER_POINT * length text =
        length-replicate {A = ℕ} (WORK_PER_POINT * length text) 0 in
        let back : drop (words slots) u ≡ drop (words slots) w =
        k.back ∙ split_back pairs slots (filled classes text w) s room (words slots) (omega arith)
        ∙ filled_back classes text w fill_room (words slots) (omega arith) in
        e ∙ put_forgets u w (replicate (WORK_PER_POINT * length text) 0) (words slots) (omega (arith, zeros, slots_few text)) back

-- ---- what each way through the call shows
module _ (text : List ℕ) (threshold : Float) (small : ℕ) (classes pairs t included : List ℕ) (work room : ℕ) (w : List ℕ) where
  -- the answer is a, and the work area is left as new
  abbrev Ends : Result Ranking Refusal → List ℕ → Type 0
  Ends a new =
      (a ≡ coherence_ratio text threshold small classes pairs t included work room)
      × (new ≡ work_after (causes text threshold classes pairs t included work room) text w)

  module _ (c : Result ⊤ Refusal) (first : c ≡ causes text threshold classes pairs t included work room) where
    pub refused_ends : (r : Refusal) → c ≡ Err r → (a : Result Ranking Refusal) → a ≡ Err r → Ends a w
    unfolding coherence_ratio answered work_after
    refused_ends r e a d = rw (sym first ∙ e) (d, refl)

    pub allowed_ends : c ≡ Ok tt → (a : Ranking) (new : List ℕ)
        → (a ≡ by_value (matches_of text threshold small classes pairs t included)) × (new ≡ cleared text w) → Ends (Ok a) new
    unfolding coherence_ratio answered work_after
    allowed_ends e a new d = rw (sym first ∙ e) (ap Ok d.0, d.1)

-- 0.1 is finite, so that the cause between the two is never given
pub default_finite : is_finite DEFAULT_THRESHOLD ≡ true
unfolding of_bits
default_finite = refl

pub default_same : (text : List ℕ) (small : ℕ) (classes pairs t included : List ℕ) (work room : ℕ)
    → coherence_ratio text DEFAULT_THRESHOLD small classes pairs t included work room ≡ coherence_ratio_default text small classes pairs t included work room
unfolding coherence_ratio coherence_ratio_default
default_same text small classes pairs t included work room =
    ap (λ (c : Result ⊤ Refusal). answered c (matches_of text DEFAULT_THRESHOLD small classes pairs t included))
    (default_causes text classes pairs t included work room DEFAULT_THRESHOLD default_finite)

pub default_work : (text classes pairs t included w : List ℕ) (work room : ℕ)
    → work_after (causes text DEFAULT_THRESHOLD classes pairs t included work room) text w
    ≡ work_after (causes_default text classes pairs t included work room) text w
default_work text classes pairs t included w work room =
    ap (λ (c : Result ⊤ Refusal). work_after c text w) (default_causes text classes pairs t included work room DEFAULT_THRESHOLD default_finite)

pub default_ends : (text : List ℕ) (small : ℕ) (classes pairs t included : List ℕ) (work room : ℕ) (w : List ℕ) (a : Result Ranking Refusal) (new : List ℕ)
    → Ends text DEFAULT_THRESHOLD small classes pairs t included work room w a new
    → (a ≡ coherence_ratio_default text small classes pairs t included work room)
    × (new ≡ work_after (causes_default text classes pairs t included work room) text w)
default_ends text small classes pairs t included work room w a new e =
    (e.0 ∙ default_same text small classes pairs t included work room, e.1 ∙ default_work text classes pairs t included w work room)
