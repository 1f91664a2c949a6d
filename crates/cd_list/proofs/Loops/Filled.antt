-- A lent list while it is filled: the first i matches of a ranking, and the rest as it was (`filled`); no match put (`filled_none`), one more
-- (`filled_more`).
-- Assumes nothing.
use Prim.Native.Nat.{ℕ, zero, suc, ◌+◌, ◌<◌}
use mathlib.Core.Path.{◌≡◌, refl, sym, ap, ◌∙◌}
use mathlib.Core.List.{List, [], ◌∷◌, ◌++◌}
use native.Mathlib.Nat.{zero-add, add-zero}
use native.Mathlib.Numerals.{add-one}
use native.Mathlib.Omega.{arith}
use lib.ListN.{length, drop, set, get_or}
use lib.Seq.{drop-cons, set_at, append_snoc}
use Rattle.base.specs.Put.{put}
use Rattle.base.proofs.Laws.Put.{put_first, put_nothing}
use Rattle.cd_ranking.specs.declared.CoherenceMatch.{CoherenceMatch}
use Rattle.cd_ranking.specs.declared.Ranking.{Ranking}
use Rattle.cd_list.specs.Inner.Lent.{entry_of, entries_from}

module _ (r : Ranking) where
  entries_length : (j n : ℕ) → length (entries_from r j n) ≡ n
  unfolding entries_from
  entries_length j zero = refl
  entries_length j (suc n) = ap suc (entries_length (suc j) n)

  entries_more : (j n : ℕ) → entries_from r j (suc n) ≡ entries_from r j n ++ (entry_of r (j + n) ∷ [])
  unfolding entries_from
  entries_more j zero = rw (add-zero j)
  entries_more j (suc n) =
      let e : suc j + n ≡ j + suc n = omega arith in
      ap (λ (l : List CoherenceMatch). entry_of r j ∷ l) (entries_more (suc j) n ∙ rw e)

  module _ (out : List CoherenceMatch) where
    abbrev pub filled : ℕ → List CoherenceMatch
    filled i = put out 0 (entries_from r 0 i)

    filled_is : (i : ℕ) → filled i ≡ entries_from r 0 i ++ drop i out
    filled_is i = put_first out (entries_from r 0 i) ∙ rw (entries_length 0 i)

    pub filled_none : filled 0 ≡ out
    unfolding entries_from
    filled_none = put_nothing out 0

    pub filled_more : (i : ℕ) → i < length out → set (filled i) i (entry_of r i) ≡ filled (i + 1)
    filled_more i h =
        let x : CoherenceMatch = entry_of r i in
        let m : entries_from r 0 (suc i) ≡ entries_from r 0 i ++ (x ∷ []) = entries_more 0 i ∙ rw (zero-add i) in
        rw (filled_is i, filled_is (i + 1), drop-cons out i x h, set_at (entries_from r 0 i) (get_or out i x) (drop (suc i) out) x i (entries_length 0 i), add-one i, m)
        (sym (append_snoc (entries_from r 0 i) x (drop (suc i) out)))
