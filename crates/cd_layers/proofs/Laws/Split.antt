-- What is left of the work area after the split, part by part: `split_size`, `split_numbers`, `split_back`.
-- Assumes nothing.
use Prim.Native.Nat.{ℕ, ◌+◌, ◌≤◌}
use mathlib.Core.Path.{◌≡◌, sym, ap, ◌∙◌}
use mathlib.Core.List.{List, []}
use native.Mathlib.Omega.{arith}
use lib.ListN.{length, take, drop}
use lib.Seq.{length-take-le}
use Rattle.base.proofs.Laws.Put.{put_length, put_part, put_beyond}
use Rattle.cd_work.specs.Inner.Layout.{letters_start}
use Rattle.cd_work.specs.Inner.Parts.{numbers_in}
use Rattle.cd_layers.specs.Inner.Numbers.{numbers}
use Rattle.cd_layers.proofs.Laws.Numbers.{numbers_length}
use Rattle.cd_layers.specs.Inner.Split.{Split}

module _ (pairs : List ℕ) (slots : ℕ) (w : List ℕ) {v : List ℕ} {c : ℕ} (s : Split pairs slots w v c) (z : slots ≤ length w) where
  abbrev after : List ℕ
  after = numbers pairs (numbers_in slots slots w)

  as_many : length after ≡ slots
  as_many = numbers_length pairs [] (numbers_in slots slots w) ∙ length-take-le slots w z

  fits : 0 + length after ≤ length w
  fits = omega (arith, as_many)

  pub split_size : length v ≡ length w
  split_size = ap length s.numbers ∙ put_length w 0 after fits

  pub split_numbers : numbers_in slots slots v ≡ numbers pairs (numbers_in slots slots w)
  split_numbers = ap (λ (m : ℕ). take m v) (sym as_many) ∙ ap (take (length after)) s.numbers ∙ put_part w 0 after fits

  -- all behind the numbers stays
  pub split_back : (k : ℕ) → letters_start slots ≤ k → drop k v ≡ drop k w
  split_back k h = rw s.numbers (put_beyond w 0 after fits k (omega (arith, as_many)))
