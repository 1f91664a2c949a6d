-- The first bad record of a compact table: the first whose letters are missing or the first bad one of the expansion, whichever comes first.
-- Assumes nothing.
use Prim.Native.Nat.{ℕ, ◌≤◌, ◌<◌}
use mathlib.Core.Path.{◌≡◌, ap, ◌∙◌}
use mathlib.Core.Bool.{not}
use mathlib.Core.List.{List}
use Rattle.base.specs.First.{first}
use Rattle.class_records.specs.Records.{good_at, first_bad}
use Rattle.class_compact_meaning.specs.Form.{compact_records}
use Rattle.class_compact_meaning.specs.Unpacked.{unpacked}
use Rattle.class_compact_meaning.specs.Check.{missing, bad_record_at, first_bad_record}
use Rattle.class_compact_meaning.specs.Inner.Form.{Filled}
use Rattle.class_compact_meaning.specs.Inner.Sound.{first_missing}
use Rattle.class_compact_meaning.proofs.Laws.Firsts.{either_left, either_right}
use Rattle.class_compact_meaning.proofs.Laws.Unpacked.{unpacked_records}

pub table_bad : (c l : List ℕ) → first_bad (unpacked c l) ≡ first (λ i. not (good_at (unpacked c l) i)) (compact_records c)
unfolding first_bad
table_bad c l = rw (unpacked_records c l)

module _ (c l table : List ℕ) (m b : ℕ) (f : Filled c l table) (e : m ≡ first_missing c l) (h : b ≡ first_bad table) where
  bad : b ≡ first (λ i. not (good_at (unpacked c l) i)) (compact_records c)
  bad = h ∙ ap first_bad f.is ∙ table_bad c l

  pub lacking_first : m < b → m ≡ first_bad_record c l
  unfolding first_missing first_bad_record bad_record_at
  lacking_first k = e ∙ either_left (missing c l) (λ i. not (good_at (unpacked c l) i)) (compact_records c) (rw (e, bad) at k)

  pub bad_first : b ≤ m → b ≡ first_bad_record c l
  unfolding first_missing first_bad_record bad_record_at
  bad_first k = bad ∙ either_right (missing c l) (λ i. not (good_at (unpacked c l) i)) (compact_records c) (rw (e, bad) at k)
