-- What passed the check is lendable (`lendable`) and ready for the scan (`lendable_ready`), whose answer is then the score (`lendable_scan`).
-- Assumes nothing.
use Rattle.std.specs.Prelude.{Ok, Some}
use Prim.Native.Nat.{ℕ, ◌≤◌}
use mathlib.Core.Path.{◌≡◌}
use mathlib.Core.List.{List}
use lib.Ieee.{Float}
use lib.ListN.{length}
use Rattle.base.specs.Limits.{LONGEST_TEXT}
use Rattle.class_builtin.specs.Inner.Words.{packed_words}
use Rattle.md.specs.Inner.Ready.{Ready}
use Rattle.md_meaning.specs.Inner.Lent.{bad_lent}
use Rattle.md_meaning.specs.MessRatio.{mess_ratio}
use Rattle.md_meaning.specs.Inner.Scan.{scan}
use Rattle.md_meaning.proofs.Laws.Lent.{free_lent, lent_free}
use Rattle.md_meaning.proofs.Laws.MessRatio.{ratio_scan}
use Rattle.md_utf8.specs.Inner.Lendable.{Lendable}

module _ (threshold : Float) (table classes pairs : List ℕ) where
  pub lendable : bad_lent threshold classes pairs ≡ Ok tt → table ≡ packed_words → Lendable threshold table classes pairs
  lendable e b = let f = free_lent classes pairs threshold e in record { finite = f.0; tables = f.1; builtin = b }

  module _ (l : Lendable threshold table classes pairs) (text : List ℕ) (h : length text ≤ LONGEST_TEXT) where
    pub lendable_ready : Ready table classes pairs text
    lendable_ready = record { tables = l.tables; short = h; builtin = l.builtin }

    pub lendable_scan : scan classes pairs text (Some threshold) ≡ mess_ratio text threshold classes pairs
    lendable_scan = ratio_scan text threshold classes pairs h (lent_free classes pairs threshold l.finite l.tables)
