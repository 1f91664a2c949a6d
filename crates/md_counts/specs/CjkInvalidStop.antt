-- CJK stops (01): "U+4E04 and U+4E05 over CJK characters, 0 below 16." The Rust's CjkInvalidStopPlugin, where a stop is not counted among
-- the CJK characters, whatever its flags. The laws stand in proofs/Laws/CjkInvalidStop.
-- Assumes nothing.
use Rattle.std.specs.Prelude.{ℕ, ◌+◌, Bool, not, ◌&&◌, ◌||◌, eqb, leb}
use Rattle.base.specs.Flags.{has, CJK}
use Rattle.base.specs.Numbers.{bump}
use Rattle.classes.specs.declared.Class.{Class}
use Rattle.ratio.specs.declared.Fraction.{Fraction}
use Rattle.ratio.specs.declared.Counts.{Counts}
use Rattle.ratio.specs.Fraction.{counts_of}
use Rattle.md_counts.specs.declared.cjk_invalid_stop.CjkInvalidStop.{CjkInvalidStop}

abbrev pub STOP_UP : ℕ
STOP_UP = 0x4E04

abbrev pub STOP_DOWN : ℕ
STOP_DOWN = 0x4E05

abbrev pub wrong_stop : ℕ → Bool
wrong_stop p = eqb p STOP_UP || eqb p STOP_DOWN

abbrev pub start : CjkInvalidStop
start = record { wrong = 0; cjk = 0 }

unfoldable pub feed : CjkInvalidStop → Class → CjkInvalidStop
feed s c =
    record {
      wrong = s.wrong + bump (wrong_stop c.point);
      cjk = s.cjk + bump (not (wrong_stop c.point) && has c.flags CJK);
    }

-- below so many CJK characters the ratio is 0
abbrev pub FEWEST : ℕ
FEWEST = 16

-- the stops "over CJK characters"
abbrev pub share : CjkInvalidStop → Fraction
share s = record { num = s.wrong; den = s.cjk }

-- "0 below 16"
abbrev pub keeps : CjkInvalidStop → Bool
keeps s = leb FEWEST s.cjk

unfoldable pub counts : CjkInvalidStop → Counts
counts s = counts_of (share s) (keeps s)
