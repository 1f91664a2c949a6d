-- The three words are the line's ratio, numerator and denominator. Assumes nothing.
use Rattle.md_report_meaning.specs.Rows.{ratio_at, numerator_at, denominator_at}
use Rattle.md_report_meaning.specs.Bins.{bin_at}
use Rattle.md_report.proofs.count.bin_at.Goals as goal

pub returns : goal.returns
unfolding bin_at ratio_at numerator_at denominator_at
returns c =
    record {
      is = rw (c.bin_of.ensures.is, c.word_of.ensures, c.word_of-2.ensures, c.word_of-3.ensures);
      small = c.bin_of.ensures.small;
    }
