-- Each of the eight is its definition's after n characters. Assumes nothing.
use mathlib.Core.Path.{◌∙◌}
use Rattle.md_eight.specs.Detectors.{counts}
use Rattle.md_second.specs.Inner.After.{eight_after}
use Rattle.md_second.proofs.Laws.After.{read_words_counts, read_case_counts}
use Rattle.md_second.proofs.scan.eight_after.Goals as goal

pub returns : goal.returns
unfolding counts eight_after
returns c =
    simp (
      c.count_symbols.ensures,
      c.count_accents.ensures,
      c.count_unprintable.ensures,
      c.count_ranges.ensures,
      c.count_doubled.ensures,
      c.count_words.ensures ∙ read_words_counts _ _ _ c.read_words-read.ensures,
      c.count_stops.ensures,
      c.count_case.ensures ∙ read_case_counts _ _ _ c.read_words-read.ensures,
    )
