-- The marked cases (a) to (l), proved: one test, which antt computes at each row of the table (`marked`).
-- Assumes nothing.
use mathlib.Core.Path.{◌≡◌, refl}
use mathlib.Core.Bool.{true}
use lib.Ieee.{of_bits, to_bits, round, add, le}
use Rattle.base.specs.Causes.{given, first_of}
use Rattle.base.specs.First.{first, seek}
use Rattle.base.specs.Flags.{has}
use Rattle.base.specs.FlagRule.{flag_rule, cases_rule, kinds_rule, white_rule, scripts_rule}
use Rattle.base.specs.Tests.{scalar}
use Rattle.class_builtin.specs.Table.{entry_at}
use Rattle.class_builtin.specs.Words.{flag_words, range_numbers, bases, lowers}
use Rattle.class_records.specs.Records.{record_at, good_span, no_ascii, good_flags, none_or_scalar, good_fields, follows, good_at, first_bad, good_table, holds, holder}
use Rattle.classes.specs.Lookup.{class_of, builtin_class, record_class, lent_class}
use Rattle.classes.specs.Pairs.{bad_pairs, bit_of, suspicious}
use Rattle.classes.specs.Check.{bad_length, bad_number, bad_record, bad_classes}
use Rattle.ratio.specs.Fraction.{fraction_of, at_least}
use Rattle.ratio.specs.Eight.{fractions_of, ratios, sum}
use Rattle.md_meaning.specs.Text.{checkpoint, period}
use Rattle.ratio.specs.Finite.{not_finite}
use Rattle.md_meaning.specs.Scan.{accepted_score, no_class, unless, state_at, stops, fed, class_at, unclassed, sum_of, reaches, scored}
use Rattle.md_meaning.specs.MessRatio.{too_long, causes, mess_ratio}
use Rattle.program.specs.Program.{NO_PAIRS}
use Rattle.marked_cases.specs.Alone.{counts_after, ratio_of}
use Rattle.marked_cases.specs.Cases.{cases, right, tells, with_classes, one_pair, all}
use Rattle.md_eight.specs.Detectors as detectors
use Rattle.md_counts.specs.TooManySymbolOrPunctuation as symbols
use Rattle.md_counts.specs.TooManyAccentuated as accents
use Rattle.md_counts.specs.Unprintable as unprintable
use Rattle.md_counts.specs.CjkInvalidStop as stops
use Rattle.md_neighbours.specs.SuspiciousRange as ranges
use Rattle.md_neighbours.specs.SuspiciousDuplicateAccent as doubled
use Rattle.md_words.specs.SuperWeirdWord as words
use Rattle.md_words.specs.ArchaicUpperLower as archaic
use Rattle.ratio.specs.Rounded.{rounded}

-- every case is right; each definition that a row computes with is named, from the table down to the floats
pub marked : all right cases ≡ true
unfolding cases right tells with_classes one_pair counts_after ratio_of NO_PAIRS
    mess_ratio causes too_long not_finite no_class unless accepted_score state_at stops checkpoint period fed class_at unclassed sum_of reaches scored first seek
    given first_of bad_length bad_number bad_record bad_classes bad_pairs good_table first_bad good_at good_span good_fields good_flags no_ascii none_or_scalar follows
    record_at scalar flag_rule cases_rule kinds_rule white_rule scripts_rule
    class_of builtin_class record_class lent_class holder holds entry_at flag_words range_numbers bases lowers bit_of suspicious has
    detectors.start detectors.feed detectors.counts fractions_of fraction_of at_least
    symbols.repeated symbols.adds symbols.counted_symbol symbols.printable symbols.feed symbols.counts
    accents.counted accents.feed accents.counts unprintable.feed unprintable.counts stops.feed stops.counts
    ranges.forgets ranges.forgotten ranges.followed ranges.feed ranges.counts
    doubled.latin_letter doubled.both doubled.letter doubled.feed doubled.counts
    words.watched words.closes words.counted words.letter words.symbol words.accented words.capital words.camel words.long words.close words.inside words.feed words.counts
    archaic.separates archaic.counted archaic.separator archaic.changes archaic.letter archaic.feed archaic.counts
    rounded ratios sum of_bits to_bits round add le
marked = refl
