-- Words of inner contracts, beside Languages: `good_languages`. No public promise rests on them.
-- Assumes nothing.
use Rattle.std.specs.Prelude.{ℕ, ◌%◌, List, Bool, ◌&&◌, length, leb, eqb}
use Rattle.base.specs.Limits.{LANGUAGE_RECORD, MOST_LANGUAGES}
use Rattle.base.specs.First.{each}
use Rattle.cd_languages.specs.Languages.{languages, good_record}

-- "Good: whole records", "At most 63 records", and every record good
unfoldable pub good_languages : List ℕ → Bool
good_languages t =
    eqb (length t % LANGUAGE_RECORD) 0
    && leb (languages t) MOST_LANGUAGES
    && each (good_record t) (languages t)
