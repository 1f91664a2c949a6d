-- 01's flag rule, sentence by sentence, as a test that computes. It says nothing of bit 24 (a letter to `char::is_alphabetic` may be a
-- number to the crate), and nothing of the ASCII bits: each table has a rule of its own for those.
-- Assumes nothing.
use Rattle.std.specs.Prelude.{ℕ, ◌+◌, Bool, not, ◌&&◌, ◌||◌, leb, ltb}
use Rattle.base.specs.Flags.{has, WHITESPACE, UNPRINTABLE, EMOTICON, COMMON_SAFE, WEIRD_SAFE, SEPARATOR, LATIN, ALPHABETIC, CJK, HANGUL}
use Rattle.base.specs.Flags.{KATAKANA, HIRAGANA, THAI, CASE_VARIABLE, LOWERCASE, UPPERCASE, NUMERIC, FLAGS_END}
use Rattle.base.specs.Numbers.{bump}
use Rattle.base.specs.Tests.{implies, same}

-- "UPPERCASE and LOWERCASE not both; CASE_VARIABLE exactly with one of them, and then ALPHABETIC"
unfoldable pub cases_rule : ℕ → Bool
cases_rule f =
    not (has f UPPERCASE && has f LOWERCASE)
    && same (has f CASE_VARIABLE) (has f UPPERCASE || has f LOWERCASE)
    && implies (has f CASE_VARIABLE) (has f ALPHABETIC)

-- "ALPHABETIC, NUMERIC, WHITESPACE and UNPRINTABLE at most one"
unfoldable pub kinds_rule : ℕ → Bool
kinds_rule f = leb (bump (has f ALPHABETIC) + bump (has f NUMERIC) + bump (has f WHITESPACE) + bump (has f UNPRINTABLE)) 1

-- "WHITESPACE brings SEPARATOR and excludes COMMON_SAFE, WEIRD_SAFE and EMOTICON"
unfoldable pub white_rule : ℕ → Bool
white_rule f =
    implies (has f WHITESPACE)
    (has f SEPARATOR && not (has f COMMON_SAFE) && not (has f WEIRD_SAFE) && not (has f EMOTICON))

-- "at most one of the six scripts"
unfoldable pub scripts_rule : ℕ → Bool
scripts_rule f =
    leb
    (bump (has f LATIN) + bump (has f CJK) + bump (has f HANGUL) + bump (has f KATAKANA) + bump (has f HIRAGANA) + bump (has f THAI))
    1

-- the flag rule; and "25 to 31 are clear"
unfoldable pub flag_rule : ℕ → Bool
flag_rule f = cases_rule f && kinds_rule f && white_rule f && scripts_rule f && ltb f FLAGS_END
