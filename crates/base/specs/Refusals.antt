-- The numbers of the causes of a refusal: 01's, and from 10 on 02's. What each cause says, and which place it gives, stands beside it in src/refusals.rt.
-- Assumes nothing.
use Rattle.std.specs.Prelude.{ℕ}
use Rattle.base.specs.declared.refusals.Cause.{Cause}
use Rattle.base.specs.declared.refusals.Cause.TheVariants.{TooLong, IllFormed, NoRoom, NotFinite, BadClasses, Unclassed, BadPairs, BadLanguages, BadIncluded}
use Rattle.base.specs.declared.refusals.Cause.TheVariants.{BadPage, NotOnPage, NotScalar, LineFull, LineShort, BadRing, RingFull, ManyLines, BadLengths, BadState}

-- no refusal: what the host's answers carry where a call was accepted
abbrev pub ACCEPTED : ℕ
ACCEPTED = 0

unfoldable pub number_of : Cause → ℕ
number_of TooLong = 1
number_of IllFormed = 2
number_of NoRoom = 3
number_of NotFinite = 4
number_of BadClasses = 5
number_of Unclassed = 6
number_of BadPairs = 7
number_of BadLanguages = 8
number_of BadIncluded = 9
number_of BadPage = 10
number_of NotOnPage = 11
number_of NotScalar = 12
number_of LineFull = 13
number_of LineShort = 14
number_of BadRing = 15
number_of RingFull = 16
number_of ManyLines = 17
number_of BadLengths = 18
number_of BadState = 19
