-- By the cause: the numbers rise by one from the first. Assumes nothing.
use mathlib.Core.Path.{◌≡◌, refl}
use Prim.Native.Nat.{◌+◌}
use denote.Enum.Declared.{tag_of}
use Rattle.base.specs.contracts.refusals.Cause.{the_type}
use Rattle.base.specs.declared.refusals.Cause.{Cause}
use Rattle.base.specs.declared.refusals.Cause.TheVariants.{TooLong, IllFormed, NoRoom, NotFinite, BadClasses, Unclassed, BadPairs, BadLanguages, BadIncluded}
use Rattle.base.specs.declared.refusals.Cause.TheVariants.{BadPage, NotOnPage, NotScalar, LineFull, LineShort, BadRing, RingFull, ManyLines, BadLengths, BadState}
use Rattle.base.specs.Refusals.{number_of}
use Rattle.base.proofs.refusals.Cause.number.Goals as goal

numbered : (k : Cause) → tag_of the_type k + 1 ≡ number_of k
unfolding number_of
numbered TooLong = refl
numbered IllFormed = refl
numbered NoRoom = refl
numbered NotFinite = refl
numbered BadClasses = refl
numbered Unclassed = refl
numbered BadPairs = refl
numbered BadLanguages = refl
numbered BadIncluded = refl
numbered BadPage = refl
numbered NotOnPage = refl
numbered NotScalar = refl
numbered LineFull = refl
numbered LineShort = refl
numbered BadRing = refl
numbered RingFull = refl
numbered ManyLines = refl
numbered BadLengths = refl
numbered BadState = refl

pub returns : goal.returns
returns c = numbered c.args.self
