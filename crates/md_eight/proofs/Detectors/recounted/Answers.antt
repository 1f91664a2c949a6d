-- The four counts, and the words, are those that the state has (`recounted_same`), so nothing is changed. Assumes nothing.
use mathlib.Core.Path.{refl}
use native.Mathlib.Omega.{arith}
use Rattle.md_eight.proofs.Laws.Recounted.{recounted_same}
use Rattle.md_eight.proofs.Detectors.recounted.Goals as goal

pub overflow_sub-printable : goal.overflow_sub-printable
overflow_sub-printable c = omega (arith, c.requires.0.symbols)

pub returns : goal.returns
returns c = recounted_same _ _ _ c.requires.0 refl _ c.unwatched.ensures
