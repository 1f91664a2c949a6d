-- The two kinds of limit, case by case. Assumes nothing.
use Rattle.md_meaning.proofs.Laws.Scan.{reaches_threshold, reaches_never}
use mathlib.Core.Path.{sym}
use Rattle.md.proofs.scan.reaches.Goals as goal

pub returns-in-Some : goal.returns-in-Some
returns-in-Some c = sym (reaches_threshold _ _ _ c.in-Some.is)

pub returns-in-None : goal.returns-in-None
returns-in-None c = sym (reaches_never _ _ c.in-None.is)
