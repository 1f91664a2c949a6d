-- What a lookup that was made says of the character (`here_found`, `looked_up`).
-- Assumes nothing.
use Rattle.std.specs.Prelude.{Option, Some, None, unwrap_or}
use Prim.Native.Nat.{ℕ}
use mathlib.Core.Path.{◌≡◌, refl, sym, ◌∙◌}
use mathlib.Core.List.{List}
use Rattle.classes.specs.declared.Class.{Class}
use Rattle.classes.specs.Lookup.{class_of}
use Rattle.md_meaning.specs.Text.{char_at}
use Rattle.md_meaning.specs.Scan.{class_in, class_at}
use Rattle.md_second.specs.Inner.Lists.{class_here}

found_or : (point : ℕ) (found : Option Class) → unwrap_or found (record { point = point; flags = 0; range = 0; base = point; lower = point }) ≡ class_in point found
found_or point (Some c) = refl
found_or point None = refl

module _ (classes text : List ℕ) (i point : ℕ) (found : Option Class) (p : point ≡ char_at text i) (q : found ≡ class_of classes point) where
  pub looked_up : class_at classes text i ≡ found
  unfolding class_at
  looked_up = rw (← p) (sym q)

  pub here_found : unwrap_or found (record { point = point; flags = 0; range = 0; base = point; lower = point }) ≡ class_here classes text i
  here_found = found_or point found ∙ rw (looked_up, p) refl
