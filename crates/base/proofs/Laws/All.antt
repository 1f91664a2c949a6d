-- What follows of every element of a list from what holds of every element (`all_map`: of its image; `all_so`: of
-- itself).
-- Assumes nothing.
use mathlib.Core.List.{List, [], ◌∷◌, map}
use Rattle.base.specs.Inner.All.{All}

module _ {A B : Type 0} (P : A → Type 0) (Q : B → Type 0) (f : A → B) (more : (x : A) → P x → Q (f x)) where
  pub all_map : (l : List A) → All P l → All Q (map f l)
  all_map [] h = tt
  all_map (x ∷ l) h = (more x h.0, all_map l h.1)

pub all_so : {A : Type 0} {P Q : A → Type 0} (l : List A) → ((x : A) → P x → Q x) → All P l → All Q l
all_so [] f e = tt
all_so (x ∷ l) f e = (f x e.0, all_so l f e.1)
