-- What a call answers and leaves that is given back what came first (02 [1]: "Writing what was read gives the same bytes, and reading what was written
-- gives the same text"): it counts as many, the first places of its output hold that, and the rest stays. That each of the two calls is so after the other
-- is proved over any page: proofs/Laws/RoundTrips. Assumes nothing.
use Rattle.std.specs.Prelude.{ℕ, ◌≡◌, List, take, Result, Ok}
use Rattle.base.specs.declared.Refusal.{Refusal}
use Rattle.base.specs.Put.{put}

-- what came first, how many that is, the second call's output before it, its answer and its output after it
pub record Back (came : List ℕ) (n : ℕ) (before : List ℕ) (answer : Result ℕ Refusal) (after : List ℕ) : Type 0 where
  pub counts : answer ≡ Ok n
  pub holds : take n after ≡ came
  pub leaves : after ≡ put before 0 came
