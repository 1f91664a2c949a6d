-- What the work area holds, part by part, and what is left of it once lists were put into two of its parts: the text's two, or those of the layer
-- that is read. The rest stays.
-- Assumes nothing.
use Rattle.std.specs.Prelude.{ℕ, ◌≤◌, ◌≡◌, List, length, take, drop}
use Rattle.base.specs.Inner.Limits.{LONGEST_LAYER}
use Rattle.base.specs.Put.{put}
use Rattle.cd_work.specs.Inner.Layout.{words, numbers_start, letters_start, lacks_start, order_start}

-- so many slots, and room for their four parts
pub record Room (slots : ℕ) (w : List ℕ) : Type 0 where
  pub few : slots ≤ LONGEST_LAYER
  pub wide : words slots ≤ length w

-- the first i words of a part; the numbers stand at the front
abbrev pub numbers_in : ℕ → ℕ → List ℕ → List ℕ
numbers_in slots i w = take i w

abbrev pub letters_in : ℕ → ℕ → List ℕ → List ℕ
letters_in slots i w = take i (drop (letters_start slots) w)

abbrev pub lacks_in : ℕ → ℕ → List ℕ → List ℕ
lacks_in slots i w = take i (drop (lacks_start slots) w)

abbrev pub order_in : ℕ → ℕ → List ℕ → List ℕ
order_in slots i w = take i (drop (order_start slots) w)

-- the numbers bs and the letters xs put into their parts
unfoldable pub with_text : ℕ → List ℕ → List ℕ → List ℕ → List ℕ
with_text slots w bs xs = put (put w (numbers_start slots) bs) (letters_start slots) xs

-- what is lacking, ls, and the letters s put into their parts
unfoldable pub with_layer : ℕ → List ℕ → List ℕ → List ℕ → List ℕ
with_layer slots w ls s = put (put w (lacks_start slots) ls) (order_start slots) s

-- only the parts of the layer that is read may differ
pub record Kept (slots : ℕ) (w v : List ℕ) : Type 0 where
  pub size : length v ≡ length w
  pub text : take (lacks_start slots) v ≡ take (lacks_start slots) w
  pub back : drop (words slots) v ≡ drop (words slots) w
