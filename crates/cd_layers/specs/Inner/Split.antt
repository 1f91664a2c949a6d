-- What `alpha_unicode_split` leaves of the work area w, whose numbers are the slots' ranges still: the layers' numbers in the place of the ranges,
-- and nothing else changed; and how many layers there are. The laws of it stand in Laws.Split, part by part.
-- Assumes nothing.
use Rattle.std.specs.Prelude.{ℕ, ◌≡◌, List, length}
use Rattle.base.specs.Put.{put}
use Rattle.cd_work.specs.Inner.Layout.{numbers_start}
use Rattle.cd_work.specs.Inner.Parts.{numbers_in}
use Rattle.cd_layers.specs.Inner.Numbers.{numbers, keys_of}

pub record Split (pairs : List ℕ) (slots : ℕ) (w v : List ℕ) (c : ℕ) : Type 0 where
  pub numbers : v ≡ put w (numbers_start slots) (numbers pairs (numbers_in slots slots w))
  pub count : c ≡ length (keys_of pairs (numbers_in slots slots w))
