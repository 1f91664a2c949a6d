-- A list put into the first places of a lent one, and how many there are (`Put`).
-- Assumes nothing.
use Rattle.std.specs.Prelude.{ℕ, ◌≤◌, ◌≡◌, List, length, take, drop}
use Rattle.std.proofs.Common.{sym, ap, ◌∙◌, arith, length-take, take_at}
use Rattle.base.specs.Put.{put}
use Rattle.base.proofs.Laws.Put.{put_first}

pub record Put {A : Type 0} (l w v : List A) (r : ℕ) : Type 0 where
  pub count : r ≡ length l
  pub out : v ≡ put w 0 l

module _ {A : Type 0} {l w v : List A} {r : ℕ} (p : Put l w v r) where
  pub put_front : take r v ≡ l
  put_front = rw (p.out, put_first w l) (take_at l (drop (length l) w) r (sym p.count))

  pub put_count : r ≡ length (take r v)
  put_count = p.count ∙ sym (ap length put_front)

  pub put_room : r ≤ length v
  put_room = omega (arith, put_count, length-take r v)
