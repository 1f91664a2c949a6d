-- The first k letters are put (`Putting`).
-- Assumes nothing.
-- the letters are as many as the count says
use native.Mathlib.Nat.{zero-add}
use native.Mathlib.Omega.{arith}
use Prim.Native.Nat.{ℕ, ◌≤◌, ◌<◌}
use mathlib.Core.Path.{◌≡◌}
use mathlib.Core.List.{List}
use lib.ListN.{length}
use Rattle.cd_languages.specs.Languages.{letter_count}
use Rattle.cd_languages.proofs.Laws.Languages.{good_fields_lem}
use Rattle.base.proofs.Loops.Putting.{putting_start, putting_length, putting_room, putting_more, putting_end}
use Rattle.cd_languages.specs.Letters.{letters_of}
use Rattle.cd_languages.proofs.Laws.Letters.{letters_length}
use Rattle.cd_languages.proofs.slots.read_letters.Goals as goal

below : (t : List ℕ) (i n k : ℕ) → n ≡ letter_count t i → k < n → k < length (letters_of t i)
below t i n k e h = omega (arith, letters_length t i)

ended : (t : List ℕ) (i n k : ℕ) → n ≡ letter_count t i → n ≤ k → length (letters_of t i) ≤ k
ended t i n k e h = omega (arith, letters_length t i)

pub loop-k-init : goal.loop-k-init
loop-k-init c =
    let most = (good_fields_lem c.args.t.now c.requires.0 c.args.i c.requires.1).most in
    putting_start _ 0 _ (omega (arith, most, letters_length c.args.t.now c.args.i, c.requires.2))

pub letter_at-requires : goal.letter_at-requires
letter_at-requires c =
    (c.requires.0, c.requires.1, rw c.count_at-n.ensures at c.loop-k-test.true)

pub bounds-out-k : goal.bounds-out-k
bounds-out-k c =
    let room = putting_room _ 0 _ c.loop-k.invariant (below _ _ _ _ c.count_at-n.ensures c.loop-k-test.true) in
    rw (zero-add c.loop-k.k) at room

pub loop-k-preserved : goal.loop-k-preserved
loop-k-preserved c =
    let within = below _ _ _ _ c.count_at-n.ensures c.loop-k-test.true in
    rw (zero-add c.loop-k.k) at (putting_more _ 0 _ c.loop-k.invariant within 0 _ c.letter_at.ensures)

pub shape_of-out : goal.shape_of-out
shape_of-out c = putting_length _ 0 _ c.loop-k.invariant

pub returns : goal.returns
returns c = (
  c.count_at-n.ensures,
  putting_end _ 0 _ c.loop-k.invariant (ended _ _ _ _ c.count_at-n.ensures c.loop-k-test.false),
)
