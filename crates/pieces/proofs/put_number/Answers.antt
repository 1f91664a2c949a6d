-- The kit writes the fewest digits that hold the number, which is the number in decimal; they go behind the word. Assumes nothing.
use native.Mathlib.Omega.{arith}
use mathlib.Core.Path.{◌∙◌}
use Prim.Native.Nat.{◌<◌, ◌^◌}
use Rattle.pieces.proofs.Laws.Numerals.{few_digits, written}
use Rattle.pieces.proofs.Laws.Pieces.{goes_on, goes_as, numbered}
use borrow.Author.Rules.{rules}
use Rattle.pieces.proofs.put_number.Goals as goal

pub put_piece-requires : goal.put_piece-requires
put_piece-requires c =
    let n = c.args.n in
    let h : n < 2 ^ 32 = search rules in
    omega (arith, few_digits n c.decimal-k.result h c.decimal-k.ensures.len, c.put_piece-behind.ensures.ends, c.decimal-k.ensures.in_bounds.1)

pub returns : goal.returns
returns c =
    let n = c.args.n in
    let h : n < 2 ^ 32 = search rules in
    let digits = goes_as (c.decimal-k.ensures.digits ∙ written _ _ h c.decimal-k.ensures.len) c.put_piece.ensures in
    numbered _ _ (goes_on c.put_piece-behind.ensures digits)
