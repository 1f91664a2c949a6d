-- The pieces of a line are the line (`score_pieces`, `refused_pieces`), and one at the front fills the output (`goes_whole`).
-- Assumes nothing.
use Rattle.std.specs.Prelude.{Result, Ok, Err}
use Prim.Native.Nat.{ℕ}
use mathlib.Core.Path.{◌≡◌, ap, ◌∙◌}
use mathlib.Core.List.{List, ◌++◌, append_assoc}
use native.Mathlib.Nat.{zero-add}
use native.Mathlib.Omega.{arith}
use lib.Ieee.{to_bits, binary32}
use lib.ListN.{length}
use Rattle.base.specs.declared.Refusal.{Refusal}
use Rattle.base.specs.Numbers.{bump}
use Rattle.base.proofs.Laws.Put.{put_length}
use Rattle.base.specs.Refusals.{number_of}
use Rattle.md_meaning.specs.declared.Score.{Score}
use Rattle.program.specs.Program.{answer}
use Rattle.program.specs.Line.{line, Reported}
use Rattle.program.specs.Numerals.{hex}
use Rattle.pieces.specs.Words.{codes}
use Rattle.pieces.specs.Numerals.{decimal}
use Rattle.pieces.specs.Inner.Pieces.{Goes}

grouped : (a b c d e f g : List ℕ) → a ++ b ++ (c ++ d) ++ (e ++ f) ++ g ≡ a ++ b ++ c ++ d ++ e ++ f ++ g
grouped a b c d e f g = simp append_assoc

-- the pieces as `put_score` and `put_refused` put them
pub score_pieces : (s : Score)
    → codes "score " ++ hex (to_bits binary32 s.sum) ++ (codes " fed " ++ decimal s.fed) ++ (codes " stopped " ++ decimal (bump s.stopped)) ++ codes "\n"
    ≡ line (Ok s)
unfolding line
score_pieces s =
    grouped (codes "score ") (hex (to_bits binary32 s.sum)) (codes " fed ") (decimal s.fed) (codes " stopped ") (decimal (bump s.stopped))
    (codes "\n")

pub refused_pieces : (r : Refusal)
    → codes "refused " ++ decimal (number_of r.cause) ++ (codes " at " ++ decimal r.place) ++ codes "\n" ≡ line (Err r)
unfolding line
refused_pieces r = simp append_assoc

-- the whole line
pub goes_whole : (bytes before after : List ℕ) (s : Result Score Refusal) (r : ℕ) → s ≡ answer bytes → Goes before after 0 (line s) r → Reported bytes before after r
goes_whole bytes before after s r e g =
    let w : Goes before after 0 (line (answer bytes)) r = rw e at g in
    let l : length after ≡ length before = ap length w.is ∙ put_length before 0 (line (answer bytes)) w.room in
    record { room = omega (arith, w.room, w.ends); counted = w.ends ∙ zero-add _; written = w.is }
