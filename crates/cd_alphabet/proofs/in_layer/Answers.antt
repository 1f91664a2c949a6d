-- Where the place is not marked, the letter is not in the layer.
-- Assumes nothing.
use Rattle.cd_alphabet.proofs.Loops.Sieve.{sieve_none, place_room}
use Rattle.cd_alphabet.proofs.in_layer.Goals as goal

pub bounds-sieve-x : goal.bounds-sieve-x
bounds-sieve-x c = place_room c.requires _

pub returns-then-not-sieve-x : goal.returns-then-not-sieve-x
returns-then-not-sieve-x c = sieve_none c.requires _ c.if-not-sieve-x.true
