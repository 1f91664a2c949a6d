-- What is told is what the state has (`unwatched_same`). Assumes nothing.
use Rattle.md_words.proofs.Laws.SuperWeirdWord.{unwatched_same}
use Rattle.md_words.proofs.super_weird_word.SuperWeirdWord.unwatched.Goals as goal

pub returns : goal.returns
returns c = unwatched_same _ c.requires
