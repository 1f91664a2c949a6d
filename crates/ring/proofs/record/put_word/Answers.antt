-- What is put is the number's bytes. Assumes nothing.
use Rattle.ring.proofs.Laws.Bytes.{word_bytes}
use Rattle.ring.proofs.record.put_word.Goals as goal

pub returns : goal.returns
returns c =
    let bytes = word_bytes c.args.v in
    cc
