-- One feed, with the pair table's bit, is the definition's step. Assumes nothing.
use Rattle.md_meaning.specs.Scan.{fed}
use Rattle.md_text.proofs.fed.Goals as goal

pub returns : goal.returns
unfolding fed
returns c = simp (c.feed.ensures, c.is_suspicious-suspicious.ensures, c.last_range.ensures)
