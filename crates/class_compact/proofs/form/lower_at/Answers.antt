-- A word of the letters' record. Assumes nothing.
use Rattle.class_compact_meaning.specs.Form.{lower_at}
use Rattle.class_compact.proofs.form.lower_at.Goals as goal

pub returns : goal.returns
unfolding lower_at
returns c = c.u32_at.ensures.is
