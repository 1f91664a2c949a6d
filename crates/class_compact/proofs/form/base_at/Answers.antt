-- A word of the letters' record. Assumes nothing.
use Rattle.class_compact_meaning.specs.Form.{base_at}
use Rattle.class_compact.proofs.form.base_at.Goals as goal

pub returns : goal.returns
unfolding base_at
returns c = c.u32_at.ensures.is
