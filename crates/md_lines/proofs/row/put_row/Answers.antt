-- The part of the output from `at` on that is as long as the row gets the row, so the whole gets it at `at`. Assumes nothing.
use mathlib.Core.Path.{refl, sym, ◌∙◌}
use native.Mathlib.Omega.{arith}
use lib.ListN.{length}
use Rattle.std.proofs.lemmas.Slice.{put_mid-paste}
use Rattle.base.proofs.Laws.Put.{put_all}
use Rattle.md_lines.proofs.row.put_row.Goals as goal

pub returns : goal.returns
returns c =
    put_mid-paste _ _ _ _ _ (length c.args.row.now) c.copy_from_slice.ensures.after (omega arith) refl ∙ sym (put_all _ _ _)
