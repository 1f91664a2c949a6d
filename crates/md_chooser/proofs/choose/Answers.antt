-- Each verdict hands back the part that the definition gives for it, and it lies where the text lies that the definition names. Assumes nothing.
use mathlib.Core.Path.{◌≡◌, sym, ◌∙◌}
use lib.Seq.{length-take-le}
use Rattle.md_chooser_meaning.specs.declared.Side.TheVariants.{First, Second}
use Rattle.md_chooser_meaning.proofs.Laws.Choose.{
  first_length,
  second_length,
  chosen_first,
  chosen_second,
  chosen_refused,
  from_first,
  from_second,
  from_refused,
}
use Rattle.md_chooser.proofs.choose.Goals as goal

pub slice_bounds-result-end : goal.slice_bounds-result-end
slice_bounds-result-end c =
    let side : c.in-Ok-First.field-0 ≡ First = rw c.in-Ok-First.is at c.in-Ok-First.field-0-is in
    let e = rw side at c.in-Ok-First.is in
    sym (length-take-le _ _ (first_length _ _ _ _ c.part_length-n.ensures e).within)

pub slice_bounds-result-end-in-Ok-Second : goal.slice_bounds-result-end-in-Ok-Second
slice_bounds-result-end-in-Ok-Second c =
    let side : c.in-Ok-Second.field-0 ≡ Second = rw c.in-Ok-Second.is at c.in-Ok-Second.field-0-is in
    let e = rw side at c.in-Ok-Second.is in
    sym (length-take-le _ _ (second_length _ _ _ _ c.part_length-n.ensures e).within)

pub returns-in-Ok-First : goal.returns-in-Ok-First
returns-in-Ok-First c =
    let judged = c.verdict-judged.ensures in
    let side : c.in-Ok-First.field-0 ≡ First = rw c.in-Ok-First.is at c.in-Ok-First.field-0-is in
    let e = rw side at c.in-Ok-First.is in
    let n = first_length _ _ _ _ c.part_length-n.ensures e in
    record { result_value = n.is ∙ chosen_first _ _ _ _ _ judged e; ref_ptr_value = from_first _ _ _ _ _ judged _ _ e }

pub returns-in-Ok-Second : goal.returns-in-Ok-Second
returns-in-Ok-Second c =
    let judged = c.verdict-judged.ensures in
    let side : c.in-Ok-Second.field-0 ≡ Second = rw c.in-Ok-Second.is at c.in-Ok-Second.field-0-is in
    let e = rw side at c.in-Ok-Second.is in
    let n = second_length _ _ _ _ c.part_length-n.ensures e in
    record { result_value = n.is ∙ chosen_second _ _ _ _ _ judged e; ref_ptr_value = from_second _ _ _ _ _ judged _ _ e }

pub returns-in-First : goal.returns-in-First
returns-in-First c =
    let judged = c.verdict-judged.ensures in
    let e = c.in-Err.is in
    record { result_value = chosen_refused _ _ _ _ _ judged _ e; ref_ptr_value = from_refused _ _ _ _ _ judged _ _ _ e }

pub returns-in-Second : goal.returns-in-Second
returns-in-Second c =
    let judged = c.verdict-judged.ensures in
    let e = c.in-Err.is in
    record { result_value = chosen_refused _ _ _ _ _ judged _ e; ref_ptr_value = from_refused _ _ _ _ _ judged _ _ _ e }
