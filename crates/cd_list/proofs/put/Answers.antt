-- A ranking's matches are put, of a refusal nothing. Assumes nothing.
use mathlib.Core.Path.{sym, ap, ◌∙◌}
use Rattle.base.proofs.Laws.Put.{put_nothing}
use Rattle.cd_list.specs.Inner.Lent.{matches_in, answer_of}
use Rattle.cd_list.proofs.put.Goals as goal
use Rattle.cd_list.proofs.put.Goals.{in-Ok, in_default}

pub returns : goal.returns
unfolding matches_in
returns c =
    elim c.match-r.branch [
      | in-Ok w ↦ (c.answer_of.ensures ∙ ap answer_of (w.r-is ∙ sym w.in-Ok.is), w.out-is ∙ w.put_matches.ensures ∙ rw w.in-Ok.is)
      | in_default w ↦ (c.answer_of.ensures ∙ ap answer_of w.r-is, w.out-is ∙ rw w.in_default.is (sym (put_nothing _ 0)))
    ]
