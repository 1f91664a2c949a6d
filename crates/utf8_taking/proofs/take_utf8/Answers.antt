-- One law for each return; a text has no more code points than bytes. Assumes nothing.
use mathlib.Core.Path.{sym, ◌∙◌}
use native.Mathlib.Omega.{arith}
use Rattle.utf8_meaning.proofs.Laws.Text.{text_few}
use Rattle.utf8_meaning.proofs.Laws.Answer.{fault_small, points_are, ill_formed_lem, counts}
use Rattle.utf8_taking.proofs.take_utf8.Goals as goal

pub overflow_cast-place : goal.overflow_cast-place
overflow_cast-place c =
    let h = fault_small _ _ (sym c.in-Err.is ∙ c.take_text.ensures.value) in omega (arith, h, c.requires.1)

pub overflow_cast-result : goal.overflow_cast-result
overflow_cast-result c =
    let e = (points_are _ _ (sym c.in-Ok.is ∙ c.take_text.ensures.value)).1 in
    omega (arith, e, text_few c.args.bytes.now, c.requires.1)

pub returns-in-Err : goal.returns-in-Err
returns-in-Err c =
    record {
      value = c.refuse.ensures ∙ ill_formed_lem _ (omega (arith, c.requires.1)) _ (sym c.in-Err.is ∙ c.take_text.ensures.value);
      out_after = c.take_text.ensures.out_after;
    }

pub returns-in-Ok : goal.returns-in-Ok
returns-in-Ok c =
    let e = sym c.in-Ok.is ∙ c.take_text.ensures.value in record {
      value = counts _ (omega (arith, c.requires.1)) _ e (omega (arith, (points_are _ _ e).1, text_few c.args.bytes.now, c.requires.1));
      out_after = c.take_text.ensures.out_after;
    }
