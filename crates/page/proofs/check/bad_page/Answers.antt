-- One law for each return: the size, then the first bad entry. Assumes nothing.
use mathlib.Core.Path.{sym, ap, ◌∙◌}
use native.Mathlib.Omega.{arith}
use Rattle.base.specs.Causes.{refused_at}
use Rattle.base.specs.declared.refusals.Cause.TheVariants.{BadPage}
use Rattle.page_meaning.proofs.Laws.Answer.{size_refused, entry_refused, none_refused}
use Rattle.page.proofs.check.bad_page.Goals as goal

pub returns-then-page-ne-PAGE_ENTRIES : goal.returns-then-page-ne-PAGE_ENTRIES
returns-then-page-ne-PAGE_ENTRIES c = c.refuse.ensures ∙ sym (size_refused _ c.if-page-ne-PAGE_ENTRIES.true)

pub returns-then-bad-lt-PAGE_ENTRIES : goal.returns-then-bad-lt-PAGE_ENTRIES
returns-then-bad-lt-PAGE_ENTRIES c =
    c.refuse-then-bad-lt-PAGE_ENTRIES.ensures ∙ ap (refused_at BadPage) c.first_bad-bad.ensures
    ∙ sym (entry_refused c.args.page.now c.if-page-ne-PAGE_ENTRIES.false (omega arith))

pub returns : goal.returns
returns c = sym (none_refused c.args.page.now c.if-page-ne-PAGE_ENTRIES.false (omega arith))
