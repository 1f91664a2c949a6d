-- No entry before k has the language of the entry i (`Finding`). Assumes nothing.
use mathlib.Core.Path.{sym, ◌∙◌}
use Rattle.cd_merge.proofs.Loops.Finding.{finding_start, finding_hit, finding_miss, finding_end}
use Rattle.cd_merge.proofs.means.is_first.Goals as goal

pub loop-k-init : goal.loop-k-init
loop-k-init c = finding_start

pub returns-then-language_at-language : goal.returns-then-language_at-language
returns-then-language_at-language c =
    finding_hit c.loop-k.invariant c.loop-k-test.true (sym c.language_at.ensures ∙ c.if-language_at-language.true ∙ c.language_at-language.ensures)

pub loop-k-preserved : goal.loop-k-preserved
loop-k-preserved c =
    finding_miss c.loop-k.invariant c.loop-k-test.true
    (λ e. c.if-language_at-language.false (c.language_at.ensures ∙ e ∙ sym c.language_at-language.ensures))

pub returns : goal.returns
returns c = finding_end c.loop-k.invariant c.loop-k-test.false
