-- The three terms are `over`'s, added and divided as the definition does; m and t are `matched`'s.
-- Assumes nothing.
use Rattle.cd_jaro_meaning.proofs.Laws.Jaro.{jaro_none, jaro_some}
use Rattle.cd_jaro.proofs.jaro.Goals as goal

pub returns-then-m-eq0 : goal.returns-then-m-eq0
returns-then-m-eq0 c = jaro_none c.matched-counts.ensures c.if-m-eq0.true

pub returns : goal.returns
returns c =
    jaro_some c.matched-counts.ensures c.if-m-eq0.false c.over.ensures c.over-2.ensures c.over-3.ensures
