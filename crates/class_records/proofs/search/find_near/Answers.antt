-- A record that holds p is the one that the search answers, since at most one does.
-- Assumes nothing.
use mathlib.Core.Path.{sym, ◌∙◌}
use Rattle.class_records.proofs.Laws.Records.{holder_is}
use borrow.Author.Rules.{rules}
use Rattle.class_records.proofs.search.find_near.Goals as goal

pub is_holder-requires : goal.is_holder-requires
is_holder-requires c = search rules

pub returns-then-is_holder : goal.returns-then-is_holder
returns-then-is_holder c =
    sym (holder_is _ c.requires _ _ c.if-hint-t.true (sym c.is_holder.ensures ∙ c.if-is_holder.true))
