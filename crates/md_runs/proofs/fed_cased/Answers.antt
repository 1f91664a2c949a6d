-- The characters of the run are held by the first one's record. Assumes nothing.
use Rattle.std.proofs.Common.{arith}
use Rattle.md_runs.proofs.Laws.Runs.{before_room, before_last, before_range, lent_inside, cased_step}
use Rattle.md_runs.proofs.fed_cased.Goals as goal

pub kin_of-near-requires : goal.kin_of-near-requires
kin_of-near-requires c =
    let at_pre = c.requires in
    at_pre.1

pub letters_end-next-requires : goal.letters_end-next-requires
letters_end-next-requires c =
    let asked = c.requires in
    (lent_inside _ _ _ _ _ _ asked.0 _ asked.1, asked.0.short)

pub is_suspicious-suspicious-requires : goal.is_suspicious-suspicious-requires
is_suspicious-suspicious-requires c =
    let asked = c.requires in
    (asked.0.tables.fits, rw c.last_range.ensures (before_last _ _ _ _ _ _ asked.0), before_range _ _ _ _ _ _ asked.0)

pub is_suspicious-again-requires : goal.is_suspicious-again-requires
is_suspicious-again-requires c =
    let asked = c.requires in
    (asked.0.tables.fits, before_range _ _ _ _ _ _ asked.0, before_range _ _ _ _ _ _ asked.0)

pub cased_run-requires : goal.cased_run-requires
cased_run-requires c =
    let asked = c.requires in
    let ended = c.letters_end-next in (
      before_room _ _ _ _ _ _ asked.0,
      omega (arith, ended.ensures.begins),
      omega (arith, ended.ensures.ends, asked.0.short),
    )

pub returns : goal.returns
returns c =
    let at_kin_of = c.kin_of-near in
    let at_letters_end = c.letters_end-next in
    let at_last_range = c.last_range in
    let asked = c.requires in
    cased_step _ _ _ _ _ _ asked.0 _ asked.1 _ at_kin_of.ensures _ at_letters_end.ensures asked.2 _ _ _ _ c.own_base.ensures at_last_range.ensures
    c.is_suspicious-suspicious.ensures
    c.is_suspicious-again.ensures
    _
    c.cased_run.ensures
