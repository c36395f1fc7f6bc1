-- `tally::say::say` meets its contract.
use Rattle.std.proofs.Common.{sym, ap, ◌∙◌}
use Rattle.ber.proofs.Tables.{row_leaves}
use Rattle.scdr.specs.Table.{ChargingId}
use Rattle.tally.specs.Say.{say_ggsn, say_of}
use Rattle.tally.specs.Private.Places.{said_in}
use Rattle.tally.proofs.Seeks.{stops_at}
use Rattle.tally.proofs.Says.{err_is, says_unfit, says_none, says_other, says_same}
use Rattle.tally.proofs.say.say.Goals as goal

pub returns-in_err-p : goal.returns-in_err-p
unfolding say_of
returns-in_err-p c =
    let a = c.args in
    err_is _ _ c.from_residual.ensures.1 ∙ says_unfit a.c.now 0x8A 0 _ c.seek.ensures c.in_err-p.was

pub returns-in_default : goal.returns-in_default
unfolding say_of
returns-in_default c =
    let a = c.args in
    let k = stops_at a.c.now 0x8A 0 c.seek.ensures c.in_ok-p.was in
    sym (ap (said_in a.c.now) (says_none (row_leaves ChargingId) a.id (say_ggsn a.ggsn) k (sym c.word_at.ensures ∙ c.in_default.is)))

pub returns-then-x-id : goal.returns-then-x-id
unfolding say_of
returns-then-x-id c =
    let a = c.args in
    let k = stops_at a.c.now 0x8A 0 c.seek.ensures c.in_ok-p.was in
    sym (ap (said_in a.c.now) (says_other (row_leaves ChargingId) a.id (say_ggsn a.ggsn) k (sym c.word_at.ensures ∙ c.in-Some.is) c.if-x-id.true))

pub returns : goal.returns
unfolding say_of
returns c =
    let a = c.args in
    let k = stops_at a.c.now 0x8A 0 c.seek.ensures c.in_ok-p.was in
    c.say_ggsn.ensures
    ∙ sym (ap (said_in a.c.now) (says_same (row_leaves ChargingId) a.id (say_ggsn a.ggsn) k (sym c.word_at.ensures ∙ c.in-Some.is) c.if-x-id.false))
