-- `tally::say::say_ggsn` meets its contract.
use Rattle.std.proofs.Common.{sym, ap, ◌∙◌}
use Rattle.ber.proofs.Tables.{row_leaves}
use Rattle.scdr.specs.Table.{Ggsn}
use Rattle.tally.specs.Say.{say_number, say_ggsn}
use Rattle.tally.specs.Private.Places.{said_in}
use Rattle.tally.proofs.Seeks.{stops_at}
use Rattle.tally.proofs.Says.{err_is, says_unfit, says_none, says_other, says_same}
use Rattle.tally.proofs.say.say_ggsn.Goals as goal

pub returns-in_err-p : goal.returns-in_err-p
unfolding say_ggsn
returns-in_err-p c =
    let a = c.args in
    err_is _ _ c.from_residual.ensures.1 ∙ says_unfit a.c.now 0xAB a.at _ c.seek.ensures c.in_err-p.was

pub returns-in_default : goal.returns-in_default
unfolding say_ggsn
returns-in_default c =
    let a = c.args in
    let k = stops_at a.c.now 0xAB a.at c.seek.ensures c.in_ok-p.was in
    sym (ap (said_in a.c.now) (says_none (row_leaves Ggsn) a.ggsn say_number k (sym c.address_at.ensures ∙ c.in_default.is)))

pub returns-then-x-ggsn : goal.returns-then-x-ggsn
unfolding say_ggsn
returns-then-x-ggsn c =
    let a = c.args in
    let k = stops_at a.c.now 0xAB a.at c.seek.ensures c.in_ok-p.was in
    sym (ap (said_in a.c.now) (says_other (row_leaves Ggsn) a.ggsn say_number k (sym c.address_at.ensures ∙ c.in-Some.is) c.if-x-ggsn.true))

pub returns : goal.returns
unfolding say_ggsn
returns c =
    let a = c.args in
    let k = stops_at a.c.now 0xAB a.at c.seek.ensures c.in_ok-p.was in
    c.say_number.ensures
    ∙ sym (ap (said_in a.c.now) (says_same (row_leaves Ggsn) a.ggsn say_number k (sym c.address_at.ensures ∙ c.in-Some.is) c.if-x-ggsn.false))
