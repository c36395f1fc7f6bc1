-- `container::qos_profile::qos_of` meets its contract: its five fields in range, to the end.
use mathlib.Core.Path.{refl}
use borrow.Author.Tests.{eq-eqb, ne_eqb}
use Rattle.ber.proofs.Readers.{guard_is}
use Rattle.container.proofs.Fields.{qos_is}
use Rattle.container.proofs.qos_profile.qos_of.Goals as goal

pub returns-in_err-reliability : goal.returns-in_err-reliability
returns-in_err-reliability c =
    let a = c.args in
    rw (qos_is a.s.now, ← c.octet_at.ensures, c.in_err-reliability.was) c.from_residual.ensures

pub returns-in_err-delay : goal.returns-in_err-delay
returns-in_err-delay c =
    let a = c.args in
    rw (qos_is a.s.now, ← c.octet_at.ensures, c.in_ok-reliability.was, ← c.octet_at-2.ensures, c.in_err-delay.was) c.from_residual-in_err-delay.ensures

pub returns-in_err-precedence : goal.returns-in_err-precedence
returns-in_err-precedence c =
    let a = c.args in
    rw (qos_is a.s.now, ← c.octet_at.ensures, c.in_ok-reliability.was, ← c.octet_at-2.ensures, c.in_ok-delay.was, ← c.octet_at-3.ensures, c.in_err-precedence.was) c.from_residual-in_err-precedence.ensures

pub returns-in_err-peak : goal.returns-in_err-peak
returns-in_err-peak c =
    let a = c.args in
    rw (qos_is a.s.now, ← c.octet_at.ensures, c.in_ok-reliability.was, ← c.octet_at-2.ensures, c.in_ok-delay.was, ← c.octet_at-3.ensures, c.in_ok-precedence.was, ← c.octet_at-4.ensures, c.in_err-peak.was) c.from_residual-in_err-peak.ensures

pub returns-in_err-mean : goal.returns-in_err-mean
returns-in_err-mean c =
    let a = c.args in
    rw (qos_is a.s.now, ← c.octet_at.ensures, c.in_ok-reliability.was, ← c.octet_at-2.ensures, c.in_ok-delay.was, ← c.octet_at-3.ensures, c.in_ok-precedence.was, ← c.octet_at-4.ensures, c.in_ok-peak.was, ← c.octet_at-5.ensures, c.in_err-mean.was) c.from_residual-in_err-mean.ensures

pub returns-then-at-s : goal.returns-then-at-s
returns-then-at-s c =
    let a = c.args in
    rw (qos_is a.s.now, ← c.octet_at.ensures, c.in_ok-reliability.was, ← c.octet_at-2.ensures, c.in_ok-delay.was, ← c.octet_at-3.ensures, c.in_ok-precedence.was, ← c.octet_at-4.ensures, c.in_ok-peak.was, ← c.octet_at-5.ensures, c.in_ok-mean.was, ne_eqb _ _ c.if-at-s.true) refl

pub returns : goal.returns
returns c =
    let a = c.args in
    rw (qos_is a.s.now, ← c.octet_at.ensures, c.in_ok-reliability.was, ← c.octet_at-2.ensures, c.in_ok-delay.was, ← c.octet_at-3.ensures, c.in_ok-precedence.was, ← c.octet_at-4.ensures, c.in_ok-peak.was, ← c.octet_at-5.ensures, c.in_ok-mean.was, eq-eqb _ _ c.if-at-s.false, c.then_some.ensures, c.qos_ok.ensures) (guard_is _ _)
