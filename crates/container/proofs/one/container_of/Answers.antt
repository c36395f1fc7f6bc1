-- `container::one::container_of` meets its contract: its five fields as they must be, to the end.
use mathlib.Core.Path.{refl}
use borrow.Author.Tests.{eq-eqb, ne_eqb}
use Rattle.ber.proofs.Readers.{guard_is}
use Rattle.container.proofs.Fields.{container_is}
use Rattle.container.proofs.one.container_of.Goals as goal

pub returns-in_err-qos : goal.returns-in_err-qos
returns-in_err-qos c =
    let a = c.args in
    rw (container_is a.last a.s.now, ← c.qos_after.ensures, c.in_err-qos.was) c.from_residual.ensures

pub returns-in_err-uplink : goal.returns-in_err-uplink
returns-in_err-uplink c =
    let a = c.args in
    rw (container_is a.last a.s.now, ← c.qos_after.ensures, c.in_ok-qos.was, ← c.int_at.ensures, c.in_err-uplink.was) c.from_residual-in_err-uplink.ensures

pub returns-in_err-downlink : goal.returns-in_err-downlink
returns-in_err-downlink c =
    let a = c.args in
    rw (container_is a.last a.s.now, ← c.qos_after.ensures, c.in_ok-qos.was, ← c.int_at.ensures, c.in_ok-uplink.was, ← c.int_at-2.ensures, c.in_err-downlink.was) c.from_residual-in_err-downlink.ensures

pub returns-in_err-condition : goal.returns-in_err-condition
returns-in_err-condition c =
    let a = c.args in
    rw (container_is a.last a.s.now, ← c.qos_after.ensures, c.in_ok-qos.was, ← c.int_at.ensures, c.in_ok-uplink.was, ← c.int_at-2.ensures, c.in_ok-downlink.was, ← c.octet_at.ensures, c.in_err-condition.was) c.from_residual-in_err-condition.ensures

pub returns-in_err-time : goal.returns-in_err-time
returns-in_err-time c =
    let a = c.args in
    rw (container_is a.last a.s.now, ← c.qos_after.ensures, c.in_ok-qos.was, ← c.int_at.ensures, c.in_ok-uplink.was, ← c.int_at-2.ensures, c.in_ok-downlink.was, ← c.octet_at.ensures, c.in_ok-condition.was, ← c.stamp_at.ensures, c.in_err-time.was) c.from_residual-in_err-time.ensures

pub returns-then-at-s : goal.returns-then-at-s
returns-then-at-s c =
    let a = c.args in
    rw (container_is a.last a.s.now, ← c.qos_after.ensures, c.in_ok-qos.was, ← c.int_at.ensures, c.in_ok-uplink.was, ← c.int_at-2.ensures, c.in_ok-downlink.was, ← c.octet_at.ensures, c.in_ok-condition.was, ← c.stamp_at.ensures, c.in_ok-time.was, ne_eqb _ _ c.if-at-s.true) refl

pub returns : goal.returns
returns c =
    let a = c.args in
    rw (container_is a.last a.s.now, ← c.qos_after.ensures, c.in_ok-qos.was, ← c.int_at.ensures, c.in_ok-uplink.was, ← c.int_at-2.ensures, c.in_ok-downlink.was, ← c.octet_at.ensures, c.in_ok-condition.was, ← c.stamp_at.ensures, c.in_ok-time.was, eq-eqb _ _ c.if-at-s.false, c.then_some.ensures, c.container_ok.ensures) (guard_is _ _)
