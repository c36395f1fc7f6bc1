-- `mcdr::one::change_of` meets its contract: its three fields, to the end.
use mathlib.Core.Path.{refl}
use native.Mathlib.Omega.{arith}
use borrow.Author.Tests.{eq-eqb, ne_eqb}
use Rattle.ber.proofs.Readers.{guard_is}
use Rattle.mcdr.proofs.ChangeFields.{change_is, change_timed}
use Rattle.mcdr.proofs.one.change_of.Goals as goal

pub returns-in_err-lac : goal.returns-in_err-lac
returns-in_err-lac c =
    let a = c.args in
    rw (change_is a.s.now, ← c.two_octets_at.ensures, c.in_err-lac.was) c.from_residual.ensures

pub returns-in_err-rac : goal.returns-in_err-rac
returns-in_err-rac c =
    let a = c.args in
    rw (change_is a.s.now, ← c.two_octets_at.ensures, c.in_ok-lac.was, ← c.octet_at.ensures, c.in_err-rac.was) c.from_residual-in_err-rac.ensures

pub returns-in_err-time : goal.returns-in_err-time
returns-in_err-time c =
    let a = c.args in
    rw (change_is a.s.now, ← c.two_octets_at.ensures, c.in_ok-lac.was, ← c.octet_at.ensures, c.in_ok-rac.was, ← c.stamp_at.ensures, c.in_err-time.was) c.from_residual-in_err-time.ensures

pub returns-then-at-s : goal.returns-then-at-s
returns-then-at-s c =
    let a = c.args in
    rw (change_is a.s.now, ← c.two_octets_at.ensures, c.in_ok-lac.was, ← c.octet_at.ensures, c.in_ok-rac.was, ← c.stamp_at.ensures, c.in_ok-time.was, ne_eqb _ _ c.if-at-s.true) refl

pub returns : goal.returns
returns c =
    let a = c.args in
    rw (change_is a.s.now, ← c.two_octets_at.ensures, c.in_ok-lac.was, ← c.octet_at.ensures, c.in_ok-rac.was, ← c.stamp_at.ensures, c.in_ok-time.was, eq-eqb _ _ c.if-at-s.false, change_timed (record { place = record { lac = c.in_ok-lac.lac; rac = c.in_ok-rac.rac }; time = c.in_ok-time.time }) (omega arith) (omega arith), c.then_some.ensures, c.stamp_within.ensures) (guard_is _ _)
