-- `octets::names::check_apn` meets its contract.
use mathlib.Core.Path.{sym}
use native.Mathlib.Omega.{arith}
use Rattle.octets.proofs.Checked.{checked_apn_lem, checked_none, apn_long, found_apn}
use Rattle.octets.proofs.names.check_apn.Goals as goal

pub returns-then-apn_ok : goal.returns-then-apn_ok
returns-then-apn_ok c =
    let s = c.args.s.now in
    let is = found_apn s c.lowered-apn.ensures c.apn_ok.ensures c.if-apn_ok.true in
    rw c.lowered-apn.ensures (sym (checked_apn_lem s is))

pub returns-else-apn_ok : goal.returns-else-apn_ok
returns-else-apn_ok c =
    let s = c.args.s.now in
    sym (checked_none s (found_apn s c.lowered-apn.ensures c.apn_ok.ensures c.if-apn_ok.false))

pub returns-else-n-le63 : goal.returns-else-n-le63
returns-else-n-le63 c = let s = c.args.s.now in sym (checked_none s (apn_long s (omega (arith, c.if-n-le63.false))))
