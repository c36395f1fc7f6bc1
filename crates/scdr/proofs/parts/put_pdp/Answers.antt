-- `scdr::parts::put_pdp` meets its contract: its fields one after another.
use mathlib.Core.Path.{refl}
use native.Mathlib.Omega.{arith}
use Rattle.ber.specs.Table.{tag}
use Rattle.ber.proofs.Texts.{text_value}
use Rattle.scdr.specs.Table.{Apn}
use Rattle.ber.proofs.Writers.{wrote, wrote_then, wrote_cut, wrote_last}
use Rattle.scdr.proofs.parts.put_pdp.Goals as goal

pub returns-in_err-at : goal.returns-in_err-at
returns-in_err-at c =
    rw c.from_residual.ensures (wrote_cut _ (wrote refl c.in_err-at.ensures))

pub returns-in_err-at-2 : goal.returns-in_err-at-2
returns-in_err-at-2 c =
    rw c.from_residual-in_err-at-2.ensures (wrote_then (wrote refl c.in_ok-at.ensures) (wrote_cut _ (wrote (text_value (tag Apn) c.args.apn.now c.args.apnlen (omega (arith, c.told-apn)) (omega arith)) c.in_err-at-2.ensures)))

pub returns-in_err-at-3 : goal.returns-in_err-at-3
returns-in_err-at-3 c =
    rw c.from_residual-in_err-at-3.ensures (wrote_then (wrote refl c.in_ok-at.ensures) (wrote_then (wrote (text_value (tag Apn) c.args.apn.now c.args.apnlen (omega (arith, c.told-apn)) (omega arith)) c.in_ok-at-2.ensures) (wrote_cut _ (wrote refl c.in_err-at-3.ensures))))

pub returns : goal.returns
returns c =
    wrote_then (wrote refl c.in_ok-at.ensures)
    (wrote_then (wrote (text_value (tag Apn) c.args.apn.now c.args.apnlen (omega (arith, c.told-apn)) (omega arith)) c.in_ok-at-2.ensures)
    (wrote_then (wrote refl c.in_ok-at-3.ensures)
    ((wrote_last (wrote refl c.put_address_in.ensures)))))
