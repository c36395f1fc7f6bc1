-- `ber::tlv::put_short` meets its contract: with room for the whole, the two octets of tag and length, and the contents after them.
use mathlib.Core.Path.{sym}
use native.Mathlib.Omega.{arith}
use Rattle.ber.proofs.Tlvs.{tlv_short}
use Rattle.ber.proofs.Writers.{puts_full, puts_is, puts_room, puts_next, puts_lost}
use Rattle.ber.proofs.tlv.put_short.Goals as goal

pub returns-then-out-at : goal.returns-then-out-at
returns-then-out-at c = puts_is (sym (tlv_short c.args.tag c.args.src.now c.requires)) (puts_full (omega arith))

pub returns-in_err-a : goal.returns-in_err-a
returns-in_err-a c = absurd (puts_lost (omega arith) c.in_err-a.ensures)

pub returns : goal.returns
returns c =
    let p = puts_room (omega arith) c.in_ok-a.ensures in
    puts_is (sym (tlv_short c.args.tag c.args.src.now c.requires)) (puts_next c.put_all-2.result (omega arith) p c.put_all-2.ensures)
