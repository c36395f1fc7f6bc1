-- `container::stamp::put_stamp` meets its contract: the time's octets under the tag.
use native.Mathlib.Omega.{arith}
use Rattle.ber.proofs.Writers.{puts_is}
use Rattle.ber.proofs.Ready.{puts_not, ready}
use Rattle.calendar.specs.Stamp.{stamp_ok}
use Rattle.calendar.proofs.Stamps.{length_stamp, stamped_some, stamped_none}
use Rattle.container.proofs.stamp.put_stamp.Goals as goal

pub returns : goal.returns
returns c =
    let t = c.args.t in
    let x = stamped_some t c.in_ok-stamp_octets.ensures in
    puts_is (ready (stamp_ok t) c.args.tag x.0 x.1 (omega (arith, length_stamp t))) c.put_tlv.ensures

pub returns-in_err-stamp_octets : goal.returns-in_err-stamp_octets
returns-in_err-stamp_octets c = rw c.from_residual.ensures (puts_not (stamp_ok c.args.t) _ (stamped_none c.args.t c.in_err-stamp_octets.ensures))
