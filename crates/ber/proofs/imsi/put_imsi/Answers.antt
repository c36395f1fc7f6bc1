-- `ber::imsi::put_imsi` meets its contract: the octets that a record has, where they are an IMSI.
use mathlib.Core.Path.{◌∙◌, sym}
use lib.Seq.{length-take-le}
use Rattle.ber.proofs.Writers.{puts_is, puts_none}
use Rattle.ber.proofs.Imsis.{room_none, room_le, room_form}
use Rattle.ber.proofs.imsi.put_imsi.Goals as goal

pub returns-in_err-n : goal.returns-in_err-n
returns-in_err-n c = rw (c.from_residual.ensures, room_none c.args.v (sym c.imsi_size.ensures ∙ c.in_err-n.was)) puts_none

pub slice_bounds-v-end : goal.slice_bounds-v-end
slice_bounds-v-end c = room_le c.args.v (sym c.imsi_size.ensures ∙ c.in_ok-n.was)

pub slice_bounds-put_tlv-end : goal.slice_bounds-put_tlv-end
slice_bounds-put_tlv-end c = let v = c.args.v in sym (length-take-le _ v (room_le v (sym c.imsi_size.ensures ∙ c.in_ok-n.was)))

pub returns : goal.returns
returns c = let a = c.args in puts_is (room_form a.v a.tag (sym c.imsi_size.ensures ∙ c.in_ok-n.was)) c.put_tlv.ensures
