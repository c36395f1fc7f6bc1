-- `ber::field::put_octet` meets its contract: tag, length 1 and the octet are the value.
use Rattle.ber.specs.Tlv.{tlv_enc}
use Rattle.ber.specs.Length.{len_enc}
use Rattle.ber.proofs.field.put_octet.Goals as goal

pub returns : goal.returns
unfolding tlv_enc len_enc
returns c = c.put_all.ensures
