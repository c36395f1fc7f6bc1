-- `ber::address::put_address` meets its contract: the eight octets are the value.
use Rattle.ber.specs.Int.{lowest}
use Rattle.ber.specs.Tlv.{tlv_enc}
use Rattle.ber.specs.Length.{len_enc}
use Rattle.ber.proofs.address.put_address.Goals as goal

pub returns : goal.returns
unfolding tlv_enc len_enc lowest
returns c = c.put_all.ensures
