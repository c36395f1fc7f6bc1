-- `ber::fixed::put_two_octets` meets its contract: tag, length 2 and the two octets are the value.
use Rattle.ber.specs.Int.{lowest}
use Rattle.ber.specs.Tlv.{tlv_enc}
use Rattle.ber.specs.Length.{len_enc}
use Rattle.ber.proofs.fixed.put_two_octets.Goals as goal

pub returns : goal.returns
unfolding tlv_enc len_enc lowest
returns c = c.put_all.ensures
