-- `ber::address::put_address_in` meets its contract: the address under A0 fills the array, which is put under the tag.
use mathlib.Core.Path.{◌∙◌, ap, refl}
use native.Mathlib.Omega.{arith}
use Rattle.ber.specs.Int.{lowest}
use Rattle.ber.specs.Tlv.{tlv_enc, tlv_form}
use Rattle.ber.specs.Length.{len_enc}
use Rattle.ber.specs.Fixed.{ipv4}
use Rattle.ber.specs.Field.{alone}
use Rattle.ber.proofs.Tlvs.{tlv_yes}
use Rattle.ber.proofs.Writers.{puts_is, puts_lost, puts_whole}
use Rattle.ber.proofs.address.put_address_in.Goals as goal

pub returns-in_err-put_address : goal.returns-in_err-put_address
unfolding tlv_enc len_enc lowest
returns-in_err-put_address c = absurd (puts_lost (omega arith) c.in_err-put_address.ensures)

pub returns : goal.returns
unfolding tlv_enc len_enc lowest
returns c =
    let a = c.args in
    puts_is (ap (tlv_form a.tag) (puts_whole refl c.in_ok-put_address.ensures)
    ∙ tlv_yes a.tag ((alone 0xA0 ipv4).enc a.v) (omega arith)) c.put_tlv.ensures
