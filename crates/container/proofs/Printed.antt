-- Three containers have the octets that were written down by hand, and are read back from them; a profile more, or one less, is
-- refused: computed by the definitions.
use mathlib.Core.Path.{◌≡◌, refl, sym, ap, ◌∙◌}
use Rattle.std.specs.Prelude.{None, Some}
use mathlib.Core.List.{[], ◌∷◌}
use native.Mathlib.Omega.{arith}
use Rattle.format.proofs.Formats.{eqs_eq}
use Rattle.ber.specs.Int.{int_enc, lowest, shortest, all_octets, spelt}
use Rattle.ber.specs.Length.{len_enc, len_dec}
use Rattle.ber.specs.Tlv.{tlv_enc, tlv_dec, split}
use Rattle.ber.specs.Field.{first, new}
use Rattle.calendar.specs.Month.{month_len, first_day, seek, month_day}
use Rattle.calendar.specs.Stamp.{stamp_ok, stamp_enc, stamp_val}
use Rattle.container.specs.Qos.{qos_ok, same_qos, qos}
use Rattle.container.specs.Container.{container_ok, is_new, told, is_told, container}
use Rattle.container.specs.List.{containers, all_formed}
use Rattle.container.specs.Sample.{tariff, change, closing, profile, counts₁, counts₂, counts₃, printed, superfluous, missing}
use Rattle.container.proofs.Formats.{containers_law, each_good}

pub three_octets : containers.enc (tariff ∷ change ∷ closing ∷ []) ≡ printed
unfolding tariff change closing profile counts₁ counts₂ counts₃ printed containers container qos is_new told tlv_enc len_enc int_enc lowest stamp_enc month_day
    seek month_len
three_octets = eqs_eq (containers.enc (tariff ∷ change ∷ closing ∷ [])) printed tt

pub three_read : containers.dec printed ≡ Some (tariff ∷ change ∷ closing ∷ [])
unfolding tariff change closing all_formed container_ok qos_ok stamp_ok is_new is_told same_qos
three_read =
    ap containers.dec (sym three_octets)
    ∙ containers_law.complete (tariff ∷ change ∷ closing ∷ []) (each_good (tariff ∷ change ∷ closing ∷ []) tt (omega arith) (omega arith))

pub superfluous_refused : containers.dec superfluous ≡ None
unfolding profile counts₁ counts₂ counts₃ superfluous containers container qos is_new told new first tlv_dec len_dec split qos_ok shortest all_octets spelt
    stamp_ok stamp_val first_day stamp_enc month_day seek month_len container_ok
superfluous_refused = refl

pub missing_refused : containers.dec missing ≡ None
unfolding profile counts₁ counts₂ counts₃ missing containers container qos is_new told new first tlv_dec len_dec split qos_ok shortest all_octets spelt stamp_ok
    stamp_val first_day stamp_enc month_day seek month_len container_ok
missing_refused = refl
