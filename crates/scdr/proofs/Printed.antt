-- The record that 01 prints is within the rules, its octets are those printed, and its access point name lies where it does there: computed by the
-- definitions.
use lib.Dec.{T}
use lib.ListN.{length}
use mathlib.Core.Path.{◌≡◌, refl, ap, ◌∙◌}
use Rattle.std.specs.Prelude.{Option, Some}
use Rattle.format.proofs.Formats.{eqs_eq}
use Rattle.ber.specs.Int.{int_enc, lowest}
use Rattle.ber.specs.Length.{len_enc, len_dec}
use Rattle.ber.specs.Tlv.{tlv_enc, tlv_dec, split}
use Rattle.ber.specs.Table.{tag}
use Rattle.ber.specs.Read.{part_at, part_found}
use Rattle.ber.specs.Imsi.{halves, leading, all_f, imsi_ok, imsi_enc}
use Rattle.calendar.specs.Month.{month_len, seek, month_day}
use Rattle.calendar.specs.Stamp.{stamp_ok, stamp_enc}
use Rattle.container.specs.Qos.{qos_ok, same_qos, qos}
use Rattle.container.specs.Container.{container_ok, is_new, told, container}
use Rattle.container.specs.List.{each_ok, last_alone, one_offset, in_order, qos_rule, list_ok, containers, no_containers, is_blank, blanks}
use Rattle.octets.specs.Chars.{all_of, apn_char, node_char}
use Rattle.octets.specs.Names.{apn_ok, node_ok}
use Rattle.scdr.specs.Rules.{list_rule, release, cause_ok, number_ok, change_ok, shaped, within, last_time, duration}
use Rattle.scdr.specs.Table.{record_tag, Apn, table}
use Rattle.octets.specs.Filled.{fill_to}
use Rattle.scdr.specs.Layout.{body, of_record, fields_of, rules, inside, scdr}
use Rattle.scdr.specs.Apn.{walk, walk_in, if_read, apn_place}
use Rattle.scdr.specs.declared.Record.{Record}
use Rattle.scdr.specs.Sample.{only, sample, printed}
use Rattle.scdr.proofs.Theorems.{round_trip}

pub sample_within : T (rules sample)
unfolding sample only fill_to no_containers same_qos shaped within imsi_ok halves leading all_f apn_ok all_of apn_char stamp_ok list_rule list_ok each_ok
    container_ok qos_ok last_alone one_offset in_order qos_rule blanks is_blank cause_ok release number_ok change_ok node_ok node_char
sample_within = tt

pub sample_octets : scdr.enc sample ≡ printed
unfolding sample only printed fill_to no_containers scdr inside body of_record fields_of duration last_time containers container is_new told qos
    tlv_enc len_enc int_enc lowest imsi_enc halves leading stamp_enc month_day seek month_len
sample_octets = eqs_eq (scdr.enc sample) printed tt

pub sample_read : scdr.dec printed ≡ Some sample
sample_read = rw (← sample_octets) (round_trip sample sample_within)

-- "a", the 37th octet
sample_place : walk_in (length table) (tag Apn) printed (part_at printed 0 record_tag) ≡ (36, 37)
unfolding printed walk part_at part_found tlv_dec len_dec split
sample_place = refl

pub sample_apn : apn_place printed ≡ (36, 37)
unfolding apn_place
sample_apn = ap (λ (o : Option Record). if_read o (walk_in (length table) (tag Apn) printed (part_at printed 0 record_tag))) sample_read ∙ sample_place
