-- 01's two sessions, computed.
use mathlib.Core.Path.{◌≡◌, refl}
use mathlib.Core.List.{[], ◌∷◌}
use Rattle.ber.specs.Int.{int_enc, spelt, octets_from, number_in, lowest}
use Rattle.ber.specs.Length.{len_enc}
use Rattle.ber.specs.Tlv.{tlv_enc}
use Rattle.ber.specs.Imsi.{halves, leading, all_f, imsi_ok, imsi_enc}
use Rattle.calendar.specs.Month.{month_len, seek, month_day}
use Rattle.calendar.specs.Stamp.{stamp_ok, stamp_enc}
use Rattle.container.specs.Qos.{qos_ok, same_qos, qos}
use Rattle.container.specs.Container.{container_ok, is_new, told, container}
use Rattle.container.specs.List.{each_ok, one_offset, containers, no_containers, is_blank, blanks}
use Rattle.container.specs.Open.{midway, times_to, qos_run, open_ok, volume_of, unused_ok, count_ok, containers_ok, volume_ok, sound_open, blank_open}
use Rattle.octets.specs.Chars.{all_of, apn_char, node_char, lower, lowered}
use Rattle.octets.specs.Names.{apn_ok, is_apn, node_ok}
use Rattle.scdr.specs.Rules.{release, last_time, duration}
use Rattle.octets.specs.Filled.{fill_to}
use Rattle.scdr.specs.Layout.{body, of_record, fields_of, inside, scdr}
use Rattle.scdr.specs.Sample.{printed}
use Rattle.event.specs.Fields.{activate_ok, release as releases}
use Rattle.event.specs.Kinds.{kinds, kind_in, whole_of}
use Rattle.event.specs.Rows.{first_fit, marked, known, measured, fields_ok}
use Rattle.event.specs.Event.{event_of}
use Rattle.event.specs.Sample.{activate, traffic, released}
use Rattle.limits.specs.Limits.{limits_ok, blank_limits}
use Rattle.limits.specs.Sets.{has_set, first_editions, set_ok, blank_set, used_ok, sets_ok, set_at, limits_of}
use Rattle.profile.specs.Profile.{profile_ok}
use Rattle.context.specs.Sound.{fields_ok as storedOk, closed_ok, context_ok, zero_ok, slot_ok}
use Rattle.history.specs.Slots.{none_bears, distinct}
use Rattle.history.specs.Table.{not_active, is_active as wasActive, all_taken}
use Rattle.mcdr.specs.Change.{same_place}
use Rattle.mcdr.specs.Changes.{no_changes, is_blank as isUnused, blanks as allUnused}
use Rattle.subscriber.specs.Sound.{zero_ok as nobodyOk, slot_ok as place_ok}
use Rattle.subscriber.specs.Tell.{octets_of as mmOctetsOf}
use Rattle.node.specs.Hear.{reported, qos_after, change_of, limit_met, closing, number_for, record_of, goes_on, closed_by, after_closing, hear_with, hear}
use Rattle.node.specs.Sound.{sound}
use Rattle.node.specs.Step.{
  activated,
  marked_octets,
  octets_of,
  node_after,
  records_of,
  output,
  mm_records_of,
  settled_by,
  unknown_set,
  other_edition,
  refusals,
  outcome,
  step_of,
}
use Rattle.node.specs.Sample.{at, named, answers, session, first, second, third}

-- time 0: activate; time 5: 400 up, 599 down; time 6: release 0. The last writes the mark and the record that 01 prints.
pub one_session : session (activate ∷ traffic ∷ released 0 ∷ []) ≡ (0, []) ∷ (0, []) ∷ (0, 0xC3 ∷ 0x5A ∷ printed) ∷ []
unfolding int_enc lowest len_enc tlv_enc halves leading all_f imsi_ok imsi_enc month_len seek month_day stamp_ok stamp_enc qos_ok same_qos container_ok
    is_new told each_ok one_offset no_containers is_blank blanks midway times_to qos_run open_ok volume_of is_apn lowered lower all_of apn_char node_char apn_ok node_ok
    release releases last_time duration body fill_to of_record fields_of inside scdr printed spelt octets_from number_in kinds kind_in whole_of activate_ok fields_ok
    first_fit marked known measured event_of activate traffic released limits_ok blank_limits has_set first_editions set_ok blank_set used_ok sets_ok set_at limits_of profile_ok unknown_set other_edition settled_by storedOk unused_ok closed_ok count_ok containers_ok
    volume_ok sound_open blank_open context_ok zero_ok slot_ok none_bears distinct reported qos_after change_of limit_met closing
    number_for record_of goes_on closed_by after_closing hear_with hear sound activated marked_octets octets_of node_after records_of
    mm_records_of mmOctetsOf no_changes same_place isUnused allUnused nobodyOk place_ok
    output not_active wasActive all_taken refusals outcome step_of answers containers container qos
one_session = refl

-- Instead at 6: 0 up, 1 down. Tariff at 10; tick at 65 does nothing; tick at 66; release at 66.
pub other_session : session (activate ∷ traffic ∷ at 2 6 (named (0 ∷ 0 ∷ 0 ∷ 0 ∷ 0 ∷ 0 ∷ 0 ∷ 1 ∷ [])) ∷ at 4 10 [] ∷ at 6 65 [] ∷ at 6 66 [] ∷ at 5 66
    (named (0 ∷ [])) ∷ [])
    ≡ (0, []) ∷ (0, []) ∷ (0, first) ∷ (0, []) ∷ (0, []) ∷ (0, second) ∷ (0, third) ∷ []
unfolding first second third int_enc lowest len_enc tlv_enc halves leading all_f imsi_ok imsi_enc month_len seek month_day stamp_ok stamp_enc qos_ok
    same_qos container_ok is_new told each_ok one_offset no_containers is_blank blanks midway times_to qos_run open_ok volume_of is_apn lowered lower all_of apn_char node_char
    apn_ok node_ok release releases last_time duration body fill_to of_record fields_of inside scdr spelt octets_from number_in kinds kind_in whole_of activate_ok
    fields_ok first_fit marked known measured event_of activate traffic limits_ok blank_limits has_set first_editions set_ok blank_set used_ok sets_ok set_at limits_of profile_ok unknown_set other_edition settled_by storedOk unused_ok closed_ok count_ok containers_ok
    volume_ok sound_open blank_open context_ok zero_ok slot_ok none_bears distinct reported qos_after change_of limit_met closing
    number_for record_of goes_on closed_by after_closing hear_with hear sound activated marked_octets octets_of node_after records_of
    mm_records_of mmOctetsOf no_changes same_place isUnused allUnused nobodyOk place_ok
    output not_active wasActive all_taken refusals outcome step_of answers containers container qos
other_session = refl
