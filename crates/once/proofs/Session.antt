-- 01's "One session, whole", by the definitions: the histories of its events, the records that they make, and 01's octets; and the same by calls of
-- the node, two of its reports in one call (02, W2) among them.
use mathlib.Core.Path.{◌≡◌, refl, ap, ◌∙◌}
use mathlib.Core.List.{List, [], ◌∷◌, ◌++◌, map}
use Prim.Native.Nat.{ℕ}
use lib.ListN.{take, replicate}
use Rattle.format.proofs.Formats.{eqs_eq}
use Rattle.ber.specs.Int.{int_enc, spelt, octets_from, number_in, lowest}
use Rattle.ber.specs.Length.{len_enc}
use Rattle.ber.specs.Tlv.{tlv_enc}
use Rattle.ber.specs.Imsi.{halves, leading, all_f, imsi_ok, imsi_enc}
use Rattle.calendar.specs.Month.{month_len, seek, month_day}
use Rattle.calendar.specs.Stamp.{stamp_ok, stamp_enc}
use Rattle.container.specs.declared.Container.{Container}
use Rattle.container.specs.Qos.{same_qos, qos_ok, qos}
use Rattle.container.specs.Container.{is_new, told, container}
use Rattle.container.specs.List.{containers, no_containers, each_ok, one_offset, is_blank, blanks}
use Rattle.container.specs.Open.{midway, times_to, qos_run, open_ok, volume_of, unused_ok, count_ok, containers_ok, volume_ok, sound_open, blank_open}
use Rattle.scdr.specs.declared.Record as scdr
use Rattle.octets.specs.Filled.{fill_to}
use Rattle.octets.specs.Chars.{all_of, apn_char, node_char, lower, lowered}
use Rattle.octets.specs.Names.{apn_ok, is_apn, node_ok}
use Rattle.scdr.specs.Rules.{last_time, duration, release}
use Rattle.scdr.specs.Sample.{only, sample, printed}
use Rattle.scdr.proofs.Printed.{sample_octets}
use Rattle.scdr.specs.Layout as layout
use Rattle.profile.specs.Sample.{session}
use Rattle.limits.specs.declared.LimitSet.{LimitSet}
use Rattle.limits.specs.Limits.{limits_ok, blank_limits}
use Rattle.limits.specs.Sets.{has_set, first_editions, set_ok, blank_set, used_ok, sets_ok, set_at, limits_of, replaced}
use Rattle.profile.specs.Profile.{profile_ok}
use Rattle.event.specs.declared.Name.{Name}
use Rattle.event.specs.Sample.{activate, traffic, released}
use Rattle.event.specs.Traffic.{traffic_event}
use Rattle.event.specs.Fields as fields
use Rattle.event.specs.Fields.{activate_ok}
use Rattle.event.specs.Kinds.{kinds, kind_in, whole_of}
use Rattle.event.specs.Rows as rows
use Rattle.event.specs.Rows.{first_fit, known, measured}
use Rattle.event.specs.Event.{event_of}
use Rattle.context.specs.Sound as context
use Rattle.context.specs.Sound.{closed_ok, context_ok, zero_ok, slot_ok}
use Rattle.history.specs.Slots.{none_bears, distinct}
use Rattle.history.specs.Table.{not_active, is_active, all_taken}
use Rattle.cdrs.specs.Cdr.{pdp}
use Rattle.mcdr.specs.Change.{same_place}
use Rattle.mcdr.specs.Changes.{no_changes, is_blank as isUnused, blanks as allUnused}
use Rattle.subscriber.specs.Sound.{zero_ok as nobodyOk, slot_ok as place_ok}
use Rattle.subscriber.specs.Tell.{octets_of as mmOctetsOf}
use Rattle.history.specs.History.{History, start, ◌▸◌∶◌}
use Rattle.history.specs.Records.{Rules, records}
use Rattle.history.specs.Log.{Accepted, histories}
use Rattle.history.specs.Run.{log}
use Rattle.node.specs.Hear.{reported, qos_after, change_of, limit_met, closing, number_for, record_of, goes_on, closed_by, after_closing, hear_with, hear}
use Rattle.node.specs.Step as step
use Rattle.node.specs.Sound.{fresh_node, sound}
use Rattle.node.specs.Batch.{pairs_of, and_then, one_by_one, list_refusals, batch_by, batch_of}
use Rattle.node.specs.Run.{Call, after_one, after}
use Rattle.once.specs.Charging.{Force, Heard, says, settings_of, meaning, in_force_by, rules, record_from}
use Rattle.once.specs.Once.{answer, marked, machine, outputs, node_then, contexts, activations}
use Rattle.once.proofs.Calls.{wrote}

abbrev R : Rules Force Heard
R = rules

-- charging ID 1, GGSN 10.0.0.2
abbrev name : Name
name = record { id = 1; ggsn = 0x0A000002 }

abbrev at : ℕ → List ℕ → Accepted (List ℕ)
at t s = record { time = t; event = s }

-- ---- 999 octets, then the release

abbrev short : List (Accepted (List ℕ))
short = at 0 activate ∷ at 5 traffic ∷ at 6 (released 0) ∷ []

short_history : histories R meaning name (settings_of session) short ≡ (start 0 (in_force_by (settings_of session) activate) ▸ 5 ∶ Heard.traffic 400 599 ▸ 6 ∶ Heard.release 0) ∷ []
unfolding activate traffic released says spelt octets_from number_in
short_history = refl

short_records : map (record_from session name)
    (records R (start 0 (in_force_by (settings_of session) activate) ▸ 5 ∶ Heard.traffic 400 599 ▸ 6 ∶ Heard.release 0))
    ≡ sample ∷ []
unfolding activate sample only spelt octets_from number_in fill_to no_containers lowered lower first_editions set_at limits_of
short_records = refl

-- the 113 octets that 01 prints
pub short_octets : marked (map (λ r. pdp (record_from session name r))
    (records R (start 0 (in_force_by (settings_of session) activate) ▸ 5 ∶ Heard.traffic 400 599 ▸ 6 ∶ Heard.release 0)))
    ≡ 0xC3 ∷ 0x5A ∷ printed ++ []
unfolding activate first_editions set_at limits_of
short_octets = ap (λ (rs : List scdr.Record). marked (map pdp rs)) short_records ∙ ap (λ (x : List ℕ). 0xC3 ∷ 0x5A ∷ x ++ []) sample_octets

-- ---- instead at 6 the report that meets the limit; a tariff, a tick too early, a tick, the release

abbrev long : History Force Heard
long = start 0 (in_force_by (settings_of session) activate) ▸ 5 ∶ Heard.traffic 400 599 ▸ 6 ∶ Heard.traffic 0 1 ▸ 10 ∶ Heard.tariff ▸ 65 ∶ Heard.tick
    ▸ 66 ∶ Heard.tick ▸ 66 ∶ Heard.release 0

-- an S-CDR's number, cause, opening, duration and containers
record Brief : Type 0 where
  number : ℕ
  cause : ℕ
  opening : ℕ
  lasts : ℕ
  parts : List Container

abbrev brief : scdr.Record → Brief
brief r = record { number = r.number; cause = r.cause; opening = r.opening.seconds; lasts = duration r; parts = take r.count r.containers }

abbrev part : ℕ → ℕ → ℕ → ℕ → Container
part u d condition t = record {
  qos = record { reliability = 1; delay = 3; precedence = 2; peak = 4; mean = 0 };
  uplink = u;
  downlink = d;
  condition = condition;
  time = record { seconds = t; zone = 720 };
}

long_records : map (λ r. brief (record_from session name r)) (records R long) ≡
    record { number = 1; cause = 16; opening = 0; lasts = 6; parts = part 400 600 2 6 ∷ [] }
    ∷ record { number = 2; cause = 17; opening = 6; lasts = 60; parts = part 0 0 1 10 ∷ part 0 0 2 66 ∷ [] }
    ∷ record { number = 3; cause = 0; opening = 66; lasts = 0; parts = part 0 0 2 66 ∷ [] }
    ∷ []
unfolding activate fill_to no_containers duration last_time first_editions set_at limits_of
long_records = refl

-- ---- and with a replacement (02, W6): at 6 set 1 is replaced by edition 2, with a volume limit of 500 and a change limit of 1. The open record has counted
-- 999 by then, and goes on: the tariff at 7 is its first change of two, the report at 8 meets its own limit. The next record has those of edition 2: the
-- report at 9 meets 500, and in the one after it the tariff at 10 is its one change.

abbrev second_edition : LimitSet
second_edition = record { edition = 2; limits = record { volume = 500; seconds = 60; changes = 1 } }

abbrev resettled : History Force Heard
resettled = start 0 (in_force_by (settings_of session) activate) ▸ 5 ∶ Heard.traffic 400 599 ▸ 6 ∶ Heard.replaces 1 second_edition ▸ 7 ∶ Heard.tariff
    ▸ 8 ∶ Heard.traffic 0 1 ▸ 9 ∶ Heard.traffic 500 0 ▸ 10 ∶ Heard.tariff

resettled_records : map (λ r. brief (record_from session name r)) (records R resettled) ≡
    record { number = 1; cause = 16; opening = 0; lasts = 8; parts = part 400 599 1 7 ∷ part 0 1 2 8 ∷ [] }
    ∷ record { number = 2; cause = 16; opening = 8; lasts = 1; parts = part 500 0 2 9 ∷ [] }
    ∷ record { number = 3; cause = 19; opening = 9; lasts = 1; parts = part 0 0 2 10 ∷ [] }
    ∷ []
unfolding activate fill_to no_containers duration last_time first_editions set_at limits_of replaced
resettled_records = refl

-- ---- the same of the node itself, by calls

abbrev call : List ℕ → Call
call s = Call.step s (replicate 113 0)

abbrev calls : List Call
calls = call activate ∷ call traffic ∷ call (released 0) ∷ []

-- the reports of 5 and 6 in one list at 6, in a buffer of so many octets
abbrev reports : ℕ → Call
reports room = Call.batch name 6 (400 ∷ 599 ∷ 0 ∷ 1 ∷ []) (replicate room 0)

abbrev listed : ℕ → List Call
listed room = call activate ∷ reports room ∷ []

abbrev both_reports : History Force Heard
both_reports = start 0 (in_force_by (settings_of session) activate) ▸ 6 ∶ Heard.traffic 400 599 ▸ 6 ∶ Heard.traffic 0 1

both_close : map (λ r. brief (record_from session name r)) (records R both_reports) ≡
    record { number = 1; cause = 16; opening = 0; lasts = 6; parts = part 400 600 2 6 ∷ [] } ∷ []
unfolding activate fill_to no_containers duration last_time first_editions set_at limits_of
both_close = refl

pub record SessionRun : Type 0 where
  -- It accepts the three events, and writes 01's octets.
  pub accepted : log (machine wrote) (fresh_node session) calls ≡ short
  pub output : outputs (fresh_node session) calls ≡ 0xC3 ∷ 0x5A ∷ printed
  -- Both reports are applied, are in the history, and close one record;
  pub answered : answer (node_then session (call activate ∷ [])) (reports 116) ≡ 0
  pub both : log (machine wrote) (fresh_node session) (listed 116) ≡ at 0 activate ∷ at 6 (traffic_event name 6 400 599) ∷ at 6 (traffic_event name 6 0 1) ∷ []
  pub heard : activations (contexts session) session (listed 116) name ≡ both_reports ∷ []
  pub closed : outputs (fresh_node session) (listed 116) ≡ marked (map (λ r. pdp (record_from session name r)) (records R both_reports))
  -- and with an octet less the second is refused for lack of room, and the first stays.
  pub no_room : answer (node_then session (call activate ∷ [])) (reports 115) ≡ 11
  pub first : log (machine wrote) (fresh_node session) (listed 115) ≡ at 0 activate ∷ at 6 (traffic_event name 6 400 599) ∷ []
  pub silent : outputs (fresh_node session) (listed 115) ≡ []

pub session_run : SessionRun
unfolding activate traffic released printed says spelt octets_from number_in fill_to no_containers
    step.step_of step.outcome step.refusals not_active is_active all_taken step.mm_records_of mmOctetsOf
    no_changes same_place isUnused allUnused nobodyOk place_ok
    step.output step.records_of step.octets_of step.marked_octets
    step.node_after step.activated batch_of batch_by list_refusals pairs_of one_by_one and_then traffic_event after_one after
    first_fit rows.marked known measured kinds kind_in whole_of rows.fields_ok activate_ok event_of
    imsi_ok halves leading all_f qos_ok is_apn lowered lower all_of apn_char release fields.release node_char
    sound profile_ok limits_ok blank_limits has_set first_editions set_ok blank_set used_ok sets_ok set_at limits_of step.settled_by step.unknown_set step.other_edition node_ok apn_ok stamp_ok distinct none_bears
    context.fields_ok unused_ok closed_ok count_ok containers_ok volume_ok sound_open blank_open context_ok zero_ok slot_ok open_ok each_ok midway one_offset
    times_to qos_run volume_of is_blank blanks same_qos
    reported qos_after change_of limit_met closing number_for record_of goes_on closed_by after_closing hear_with hear
    layout.scdr layout.inside layout.body layout.of_record layout.fields_of duration last_time tlv_enc len_enc int_enc lowest imsi_enc stamp_enc month_day seek
    month_len is_new told
    containers container qos
session_run = record {
  accepted = refl;
  output = eqs_eq (outputs (fresh_node session) calls) (0xC3 ∷ 0x5A ∷ printed) tt;
  answered = refl;
  both = refl;
  heard = refl;
  closed = eqs_eq (outputs (fresh_node session) (listed 116)) (marked (map (λ r. pdp (record_from session name r)) (records R both_reports))) tt;
  no_room = refl;
  first = refl;
  silent = refl;
}
