-- Events that 01 tells of, and edges of the refusals.
use mathlib.Core.Path.{◌≡◌, refl}
use mathlib.Core.Bool.{false}
use mathlib.Core.List.{[]}
use lib.ListN.{take}
use Rattle.ber.specs.Imsi.{imsi_ok, halves, leading, all_f}
use Rattle.ber.specs.Int.{spelt, octets_from, number_in}
use Rattle.container.specs.Qos.{qos_ok}
use Rattle.limits.specs.Limits.{limits_ok}
use Rattle.octets.specs.Chars.{all_of, apn_char, lower, lowered}
use Rattle.octets.specs.Names.{is_apn}
use Rattle.event.specs.Fields.{release, activate_ok}
use Rattle.event.specs.Kinds.{kinds, kind_in, whole_of}
use Rattle.event.specs.Rows.{first_fit, rows, marked, known, measured, fields_ok, refusal_of}
use Rattle.event.specs.Event.{event_of, said_by, decoded}
use Rattle.event.specs.Sample.{replacing, activate, traffic, released, named}
use Rattle.event.specs.declared.Event.TheVariants.{Activate, Traffic, Release, Replace}
use Rattle.std.specs.Prelude.{Ok, Err}
use Rattle.event.specs.declared.Refusal.TheVariants.{TooShort, WrongLength, OutOfRange}

-- ---- "One session, whole"

pub activate_said : decoded activate ≡
    Ok (
      0,
      Activate
          (record {
            name = record { id = 1; ggsn = 0x0A000002 };
            network = false;
            change = false;
            pdptype = 0xF121;
            address = 0x0A000003;
            qos = record { reliability = 1; delay = 3; precedence = 2; peak = 4; mean = 0 };
            set = 1;
            apnlen = 1;
          }),
    )
unfolding activate decoded said_by refusal_of event_of first_fit rows marked kinds kind_in known measured whole_of fields_ok activate_ok
    spelt octets_from number_in imsi_ok halves leading all_f qos_ok is_apn lowered lower all_of apn_char
activate_said = refl

pub traffic_said : decoded traffic ≡ Ok (5, Traffic (record { id = 1; ggsn = 0x0A000002 }) 400 599)
unfolding traffic decoded said_by refusal_of event_of first_fit rows marked kinds kind_in known measured whole_of fields_ok spelt octets_from number_in
traffic_said = refl

pub release_said : decoded (released 0) ≡ Ok (6, Release (record { id = 1; ggsn = 0x0A000002 }) 0)
unfolding released decoded said_by refusal_of event_of first_fit rows marked kinds kind_in known measured whole_of fields_ok release spelt octets_from number_in
release_said = refl

-- set 1 replaced at 7 by edition 2: limits of 500 octets, 30 s, 3 changes
pub replace_said : decoded (replacing 3)
    ≡ Ok (7, Replace (record { set = 1; edition = 2; limits = record { volume = 500; seconds = 30; changes = 3 } }))
unfolding replacing decoded said_by refusal_of event_of first_fit rows marked kinds kind_in known measured whole_of fields_ok limits_ok spelt octets_from number_in
replace_said = refl

-- ---- refused

-- a change limit of 16 is out of range
pub replace_16 : decoded (replacing 16) ≡ Err OutOfRange
unfolding replacing decoded said_by refusal_of first_fit rows marked kinds kind_in known measured whole_of fields_ok limits_ok spelt octets_from number_in
replace_16 = refl

-- 16 closes a record at the volume limit, and no release has it
pub release_16 : decoded (released 16) ≡ Err OutOfRange
unfolding released decoded said_by refusal_of first_fit rows marked kinds kind_in known measured whole_of fields_ok release
release_16 = refl

pub nothing : decoded [] ≡ Err TooShort
unfolding decoded said_by refusal_of first_fit rows
nothing = refl

pub activate_36 : decoded (take 36 activate) ≡ Err WrongLength
unfolding activate decoded said_by refusal_of first_fit rows marked kinds kind_in known measured whole_of
activate_36 = refl

-- n = 0 in 37 octets, and in 38
pub n_0 : decoded (named 0 0) ≡ Err OutOfRange
unfolding activate named decoded said_by refusal_of first_fit rows marked kinds kind_in known measured whole_of fields_ok activate_ok
    imsi_ok halves leading all_f qos_ok is_apn lowered lower all_of apn_char
n_0 = refl

pub n_0_longer : decoded (named 0 1) ≡ Err WrongLength
unfolding activate named decoded said_by refusal_of first_fit rows marked kinds kind_in known measured whole_of
n_0_longer = refl

-- n = 64 in 101 octets
pub n_64 : decoded (named 64 64) ≡ Err OutOfRange
unfolding activate named decoded said_by refusal_of first_fit rows marked kinds kind_in known measured whole_of fields_ok activate_ok
    imsi_ok halves leading all_f qos_ok is_apn lowered lower all_of apn_char
n_64 = refl
