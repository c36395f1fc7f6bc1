-- A container (12.15's ChangeOfCharCondition): values and octets. Its QoS is among the octets where it is new: in the first container of a
-- record, and after one that a QoS change ended (02, W1; source document 003).
use Rattle.std.specs.Prelude.{Bool, cond, ◌&&◌, ◌||◌, List, [], ◌∷◌, ℕ, ◌^◌, leb, ltb, eqb}
use Rattle.std.specs.Prelude.{Option, None, Some}
use Rattle.format.specs.Format.{Fmt, refined, mapped}
use Rattle.ber.specs.Int.{int}
use Rattle.ber.specs.Field.{any_octet, ◌⨾◌}
use Rattle.ber.specs.Table.{Row, always, if_new, Values, layout}
use Rattle.calendar.specs.declared.Stamp.{Stamp}
use Rattle.calendar.specs.Stamp.{stamp, stamp_ok}
use Rattle.container.specs.declared.Qos.{Qos}
use Rattle.container.specs.declared.Container.{Container}
use Rattle.container.specs.Qos.{qos_ok, same_qos, qos, no_qos}

-- each value by itself: the QoS in its ranges, volumes below 2^40, condition 0, 1 or 2, a time of 2000 to 2099 with its offset
unfoldable pub container_ok : Container → Bool
container_ok c =
    qos_ok c.qos && ltb c.uplink (2 ^ 40) && ltb c.downlink (2 ^ 40) && leb c.condition 2 && stamp_ok c.time

-- no time
abbrev pub no_stamp : Stamp
no_stamp = record { seconds = 0; zone = 0 }

-- nothing counted: what an unused place holds
abbrev pub no_container : Container
no_container = record { qos = no_qos; uplink = 0; downlink = 0; condition = 0; time = no_stamp }

-- ---- its octets: "30; A2 (80..84, one octet each, the QoS); 83 uplink; 84 downlink; 85 condition; 86 time" (01). The 30 is the list's.

-- the QoS after b is new where a QoS change ended b (condition 0)
unfoldable pub is_new : Container → Bool
is_new b = eqb b.condition 0

-- what b tells of the QoS after it: nothing where that is new; else it is the same still
unfoldable pub told : Container → Option Qos
told b = cond (is_new b) None (Some b.qos)

-- each container of a list
abbrev pub container_tag : ℕ
container_tag = 0x30

-- A row a field: its tag, when it is there, its values.

-- the QoS: there exactly where b, the container before, does not tell it
abbrev pub QosAfter : Container → Row
QosAfter b = if_new 0xA2 qos (told b)

abbrev pub Uplink : Row
Uplink = always 0x83 int

abbrev pub Downlink : Row
Downlink = always 0x84 int

abbrev pub Condition : Row
Condition = always 0x85 any_octet

abbrev pub Time : Row
Time = always 0x86 stamp

-- the table of a container after b
abbrev pub container_table : Container → List Row
container_table b = QosAfter b ∷ Uplink ∷ Downlink ∷ Condition ∷ Time ∷ []

-- what they say, after whatever container
abbrev pub ContainerFields : Type 0
ContainerFields = Values (container_table no_container)

abbrev pub to_container : ContainerFields → Container
to_container (q, (uplink, (downlink, (condition, (time, _))))) =
    record { qos = q; uplink = uplink; downlink = downlink; condition = condition; time = time }

abbrev pub of_container : Container → ContainerFields
of_container c = c.qos ⨾ c.uplink ⨾ c.downlink ⨾ c.condition ⨾ c.time ⨾ tt

-- the format of a container after b: these fields, each value as it must be
unfoldable pub container : Container → Fmt Container
container b = refined container_ok (mapped to_container of_container (layout (container_table b)))

-- can the QoS of c, which stands after b, be told: is it new, or the same still?
unfoldable pub is_told : Container → Container → Bool
is_told b c = is_new b || same_qos b.qos c.qos

-- which containers have a form after b
abbrev pub formed : Container → Container → Bool
formed b c = container_ok c && is_told b c
