-- The fields of an S-CDR (12.15's SGSNPDPRecord), a row a field, ascending, each under 01's words ("The record's octets"): its tag, when it is there,
-- its values. The layout (Layout.antt) is this table read off.
use Rattle.std.specs.Prelude.{List, [], ◌∷◌, ℕ, ◌^◌, ltb}
use Rattle.format.specs.Format.{exactly, refined}
use Rattle.ber.specs.Int.{int, counted}
use Rattle.ber.specs.Field.{alone, between, any_octet}
use Rattle.ber.specs.Fixed.{fixed, ipv4}
use Rattle.ber.specs.Imsi.{imsi}
use Rattle.ber.specs.Table.{Row, always, if_set, if_any, tags, tags_always, tags_sometimes}
use Rattle.calendar.specs.Stamp.{stamp}
use Rattle.container.specs.List.{containers}

-- "Outer A0"
abbrev pub record_tag : ℕ
record_tag = 0xA0

-- "80 record type 18"
abbrev pub RecordType : Row
RecordType = always 0x80 (exactly (18 ∷ []))

-- "81 network initiation (only when set, FF)"
abbrev pub Network : Row
Network = if_set 0x81 (0xFF ∷ [])

-- "83 IMSI, half the digits rounded up, odd ones filled with F"
abbrev pub Imsi : Row
Imsi = always 0x83 imsi

-- "A5 SGSN"
abbrev pub Sgsn : Row
Sgsn = always 0xA5 ipv4

-- "8A charging ID"
abbrev pub ChargingId : Row
ChargingId = always 0x8A (refined (λ n. ltb n (2 ^ 32)) int)

-- "AB GGSN"
abbrev pub Ggsn : Row
Ggsn = always 0xAB ipv4

-- "8C APN"
abbrev pub Apn : Row
Apn = always 0x8C (between 1 63)

-- "8D PDP type"
abbrev pub PdpType : Row
PdpType = always 0x8D (fixed 2)

-- "AE served address, an A0 around it"
abbrev pub Served : Row
Served = always 0xAE (alone 0xA0 ipv4)

-- "AF containers"
abbrev pub Containers : Row
Containers = always 0xAF containers

-- "90 opening time"
abbrev pub Opening : Row
Opening = always 0x90 stamp

-- "91 duration"
abbrev pub Duration : Row
Duration = always 0x91 int

-- "92 SGSN change (FF, only in the first record of an activation with bit 1)": in which records, the node's rules say
abbrev pub Change : Row
Change = if_set 0x92 (0xFF ∷ [])

-- "93 cause"
abbrev pub Cause : Row
Cause = always 0x93 any_octet

-- "95 sequence number", "absent if release closes an activation with no earlier record"
abbrev pub Number : Row
Number = if_any 0x95 counted

-- "96 node ID (if not empty)"
abbrev pub NodeId : Row
NodeId = if_any 0x96 (between 1 20)

abbrev pub table : List Row
table =
    RecordType ∷ Network ∷ Imsi ∷ Sgsn ∷ ChargingId ∷ Ggsn ∷ Apn ∷ PdpType ∷ Served ∷ Containers ∷ Opening ∷ Duration ∷ Change ∷ Cause ∷ Number
    ∷ NodeId ∷ []

-- ---- its tags: all, in their order; those that stand in every record; those that stand in some

abbrev pub record_tags : List ℕ
record_tags = tags table

abbrev pub mandatory : List ℕ
mandatory = tags_always table

abbrev pub optional : List ℕ
optional = tags_sometimes table
