-- The fields of an M-CDR (12.15's SGSNMMRecord), a row a field, ascending, each under the words of 02's W4: its tag, when it is there, its
-- values. The layout (Layout.antt) is this table read off.
use Rattle.std.specs.Prelude.{List, [], ◌∷◌, ℕ, ◌^◌, ltb}
use Rattle.format.specs.Format.{exactly, refined}
use Rattle.ber.specs.Int.{int, counted}
use Rattle.ber.specs.Field.{between, any_octet}
use Rattle.ber.specs.Fixed.{fixed, ipv4}
use Rattle.ber.specs.Imsi.{imsi}
use Rattle.ber.specs.Table.{Row, always, if_any}
use Rattle.calendar.specs.Stamp.{stamp}
use Rattle.mcdr.specs.Changes.{changes}

-- "Outer A2"
abbrev pub record_tag : ℕ
record_tag = 0xA2

-- "80 type 20"
abbrev pub RecordType : Row
RecordType = always 0x80 (exactly (20 ∷ []))

-- "81 IMSI"
abbrev pub Imsi : Row
Imsi = always 0x81 imsi

-- "A3 SGSN"
abbrev pub Sgsn : Row
Sgsn = always 0xA3 ipv4

-- "85 RAC .. at the opening"
abbrev pub Rac : Row
Rac = always 0x85 any_octet

-- "86 LAC at the opening"
abbrev pub Lac : Row
Lac = always 0x86 (fixed 2)

-- "A8 changes (absent where there is none)"
abbrev pub Changes : Row
Changes = if_any 0xA8 changes

-- "89 opening"
abbrev pub Opening : Row
Opening = always 0x89 stamp

-- "8A duration, from the opening to the closing"
abbrev pub Duration : Row
Duration = always 0x8A (refined (λ n. ltb n (2 ^ 32)) int)

-- "8C cause"
abbrev pub Cause : Row
Cause = always 0x8C any_octet

-- "8E number": absent "if detach closes an attachment with no earlier record"
abbrev pub Number : Row
Number = if_any 0x8E counted

-- "8F node ID (absent where it is empty)"
abbrev pub NodeId : Row
NodeId = if_any 0x8F (between 1 20)

abbrev pub table : List Row
table = RecordType ∷ Imsi ∷ Sgsn ∷ Rac ∷ Lac ∷ Changes ∷ Opening ∷ Duration ∷ Cause ∷ Number ∷ NodeId ∷ []
