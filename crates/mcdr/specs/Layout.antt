-- The record's octets (12.15's SGSNMMRecord): A2, and inside the fields of the table in their order.
use Rattle.std.specs.Prelude.{Bool, true, ◌&&◌, length, take}
use Rattle.format.specs.Format.{Fmt, viewed}
use Rattle.octets.specs.Filled.{fill_to}
use Rattle.ber.specs.Field.{alone, unless0, or_zero, unless_none, ◌⨾◌}
use Rattle.ber.specs.Table.{Values, layout}
use Rattle.ber.specs.Text.{or_none}
use Rattle.mcdr.specs.declared.MmRecord.{MmRecord}
use Rattle.mcdr.specs.Changes.{padded}
use Rattle.mcdr.specs.Rules.{used, shaped, within}
use Rattle.mcdr.specs.Table.{record_tag, table}

-- ---- the fields

abbrev pub Fields : Type 0
Fields = Values table

unfoldable pub body : Fmt Fields
body = layout table

-- ---- between a record and its fields

unfoldable pub of_record : MmRecord → Fields
of_record r =
    tt  -- the record type says nothing
    ⨾ r.imsi
    ⨾ r.sgsn
    ⨾ r.place.rac
    ⨾ r.place.lac
    ⨾ unless_none (used r)
    ⨾ r.opening
    ⨾ r.duration
    ⨾ r.cause
    ⨾ unless0 r.number
    ⨾ unless_none (take r.nodelen r.nodeid)
    ⨾ tt

-- and the record that fields say
unfoldable pub to_record : Fields → MmRecord
to_record (_, (imsi, (sgsn, (rac, (lac, (cs, (opening, (duration, (cause, (number, (node, _))))))))))) = record {
  imsi = imsi;
  sgsn = sgsn;
  place = record { lac = lac; rac = rac };
  changes = padded (or_none cs);
  count = length (or_none cs);
  opening = opening;
  duration = duration;
  cause = cause;
  number = or_zero number;
  nodeid = fill_to 20 0 (or_none node);
  nodelen = length (or_none node);
}

-- ---- the record: A2, the fields, the rules

abbrev pub rules : MmRecord → Bool
rules r = shaped r && within r

unfoldable pub inside : Fmt MmRecord
inside = viewed (λ w. true) rules to_record of_record body

unfoldable pub mcdr : Fmt MmRecord
mcdr = alone record_tag inside
