-- The record's octets (12.15's SGSNPDPRecord): A0, and inside the fields of the table in their order.
use Rattle.std.specs.Prelude.{Bool, ◌&&◌, ℕ, eqb, length, take}
use Rattle.format.specs.Format.{Fmt, viewed}
use Rattle.octets.specs.Filled.{fill_to}
use Rattle.ber.specs.Field.{alone, unless0, or_zero, unless_none, ◌⨾◌}
use Rattle.ber.specs.Table.{Values, layout}
use Rattle.ber.specs.Text.{or_none}
use Rattle.container.specs.List.{padded}
use Rattle.scdr.specs.declared.Record.{Record}
use Rattle.scdr.specs.Rules.{shaped, within, duration, duration_from}
use Rattle.scdr.specs.Table.{record_tag, table}

-- ---- the fields

abbrev pub Fields : Type 0
Fields = Values table

unfoldable pub body : Fmt Fields
body = layout table

-- ---- between a record and its fields

-- the fields of a record that lasted so long
unfoldable pub fields_of : Record → ℕ → Fields
fields_of r lasts =
    tt  -- the record type says nothing
    ⨾ r.network
    ⨾ r.imsi
    ⨾ r.sgsn
    ⨾ r.charging
    ⨾ r.ggsn
    ⨾ take r.apnlen r.apn
    ⨾ r.pdptype
    ⨾ r.address
    ⨾ take r.count r.containers
    ⨾ r.opening
    ⨾ lasts
    ⨾ r.change
    ⨾ r.cause
    ⨾ unless0 r.number
    ⨾ unless_none (take r.nodelen r.nodeid)
    ⨾ tt

unfoldable pub of_record : Record → Fields
of_record r = fields_of r (duration r)

-- and the record that fields say
unfoldable pub to_record : Fields → Record
to_record (_, (network, (imsi, (sgsn, (id, (ggsn, (apn, (pdptype, (address, (cs, (opening, (_, (change, (cause, (number, (node, _)))))))))))))))) = record {
  network = network;
  imsi = imsi;
  sgsn = sgsn;
  charging = id;
  ggsn = ggsn;
  apn = fill_to 63 0 apn;
  apnlen = length apn;
  pdptype = pdptype;
  address = address;
  containers = padded cs;
  count = length cs;
  opening = opening;
  change = change;
  cause = cause;
  number = or_zero number;
  nodeid = fill_to 20 0 (or_none node);
  nodelen = length (or_none node);
}

-- the duration is the last container's time minus the opening
unfoldable pub duration_right : Fields → Bool
duration_right (_, (_, (_, (_, (_, (_, (_, (_, (_, (cs, (opening, (lasts, _)))))))))))) = eqb lasts (duration_from opening.seconds cs)

-- ---- the record: A0, the fields, the rules

abbrev pub rules : Record → Bool
rules r = shaped r && within r

unfoldable pub inside : Fmt Record
inside = viewed duration_right rules to_record of_record body

unfoldable pub scdr : Fmt Record
scdr = alone record_tag inside
