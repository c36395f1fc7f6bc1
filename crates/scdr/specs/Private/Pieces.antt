-- What the readers of a record's pieces answer.
use Rattle.std.specs.Prelude.{Bool, List, ℕ, take, drop, eqb, length}
use Rattle.std.specs.Prelude.{Option, Some}
use Rattle.format.specs.Maybe.{bind, guard}
use Rattle.ber.specs.Field.{or_zero}
use Rattle.ber.specs.Table.{Row, Values, rows_at, both}
use Rattle.calendar.specs.declared.Stamp.{Stamp}
use Rattle.scdr.specs.declared.fields.Wire.{Wire}
use Rattle.scdr.specs.Table.{table}
use Rattle.scdr.specs.Layout.{Fields, to_record}
use Rattle.scdr.specs.Private.Parts.{front_rows, end_rows}

-- record type to charging ID, at the front of s
abbrev pub front : Values front_rows → Bool × List ℕ × ℕ × ℕ
front (_, (network, (imsi, (sgsn, (charging, _))))) = (network, imsi, sgsn, charging)

unfoldable pub front_of : List ℕ → Option ((Bool × List ℕ × ℕ × ℕ) × ℕ)
front_of s = bind (rows_at s front_rows 0) (λ p. Some (front p.0, p.1))

-- opening time to number, from a place of s on
abbrev pub end : Values end_rows → Stamp × ℕ × Bool × ℕ × ℕ
end (opening, (lasts, (change, (cause, (number, _))))) = (opening, lasts, change, cause, or_zero number)

unfoldable pub end_of : List ℕ → ℕ → Option ((Stamp × ℕ × Bool × ℕ × ℕ) × ℕ)
end_of s at = bind (rows_at s end_rows at) (λ p. Some (end p.0, p.1))

-- the fields up to the access point name, and those after it
abbrev pub name_rows : List Row
name_rows = take 7 table

abbrev pub rest_rows : List Row
rest_rows = drop 7 table

-- the duration that the fields say
abbrev pub lasts_of : Fields → ℕ
lasts_of (_, (_, (_, (_, (_, (_, (_, (_, (_, (_, (_, (lasts, _)))))))))))) = lasts

-- all of s as the fields of a record, and the place after the access point name
unfoldable pub fields_at : List ℕ → Option (Fields × ℕ)
fields_at s = bind (rows_at s name_rows 0)
    (λ p. bind (rows_at s rest_rows p.1) (λ q. guard (eqb q.1 (length s)) (both name_rows rest_rows p.0 q.0, p.1)))

-- the record that they say, how long it lasted, and that place
abbrev pub wire : Fields → ℕ → Wire
wire v n = record { cdr = to_record v; lasts = lasts_of v; name_end = n }

unfoldable pub wire_of : List ℕ → Option Wire
wire_of s = bind (fields_at s) (λ x. Some (wire x.0 x.1))
