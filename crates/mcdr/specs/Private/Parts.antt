-- The octets of a record's fields in the parts in which the code writes them: the first five, the changes, the next four, and the last.
use Rattle.std.specs.Prelude.{List, ℕ, take, drop}
use Rattle.ber.specs.Field.{unless0, ◌⨾◌}
use Rattle.ber.specs.Table.{Row, layout}
use Rattle.calendar.specs.declared.Stamp.{Stamp}
use Rattle.mcdr.specs.declared.Place.{Place}
use Rattle.mcdr.specs.Table.{table}

-- record type to LAC
abbrev pub front_rows : List Row
front_rows = take 5 table

abbrev pub front_enc : List ℕ → ℕ → Place → List ℕ
front_enc imsi sgsn place = (layout front_rows).enc (tt ⨾ imsi ⨾ sgsn ⨾ place.rac ⨾ place.lac ⨾ tt)

-- opening time to number
abbrev pub end_rows : List Row
end_rows = take 4 (drop 6 table)

abbrev pub end_enc : Stamp → ℕ → ℕ → ℕ → List ℕ
end_enc opening duration cause number = (layout end_rows).enc (opening ⨾ duration ⨾ cause ⨾ unless0 number ⨾ tt)
