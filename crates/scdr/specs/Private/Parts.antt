-- The octets of a record's fields in the parts in which the code writes them: the first five, the next four, the containers, five more, and the last.
use Rattle.std.specs.Prelude.{Bool, List, ℕ, take, drop}
use Rattle.ber.specs.Field.{unless0, ◌⨾◌}
use Rattle.ber.specs.Table.{Row, layout}
use Rattle.calendar.specs.declared.Stamp.{Stamp}
use Rattle.scdr.specs.Table.{table}

-- record type to charging ID
abbrev pub front_rows : List Row
front_rows = take 5 table

abbrev pub front_enc : Bool → List ℕ → ℕ → ℕ → List ℕ
front_enc network imsi sgsn charging = (layout front_rows).enc (tt ⨾ network ⨾ imsi ⨾ sgsn ⨾ charging ⨾ tt)

-- GGSN to served address
abbrev pub pdp_rows : List Row
pdp_rows = take 4 (drop 5 table)

abbrev pub pdp_enc : ℕ → List ℕ → ℕ → ℕ → List ℕ
pdp_enc ggsn apn pdptype served = (layout pdp_rows).enc (ggsn ⨾ apn ⨾ pdptype ⨾ served ⨾ tt)

-- opening time to number
abbrev pub end_rows : List Row
end_rows = take 5 (drop 10 table)

abbrev pub end_enc : Stamp → ℕ → Bool → ℕ → ℕ → List ℕ
end_enc opening lasts change cause number = (layout end_rows).enc (opening ⨾ lasts ⨾ change ⨾ cause ⨾ unless0 number ⨾ tt)
