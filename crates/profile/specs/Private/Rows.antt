-- A line's row by its index, as the code picks it.
use Rattle.std.specs.Prelude.{List, ℕ, get_or, Option}
use Rattle.profile.specs.Line.{line_fault}
use Rattle.profile.specs.Text.{Row, node_name, rows_of}
use Rattle.profile.specs.declared.line.Kind.TheVariants.{Rest}
use Rattle.profile.specs.declared.fault.Fault.{Fault}

abbrev pub last_row : Row
last_row = record { name = node_name; kind = Rest }

-- of the rows of k sets; the last row past the end
abbrev pub row_at : ℕ → ℕ → Row
row_at k i = get_or (rows_of k) i last_row

unfoldable pub row_fault : ℕ → ℕ → List ℕ → Option Fault
row_fault k i s = line_fault (row_at k i).name (row_at k i).kind s
