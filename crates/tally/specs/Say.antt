-- What a record says of a name, a charging ID and a GGSN's address: 8A, AB and 95 alone are looked at (02, W7). Each is looked for behind the
-- last, as the table of fields has them.
use Rattle.std.specs.Prelude.{ℕ, cond, List, ◌==◌}
use Rattle.std.specs.Prelude.{Option, None, Some}
use Rattle.ber.specs.Field.{or_zero}
use Rattle.ber.specs.Table.{tag, row_dec}
use Rattle.scdr.specs.Table.{ChargingId, Ggsn, Number}
use Rattle.tally.specs.Seek.{Sought, before, unfit, seek}

pub data Saying : Type 0 where
  -- it is of another name, or of none that reads
  other : Saying
  -- it is of the name, and carries this number; 0 where it carries none
  carries : ℕ → Saying
  -- a length does not fit: that of the field with which these last octets of the record begin
  broken : List ℕ → Saying

-- what is said where a field was looked for
abbrev pub found : Sought → (List ℕ → Saying) → Saying
found (before s) f = f s
found (unfit s) f = broken s

-- what is said behind a field that has to have this value
abbrev pub like : Option (ℕ × List ℕ) → ℕ → (List ℕ → Saying) → Saying
like None v f = other
like (Some p) v f = cond (p.0 == v) (f p.1) other

-- the number that was read, 0 for none
abbrev pub number_read : Option (Option ℕ × List ℕ) → ℕ
number_read None = 0
number_read (Some p) = or_zero p.0

-- 95: the number of a record of the name
unfoldable pub say_number : List ℕ → Saying
say_number s = found (seek (tag Number) s) (λ r. carries (number_read (row_dec Number r)))

-- AB: is it the GGSN's address?
unfoldable pub say_ggsn : ℕ → List ℕ → Saying
say_ggsn ggsn s = found (seek (tag Ggsn) s) (λ r. like (row_dec Ggsn r) ggsn say_number)

-- 8A: is it the charging ID?
unfoldable pub say_of : ℕ → ℕ → List ℕ → Saying
say_of id ggsn s = found (seek (tag ChargingId) s) (λ r. like (row_dec ChargingId r) id (say_ggsn ggsn))
