-- What a writer of records answers: how many octets it wrote, or why it wrote none.
use Rattle.std.specs.Prelude.{Bool, cond, List, ◌++◌, ℕ, leb, length, drop}
use Rattle.std.specs.Prelude.{Result, Ok, Err}
use Rattle.ber.specs.declared.written.NotWritten.{NotWritten}
use Rattle.ber.specs.declared.written.NotWritten.TheVariants.{OutsideRules, NoRoom}

-- The numbers that the refusal table of 01 has for them. 24: a record outside the rules. 11: the record is longer than the output buffer
abbrev pub number_of : NotWritten → ℕ
number_of OutsideRules = 24
number_of NoRoom = 11

-- The answer and the buffer b afterwards, where x is the record's octets and ok says whether it is within its rules. First a record outside
-- the rules is refused, then one that is longer than the buffer, and the buffer stays as it was; else x stands at the buffer's start, every
-- later octet as before.
unfoldable pub written : Bool → List ℕ → List ℕ → Result ℕ NotWritten × List ℕ
written ok x b = cond ok (cond (leb (length x) (length b)) (Ok (length x), x ++ drop (length x) b) (Err NoRoom, b)) (Err OutsideRules, b)
