-- What the reader of a record's fields answers.
use Rattle.std.specs.Prelude.{List, ℕ}
use Rattle.std.specs.Prelude.{Option, Some}
use Rattle.format.specs.Maybe.{bind}
use Rattle.mcdr.specs.declared.MmRecord.{MmRecord}
use Rattle.mcdr.specs.Layout.{body, to_record}

-- the record that the fields say, where all of s is fields
unfoldable pub record_of : List ℕ → Option MmRecord
record_of s = bind (body.dec s) (λ v. Some (to_record v))
