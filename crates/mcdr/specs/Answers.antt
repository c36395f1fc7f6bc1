-- What the writer of an M-CDR answers. What the reader answers is `mcdr.dec` (specs/Layout.antt). The numbers of 01's refusal table for both stand
-- in ber: `number_of` of what the writer answers (specs/Written.antt), `answer_of` of what the reader does (specs/Answer.antt).
use Rattle.std.specs.Prelude.{◌≡◌, List, [], ℕ}
use Rattle.std.specs.Prelude.{Option, None, Some, Result}
use Rattle.ber.specs.declared.written.NotWritten.{NotWritten}
use Rattle.ber.specs.Written.{written}
use Rattle.octets.specs.Filled.{fill_to}
use Rattle.mcdr.specs.declared.MmRecord.{MmRecord}
use Rattle.mcdr.specs.Change.{no_place}
use Rattle.mcdr.specs.Changes.{padded}
use Rattle.mcdr.specs.Rules.{within}
use Rattle.mcdr.specs.Layout.{mcdr}

-- ---- the lone writer: a record outside the rules is refused, then one that is longer than the buffer; else the record's octets stand at the
-- buffer's start, every later octet as before

-- the answer and the buffer
unfoldable pub write_of : MmRecord → List ℕ → Result ℕ NotWritten × List ℕ
write_of r b = written (within r) (mcdr.enc r) b

pub record Writes (r : MmRecord) (b b' : List ℕ) (answer : Result ℕ NotWritten) : Type 0 where
  pub is : ◌≡◌ {A = Result ℕ NotWritten × List ℕ} (answer, b') (write_of r b)
