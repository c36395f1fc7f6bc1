-- What the writer of a record answers. What the reader answers is `scdr.dec` (specs/Layout.antt). The numbers of 01's refusal table for both stand
-- in ber: `number_of` of what the writer answers (specs/Written.antt), `answer_of` of what the reader does (specs/Answer.antt).
use Rattle.std.specs.Prelude.{◌≡◌, false, List, [], ℕ, ◌≤◌, length}
use Rattle.std.specs.Prelude.{Option, None, Some, IfSome, Result}
use Rattle.format.specs.Maybe.{guard}
use Rattle.ber.specs.declared.written.NotWritten.{NotWritten}
use Rattle.ber.specs.Written.{written}
use Rattle.container.specs.List.{padded}
use Rattle.scdr.specs.declared.Record.{Record}
use Rattle.scdr.specs.Rules.{within}
use Rattle.octets.specs.Filled.{fill_to}
use Rattle.scdr.specs.Layout.{scdr}
-- 20: not an image of any record within the rules
pub use Rattle.ber.specs.Answer.{no_record}

-- ---- the lone writer: a record outside the rules is refused, then one that does not fit; else the record's octets stand at the buffer's
-- start, every later octet as before

-- the answer and the buffer
unfoldable pub write_of : Record → List ℕ → Result ℕ NotWritten × List ℕ
write_of r b = written (within r) (scdr.enc r) b

pub record Writes (r : Record) (b b' : List ℕ) (answer : Result ℕ NotWritten) : Type 0 where
  pub is : ◌≡◌ {A = Result ℕ NotWritten × List ℕ} (answer, b') (write_of r b)

-- how many octets a record has, without its mark; one outside the rules has none
unfoldable pub size_of : Record → Option ℕ
size_of r = guard (within r) (length (scdr.enc r))

pub record Sizes (r : Record) (n : Option ℕ) : Type 0 where
  pub is : n ≡ size_of r
  pub most : IfSome n (λ m. m ≤ 1024)
