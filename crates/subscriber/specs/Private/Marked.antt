-- A record that closes, written after its mark.
use Rattle.std.specs.Prelude.{◌≡◌, cond, List, ◌++◌, ℕ, leb, length, drop, Result}
use Rattle.ber.specs.Written.{written}
use Rattle.ber.specs.declared.written.NotWritten.{NotWritten}
use Rattle.mcdr.specs.declared.MmRecord.{MmRecord}
use Rattle.mcdr.specs.Rules.{within}
use Rattle.subscriber.specs.declared.Subscriber.{Subscriber}
use Rattle.subscriber.specs.Tell.{marked_octets}

-- from the start of a buffer: how many octets these are, or why there are none; and the buffer
unfoldable pub marked_in : MmRecord → List ℕ → Result ℕ NotWritten × List ℕ
marked_in r b = written (within r) (marked_octets r) b

pub record Marks (r : MmRecord) (b b' : List ℕ) (answer : Result ℕ NotWritten) : Type 0 where
  pub is : ◌≡◌ {A = Result ℕ NotWritten × List ℕ} (answer, b') (marked_in r b)

-- the same, with the subscriber that closes it, and what stands after that
unfoldable pub emit_of : MmRecord → Subscriber → Subscriber → List ℕ → ℕ × (Subscriber × (ℕ × List ℕ))
emit_of r s z b =
    let x = marked_octets r in
    cond (within r) (cond (leb (length x) (length b)) (0, (z, (length x, x ++ drop (length x) b))) (11, (s, (0, b)))) (13, (s, (0, b)))

pub record Emits (r : MmRecord) (s z : Subscriber) (b b' : List ℕ) (answer : ℕ) (s' : Subscriber) (written : ℕ) : Type 0 where
  pub is : ◌≡◌ {A = ℕ × (Subscriber × (ℕ × List ℕ))} (answer, (s', (written, b'))) (emit_of r s z b)
