-- Demand 2's last sentence: "the reader accepts exactly what the writer can write for some record within the rules, and gives that record
-- back". It is said of the two promises themselves: of any answers that meet what `read_record` and `write_record` (`Writes`)
-- promise. That there are such answers, and only one each, is said too (here, and in Fixes.antt). The proof is ber's, of any record.
use mathlib.Core.Path.{◌≡◌, refl, ◌∙◌}
use mathlib.Core.Logic.{◌↔◌}
use Rattle.std.specs.Prelude.{Option, Some, IsSome, Result, Ok}
use Rattle.ber.specs.declared.written.NotWritten.{NotWritten}
use mathlib.Core.List.{List, ◌++◌}
use Prim.Native.Nat.{ℕ, ◌≤◌}
use lib.Dec.{T}
use lib.ListN.{length, drop}
use Rattle.ber.specs.Answer.{no_record, answer_of}
use Rattle.ber.proofs.Records.{read_written, read_some_written, read_number}
use Rattle.scdr.specs.declared.Record.{Record}
use Rattle.scdr.specs.Rules.{shaped, within}
use Rattle.scdr.specs.Layout.{rules, scdr}
use Rattle.scdr.specs.Answers.{write_of, Writes}
use Rattle.scdr.proofs.Theorems.{exact}
use Rattle.scdr.proofs.Answering.{writes_answers, answers_writes}

-- ---- there are answers that meet the promises

pub write_answers : (r : Record) (b : List ℕ) → Writes r b (write_of r b).1 (write_of r b).0
write_answers r b = record { is = refl }

pub read_answers : (s : List ℕ) → (o : Option Record) × (o ≡ scdr.dec s)
read_answers s = (scdr.dec s, refl)

-- ---- the number of what the reader answers

-- 20 is answered exactly where s is the octets of no record within the rules, and 0 exactly where it is those of one
pub read_numbers : (s : List ℕ) {o : Option Record} → o ≡ scdr.dec s
    → ((answer_of o ≡ no_record) ↔ ((r : Record) → T (rules r) → scdr.enc r ≡ s → ⊥))
    × ((answer_of o ≡ 0) ↔ ((r : Record) × T (rules r) × (scdr.enc r ≡ s)))
read_numbers s p = read_number scdr shaped within exact s p

-- ---- demand 2

-- s was written to the start of b, and nothing else was changed
abbrev pub Leaves : List ℕ → List ℕ → List ℕ → Result ℕ NotWritten → Type 0
Leaves s b b' answer = (answer ≡ Ok (length s)) × (b' ≡ s ++ drop (length s) b)

-- Octets s, a record r that the code can hold, any answer of the reader to s, any answer of the writer to r in a buffer with room for s: the
-- reader takes s as r exactly where r is within the rules and the writer wrote s.
pub demand2 : (s : List ℕ) (r : Record) → T (shaped r) → {o : Option Record} → o ≡ scdr.dec s
    → {b b' : List ℕ} {w : Result ℕ NotWritten} → length s ≤ length b → Writes r b b' w → (o ≡ Some r) ↔ (T (within r) × Leaves s b b' w)
demand2 s r t p room q = read_written scdr shaped within exact s r t p room (writes_answers q)

-- the writer, given room, writes r as s: whatever the buffer, and whatever it answers within its promise
abbrev pub CanWrite : Record → List ℕ → Type 0
CanWrite r s = (b b' : List ℕ) (w : Result ℕ NotWritten) → length s ≤ length b → Writes r b b' w → Leaves s b b' w

-- The sentence in its own words: the reader accepts s exactly where the writer can write s for some record within the rules; and the record that
-- it gives back is that one.
pub demand2_some : (s : List ℕ) {o : Option Record} → o ≡ scdr.dec s
    → (IsSome o ↔ ((r : Record) × T (shaped r) × T (within r) × CanWrite r s))
    × ((r : Record) → T (shaped r) → T (within r) → CanWrite r s → o ≡ Some r)
demand2_some s p =
    let (takes, same) = read_some_written scdr shaped within exact s p in (
      (
        λ z. let (r, t, i, c) = takes.0 z in (r, t, i, λ b b' w h q. c b b' w h (writes_answers q)),
        λ (r, t, i, c). takes.1 (r, t, i, λ b b' w h q. c b b' w h (answers_writes q)),
      ),
      λ r t i c. same r t i (λ b b' w h q. c b b' w h (answers_writes q)),
    )
