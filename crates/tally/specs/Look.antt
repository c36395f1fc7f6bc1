-- One step of a count: from the mark at the front of octets over the record that follows it, and what is counted there.
use Rattle.std.specs.Prelude.{ℕ, ◌-◌, cond, List, [], length, nat_lt}
use Rattle.std.specs.Prelude.{Option, None, Some}
use Rattle.ber.specs.Tlv.{tlv_dec}
use Rattle.ber.specs.Field.{starts}
use Rattle.scdr.specs.Table as s-table
use Rattle.mcdr.specs.Table as m-table
use Rattle.entries.specs.declared.Entry.{Entry}
use Rattle.entries.specs.declared.Entry.TheVariants.{Found, End, NoMark, Cut, NoValue}
use Rattle.entries.specs.Entry.{entry_at}
use Rattle.entries.specs.Read.{octets_in}
use Rattle.tally.specs.declared.Fault.{Fault}
use Rattle.tally.specs.declared.Fault.TheVariants as F
use Rattle.tally.specs.declared.Tally.{Tally}
use Rattle.tally.specs.Say.{Saying, other, carries, broken, say_of}

-- over a record of another name, or over an M-CDR, which ends at e
abbrev pub past : ℕ → Tally
past e = record { fault = F.None; at = e; count = 0; number = 0 }

-- over a record of the name, which ends at e and carries this number
abbrev pub counts : ℕ → ℕ → Tally
counts e n = record { fault = F.None; at = e; count = 1; number = n }

-- no step: what stands at a place does not fit, and nothing is counted
abbrev pub stops : Fault → ℕ → Tally
stops f at = record { fault = f; at = at; count = 0; number = 0 }

-- the longest record
abbrev pub longest : ℕ
longest = 1024

-- the contents of an S-CDR
abbrev pub within : Option (List ℕ × List ℕ) → List ℕ
within None = []
within (Some p) = p.0

abbrev pub contents_of : List ℕ → List ℕ
contents_of x = within (tlv_dec s-table.record_tag x)

-- a record that ends at e, by what it says of the name
abbrev pub said : ℕ → Saying → Tally
said e other = past e
said e (carries n) = counts e n
said e (broken r) = stops F.Field (e - length r)

-- the record x, which ends at e: an M-CDR says nothing of any name, by its tag
unfoldable pub of_record : ℕ → ℕ → ℕ → List ℕ → Tally
of_record id ggsn e x = cond (starts m-table.record_tag x) (past e) (said e (say_of id ggsn (contents_of x)))

-- what the stepper found. A value that is longer than any record does not fit, wherever the octets end. (No step is taken where none are left.)
abbrev pub look_on : ℕ → ℕ → List ℕ → Entry → Tally
look_on id ggsn s (Found a e) = cond (nat_lt longest (e - a)) (stops F.Value a) (of_record id ggsn e (octets_in s (a, e)))
look_on id ggsn s End = stops F.Cut 0
look_on id ggsn s (NoMark p) = stops F.Mark p
look_on id ggsn s (Cut p) = stops F.Cut p
look_on id ggsn s (NoValue p) = stops F.Value p

unfoldable pub look_of : ℕ → ℕ → List ℕ → Tally
look_of id ggsn s = look_on id ggsn s (entry_at s 0)
