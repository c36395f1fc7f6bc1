-- Where an event ends in a file of events, which has no framing.
use Rattle.std.specs.Prelude.{cond, ◌&&◌, List, ℕ, leb, length}
use Rattle.event.specs.Kinds.{whole_of}
use Rattle.event.specs.Rows.{known}

-- How many octets of s, what is left of a file, are the next event: the kind's whole length where the kind is known and so many
-- octets are there, else all of s.
unfoldable pub next_length : List ℕ → ℕ
next_length s = cond (known s && leb (whole_of s) (length s)) (whole_of s) (length s)
