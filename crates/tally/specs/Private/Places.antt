-- What private functions answer. Where the definitions have the last octets of s, these have the place where they begin.
use Rattle.std.specs.Prelude.{ℕ, ◌-◌, List, length}
use Rattle.std.specs.Prelude.{Option, None, Some, Result, Ok, Err}
use Rattle.tally.specs.Seek.{Sought, before, unfit}
use Rattle.tally.specs.Say.{Saying, other, carries, broken}

abbrev pub sought_in : List ℕ → Sought → Result ℕ ℕ
sought_in s (before r) = Ok (length s - length r)
sought_in s (unfit r) = Err (length s - length r)

abbrev pub said_in : List ℕ → Saying → Result (Option ℕ) ℕ
said_in s other = Ok None
said_in s (carries n) = Ok (Some n)
said_in s (broken r) = Err (length s - length r)
