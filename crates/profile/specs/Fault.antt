-- What is wrong, and what is wrong first.
use Rattle.std.specs.Prelude.{Bool, cond, ℕ, Option, None, Some}
use Rattle.profile.specs.declared.fault.Fault.{Fault}
use Rattle.profile.specs.declared.fault.BadLine.{BadLine}

-- the fault, unless the test is met, and then what else is wrong
unfoldable pub unless : Bool → Fault → Option Fault → Option Fault
unless met f g = cond met g (Some f)

-- the line of that number where something is wrong with it, and otherwise what is bad after it
unfoldable pub or_bad : ℕ → Option Fault → Option BadLine → Option BadLine
or_bad n None b = b
or_bad n (Some f) b = Some (record { line = n; fault = f })
