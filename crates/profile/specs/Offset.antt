-- Minutes from universal time: a number, or a minus sign and a number that is not zero.
use Rattle.std.specs.Prelude.{Bool, not, cond, List, ℕ, ◌+◌, ◌-◌, leb, eqb, get_or, drop, Option, None}
use Rattle.profile.specs.Fault.{unless}
use Rattle.profile.specs.Number.{digits, number_fault, numeral, at_most}
use Rattle.profile.specs.declared.fault.Fault.{Fault}
use Rattle.profile.specs.declared.fault.Fault.TheVariants.{Number, Zero}

-- '-' at the front
abbrev pub minus : List ℕ → Bool
minus v = eqb (get_or v 0 0) 45

unfoldable pub west_fault : List ℕ → Option Fault
west_fault v = unless (digits v) Number (unless (not (eqb (get_or v 0 0) 48)) Zero None)

unfoldable pub offset_fault : List ℕ → Option Fault
offset_fault v = cond (minus v) (west_fault (drop 1 v)) (number_fault v)

-- A profile keeps the offset as 720 more. What does not fit becomes 65535, which no profile in range has.
unfoldable pub east : ℕ → ℕ
east n = at_most 65535 (n + 720)

unfoldable pub west : ℕ → ℕ
west n = cond (leb n 720) (720 - n) 65535

unfoldable pub zone_of : List ℕ → ℕ
zone_of v = cond (minus v) (west (numeral 0 (drop 1 v))) (east (numeral 0 v))
