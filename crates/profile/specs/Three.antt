-- A set of limits: three numbers, with one space between them.
use Rattle.std.specs.Prelude.{List, ℕ, ◌-◌, ◌^◌, Option}
use Rattle.std.specs.Option.{option_or}
use Rattle.limits.specs.declared.Limits.{Limits}
use Rattle.profile.specs.Cut.{space, up_to, past}
use Rattle.profile.specs.Number.{number_fault, numeral, at_most}
use Rattle.profile.specs.declared.fault.Fault.{Fault}

-- What follows the second space is the third number: one more space in it is no digit. Where a space is missing, what follows is empty.
abbrev pub volume_in : List ℕ → List ℕ
volume_in v = up_to space v

abbrev pub seconds_in : List ℕ → List ℕ
seconds_in v = up_to space (past space v)

abbrev pub changes_in : List ℕ → List ℕ
changes_in v = past space (past space v)

-- what is wrong with the first of them that is bad
unfoldable pub three_fault : List ℕ → Option Fault
three_fault v = option_or (number_fault (volume_in v)) (option_or (number_fault (seconds_in v)) (number_fault (changes_in v)))

unfoldable pub limits_of : List ℕ → Limits
limits_of v =
    record {
      volume = at_most (2 ^ 64 - 1) (numeral 0 (volume_in v));
      seconds = at_most (2 ^ 32 - 1) (numeral 0 (seconds_in v));
      changes = at_most 255 (numeral 0 (changes_in v));
    }
