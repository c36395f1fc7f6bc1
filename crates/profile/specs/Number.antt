-- Numbers in decimal digits.
use Rattle.std.specs.Prelude.{Bool, not, cond, ◌&&◌, List, [], ◌∷◌, ℕ, ◌+◌, ◌-◌, ◌*◌, leb, ltb, eqb, length, get_or, ◌^◌, Option, None, Some, Result, Ok, Err}
use Rattle.octets.specs.Chars.{all_of, digit}
use Rattle.profile.specs.Fault.{unless}
use Rattle.profile.specs.declared.fault.Fault.{Fault}
use Rattle.profile.specs.declared.fault.Fault.TheVariants.{Number, Zero}

-- a zero before another digit
abbrev pub padded : List ℕ → Bool
padded v = eqb (get_or v 0 0) 48 && ltb 1 (length v)

-- one digit or more and nothing else
abbrev pub digits : List ℕ → Bool
digits v = all_of digit v && leb 1 (length v)

-- without a leading zero
unfoldable pub number_fault : List ℕ → Option Fault
number_fault v = unless (digits v) Number (unless (not (padded v)) Zero None)

-- the number that digits spell, after n
unfoldable pub numeral : ℕ → List ℕ → ℕ
numeral n [] = n
numeral n (x ∷ v) = numeral (n * 10 + (x - 48)) v

-- a number that a type holds: its largest where it does not fit
unfoldable pub at_most : ℕ → ℕ → ℕ
at_most most n = cond (leb n most) n most

-- A number as it is read: what is wrong with it, or what it is.
abbrev pub read_as : Option Fault → ℕ → Result ℕ Fault
read_as (Some f) n = Err f
read_as None n = Ok n

abbrev pub number_of : List ℕ → Result ℕ Fault
number_of v = read_as (number_fault v) (at_most (2 ^ 64 - 1) (numeral 0 v))
