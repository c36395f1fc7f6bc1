-- The refusals of an event's octets, in their order.
use Rattle.std.specs.Prelude.{Bool, not, cond, ◌&&◌, List, [], ◌∷◌, ℕ, ltb, eqb, length, get_or}
use Rattle.event.specs.Kinds.{row_of, is_row, the_row, whole_of}
use Rattle.event.specs.declared.Refusal.{Refusal}
use Rattle.event.specs.declared.Refusal.TheVariants.{TooShort, NoMark, UnknownKind, WrongLength, OutOfRange}

-- a refusal: its number, and whether it fits
pub data Row : Type 0 where
  row : ℕ → Bool → Row

-- the number of the first that fits, and 0 where none does
unfoldable pub first_fit : List Row → ℕ
first_fit [] = 0
first_fit (row n t ∷ rs) = cond t n (first_fit rs)

-- C3 5E
unfoldable pub marked : List ℕ → Bool
marked s = eqb (get_or s 0 0) 0xC3 && eqb (get_or s 1 0) 0x5E

-- a row of the table of kinds has its number
unfoldable pub known : List ℕ → Bool
known s = is_row (row_of s)

-- the kind's length
unfoldable pub measured : List ℕ → Bool
measured s = eqb (length s) (whole_of s)

-- the kind's fields in range
unfoldable pub fields_ok : List ℕ → Bool
fields_ok s = (the_row (row_of s)).in_range s

unfoldable pub rows : List ℕ → List Row
rows s =
    row 1 (ltb (length s) 7)
    ∷ row 2 (not (marked s))
    ∷ row 3 (not (known s))
    ∷ row 4 (not (measured s))
    ∷ row 5 (not (fields_ok s))
    ∷ []

-- ---- by name

abbrev pub number_of : Refusal → ℕ
number_of TooShort = 1
number_of NoMark = 2
number_of UnknownKind = 3
number_of WrongLength = 4
number_of OutOfRange = 5

-- the refusal with the number of a row
unfoldable pub refusal_of : ℕ → Refusal
refusal_of n = cond (eqb n 1) TooShort (cond (eqb n 2) NoMark (cond (eqb n 3) UnknownKind (cond (eqb n 4) WrongLength OutOfRange)))
