-- Addresses: four numbers from 0 to 255, with three dots between them.
use Rattle.std.specs.Prelude.{Bool, ◌&&◌, List, ℕ, ◌+◌, ◌*◌, leb, is_none}
use Rattle.profile.specs.Cut.{up_to, past}
use Rattle.profile.specs.Number.{number_fault, numeral, at_most}

-- '.'
abbrev pub dot : ℕ
dot = 46

unfoldable pub octet_ok : List ℕ → Bool
octet_ok v = is_none (number_fault v) && leb (numeral 0 v) 255

unfoldable pub octet_of : List ℕ → ℕ
octet_of v = at_most 255 (numeral 0 v)

-- What follows the third dot is the fourth number: one more dot in it is no digit. Where a dot is missing, what follows is empty.
abbrev pub address_ok : List ℕ → Bool
address_ok v =
    octet_ok (up_to dot v)
    && octet_ok (up_to dot (past dot v))
    && octet_ok (up_to dot (past dot (past dot v)))
    && octet_ok (past dot (past dot (past dot v)))

abbrev pub address_of : List ℕ → ℕ
address_of v =
    ((octet_of (up_to dot v) * 256
    + octet_of (up_to dot (past dot v))) * 256
    + octet_of (up_to dot (past dot (past dot v)))) * 256
    + octet_of (past dot (past dot (past dot v)))
