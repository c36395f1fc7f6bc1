-- The sets of limits of a node (02, W6): "up to 8 sets of the three limits, each with an edition from 1, replaced whole by an event that names
-- the set and the next edition".
use Rattle.std.specs.Prelude.{Bool, true, false, ◌&&◌, List, [], ◌∷◌, ℕ, zero, suc, ◌+◌, leb, eqb, get_or, set}
use Rattle.limits.specs.declared.Limits.{Limits}
use Rattle.limits.specs.declared.LimitSet.{LimitSet}
use Rattle.limits.specs.Limits.{limits_ok, no_limits, blank_limits}

-- ---- the sets that a node has: "1 to 8 numbered from 1"

-- of so many sets, the one of a number
unfoldable pub has_set : ℕ → ℕ → Bool
has_set count number = leb 1 number && leb number count

-- what stands where there is no set: all zero
abbrev pub no_set : LimitSet
no_set = record { edition = 0; limits = no_limits }

-- A set that is given: "edition 1". Where none is given there is no edition.
abbrev pub given : Bool → Limits → LimitSet
given true l = record { edition = 1; limits = l }
given false l = record { edition = 0; limits = l }

-- the sets that a fresh node is given: so many, numbered from 1, each with edition 1
unfoldable pub first_editions : ℕ → List Limits → List LimitSet
first_editions n [] = []
first_editions zero (l ∷ ls) = given false l ∷ first_editions zero ls
first_editions (suc n) (l ∷ ls) = given true l ∷ first_editions n ls

-- "1 to 8 sets in range, editions 1 to 65,535, unused sets zero". (An edition has two octets, so none is above 65,535.)
unfoldable pub set_ok : LimitSet → Bool
set_ok s = leb 1 s.edition && limits_ok s.limits

unfoldable pub blank_set : LimitSet → Bool
blank_set s = eqb s.edition 0 && blank_limits s.limits

-- So many are there, and as they must be, and the others are zero.
unfoldable pub used_ok : ℕ → List LimitSet → Bool
used_ok n [] = eqb n 0
used_ok zero (s ∷ ss) = blank_set s && used_ok zero ss
used_ok (suc n) (s ∷ ss) = set_ok s && used_ok n ss

unfoldable pub sets_ok : ℕ → List LimitSet → Bool
sets_ok count ss = leb 1 count && leb count 8 && used_ok count ss

-- ---- what is in force, and what replaces it

-- the set of a number, which counts from 1
unfoldable pub set_at : ℕ → List LimitSet → LimitSet
set_at zero ss = no_set
set_at (suc i) ss = get_or ss i no_set

unfoldable pub limits_of : ℕ → List LimitSet → Limits
limits_of number ss = (set_at number ss).limits

-- "an edition that is not one more than the set's": after 65,535 none is, since an edition has two octets
unfoldable pub is_next : ℕ → ℕ → List LimitSet → Bool
is_next number edition ss = eqb edition ((set_at number ss).edition + 1)

-- "replaced whole"
unfoldable pub replaced : ℕ → LimitSet → List LimitSet → List LimitSet
replaced zero s ss = ss
replaced (suc i) s ss = set ss i s
