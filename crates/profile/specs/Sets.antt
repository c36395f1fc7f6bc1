-- The lines of the sets of limits: how many a text has, and what they say.
use Rattle.std.specs.Prelude.{cond, List, [], ◌∷◌, ℕ, zero, suc}
use Rattle.limits.specs.declared.Limits.{Limits}
use Rattle.limits.specs.Limits.{no_limits}
use Rattle.profile.specs.Cut.{feed, past, begins}
use Rattle.profile.specs.Three.{limits_of}
use Rattle.profile.specs.Line.{value_of, lines_past}

-- limits
abbrev pub limits_name : List ℕ
limits_name = 0x6C ∷ 0x69 ∷ 0x6D ∷ 0x69 ∷ 0x74 ∷ 0x73 ∷ []

-- how many of the next n lines begin with the name, up to the first that does not
unfoldable pub limits_ahead : ℕ → List ℕ → ℕ
limits_ahead zero s = 0
limits_ahead (suc n) s = cond (begins limits_name s) (suc (limits_ahead n (past feed s))) 0

-- The second line is that of a set, whatever it says; so is each of the next seven as long as it begins with the name.
unfoldable pub sets_in : List ℕ → ℕ
sets_in s = suc (limits_ahead 7 (lines_past 2 s))

-- In so many places the limits of k sets, the first of which is the line at the front; and none in the places after them.
unfoldable pub limits_in : ℕ → ℕ → List ℕ → List Limits
limits_in zero k s = []
limits_in (suc n) zero s = no_limits ∷ limits_in n zero s
limits_in (suc n) (suc k) s = limits_of (value_of s) ∷ limits_in n k (past feed s)
