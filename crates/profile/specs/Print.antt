-- The text of a profile.
use Rattle.std.specs.Prelude.{cond, List, [], ◌∷◌, ◌++◌, map, ℕ, zero, suc, ◌+◌, ◌-◌, ◌/◌, ◌%◌, ◌^◌, leb, ltb, eqb, take}
use Rattle.limits.specs.declared.Limits.{Limits}
use Rattle.profile.specs.Cut.{feed, space}
use Rattle.profile.specs.Address.{dot}
use Rattle.profile.specs.Text.{Row, rows_of}
use Rattle.profile.specs.declared.Profile.{Profile}

-- the decimal digits of a number below 10 ^ k, without leading zeros
unfoldable pub digits_in : ℕ → ℕ → List ℕ
digits_in zero n = []
digits_in (suc k) n = cond (ltb n 10) ((n + 48) ∷ []) (digits_in k (n / 10) ++ (n % 10 + 48) ∷ [])

-- every number of 64 bits has at most twenty
abbrev pub number_text : ℕ → List ℕ
number_text n = digits_in 20 n

unfoldable pub address_text : ℕ → List ℕ
address_text a =
    number_text (a / 2 ^ 24)
    ++ dot ∷ (number_text (a / 2 ^ 16 % 256)
    ++ dot ∷ (number_text (a / 2 ^ 8 % 256)
    ++ dot ∷ number_text (a % 256)))

-- the three limits of a set
unfoldable pub limits_text : Limits → List ℕ
limits_text l = number_text l.volume ++ space ∷ (number_text l.seconds ++ space ∷ number_text l.changes)

-- the offset is kept as 720 more
unfoldable pub offset_text : ℕ → List ℕ
offset_text z = cond (leb 720 z) (number_text (z - 720)) (45 ∷ number_text (720 - z))

-- an empty node ID has no space before it
unfoldable pub node_text : List ℕ → ℕ → List ℕ
node_text node n = cond (eqb n 0) [] (space ∷ take n node)

-- a line for each row: its name, what follows it, and a line feed
unfoldable pub lines_of : List Row → List (List ℕ) → List ℕ
lines_of [] ts = []
lines_of (r ∷ rs) [] = []
lines_of (r ∷ rs) (t ∷ ts) = (r.name ++ t) ++ feed ∷ lines_of rs ts

-- what follows the name in the line of a set
abbrev pub limits_tail : Limits → List ℕ
limits_tail l = space ∷ limits_text l

-- and in every line: a line for each set that the profile has
abbrev pub tails_of : Profile → List (List ℕ)
tails_of p =
    (space ∷ address_text p.sgsn)
    ∷ (map limits_tail (take p.sets p.limits)
    ++ (space ∷ offset_text p.zone)
    ∷ node_text p.nodeid p.nodelen
    ∷ [])

unfoldable pub text_of : Profile → List ℕ
text_of p = lines_of (rows_of p.sets) (tails_of p)
