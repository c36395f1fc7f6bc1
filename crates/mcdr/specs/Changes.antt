-- The location changes of a record: the rules between them, what they come to, and their octets.
use Rattle.std.specs.Prelude.{Bool, true, ◌&&◌, List, [], ◌∷◌, ◌++◌, ℕ, zero, suc, ◌-◌, eqb, length}
use Rattle.format.specs.Format.{Fmt}
use Rattle.ber.specs.Field.{many}
use Rattle.mcdr.specs.declared.Place.{Place}
use Rattle.mcdr.specs.declared.Change.{Change}
use Rattle.mcdr.specs.Change.{same_place, no_place, no_change, change_ok, follows, change_tag, change}

-- "each to another place than the one before (the opening's first), times in order from the opening, one offset throughout"
unfoldable pub changes_ok : ℕ → ℕ → Place → List Change → Bool
changes_ok zone from p [] = true
changes_ok zone from p (c ∷ cs) = follows zone from p c && changes_ok zone c.time.seconds c.place cs

-- ---- what they come to

-- the time of the last one, and that of the opening where there is none
unfoldable pub last_time : ℕ → List Change → ℕ
last_time t [] = t
last_time t (c ∷ cs) = last_time c.time.seconds cs

-- the place in force after them, that of the opening where there is none
unfoldable pub place_now : Place → List Change → Place
place_now p [] = p
place_now p (c ∷ cs) = place_now c.place cs

-- ---- their octets: one after another, each under 30

-- 1 to 15 of them, each of 18 octets at most
unfoldable pub changes : Fmt (List Change)
changes = many change_tag (λ b. change) no_change 18 1 15

-- each has a form
unfoldable pub each_ok : List Change → Bool
each_ok [] = true
each_ok (c ∷ cs) = change_ok c && each_ok cs

-- ---- a list in an array of 15

-- n places that are not used
unfoldable pub no_changes : ℕ → List Change
no_changes zero = []
no_changes (suc n) = no_change ∷ no_changes n

-- a list filled up to 15
abbrev pub padded : List Change → List Change
padded cs = cs ++ no_changes (15 - length cs)

-- a change of which every field is zero
unfoldable pub is_blank : Change → Bool
is_blank c = same_place c.place no_place && eqb c.time.seconds 0 && eqb c.time.zone 0

-- each is such a one
unfoldable pub blanks : List Change → Bool
blanks [] = true
blanks (c ∷ cs) = is_blank c && blanks cs
