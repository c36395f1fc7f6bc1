-- Stepping from entry to entry, by marks and lengths alone, up to the first place where no entry stands. A step is fuel of one: an entry has
-- at least four octets, so as many steps as there are octets never run out (`ends` in proofs/Theorems.antt).
use Rattle.std.specs.Prelude.{Option, None, Some}
use Rattle.std.specs.Prelude.{List, [], ◌∷◌, ℕ, zero, suc, length}
use Rattle.entries.specs.declared.Entry.{Entry}
use Rattle.entries.specs.declared.Entry.TheVariants.{Found, End, NoMark, Cut, NoValue}
use Rattle.entries.specs.Entry.{entry_at}

-- where the record of an entry begins and ends, if an entry was found
abbrev pub place_of : Entry → Option (ℕ × ℕ)
place_of (Found a e) = Some (a, e)
place_of End = None
place_of (NoMark p) = None
place_of (Cut p) = None
place_of (NoValue p) = None

abbrev pub stepped : Option (ℕ × ℕ) → (ℕ → List (ℕ × ℕ)) → List (ℕ × ℕ)
stepped None next = []
stepped (Some p) next = p ∷ next p.1

abbrev pub stopped : Option (ℕ × ℕ) → ℕ → (ℕ → ℕ) → ℕ
stopped None at next = at
stopped (Some p) at next = next p.1

-- the places of the entries from a place on, in at most n steps
unfoldable pub places_from : ℕ → List ℕ → ℕ → List (ℕ × ℕ)
places_from zero s at = []
places_from (suc n) s at = stepped (place_of (entry_at s at)) (λ e. places_from n s e)

-- the place where stepping stops
unfoldable pub stop_from : ℕ → List ℕ → ℕ → ℕ
stop_from zero s at = at
stop_from (suc n) s at = stopped (place_of (entry_at s at)) at (λ e. stop_from n s e)

-- the same for the whole of s: the entries, where they stop, and how many they are
unfoldable pub places_of : List ℕ → List (ℕ × ℕ)
places_of s = places_from (length s) s 0

unfoldable pub stop_of : List ℕ → ℕ
stop_of s = stop_from (length s) s 0

unfoldable pub count_of : List ℕ → ℕ
count_of s = length (places_of s)
