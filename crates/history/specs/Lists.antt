-- Short words for lists and for what may be missing.
use Rattle.std.specs.Prelude.{ℕ, suc, ◌+◌, ◌≤◌, Bool, true, false, List, [], ◌∷◌, ◌++◌}
use Rattle.std.specs.Prelude.{Option, None, Some}

-- What the elements of a list yield, in order.
abbrev pub each : {A B : Type 0} → (A → List B) → List A → List B
each f [] = []
each f (a ∷ rest) = f a ++ each f rest

abbrev pub sum_of : {A : Type 0} → (A → ℕ) → List A → ℕ
sum_of f [] = 0
sum_of f (a ∷ rest) = f a + sum_of f rest

-- Each element of a list has the property.
abbrev pub All : {A : Type 0} → (A → Type 0) → List A → Type 0
All P [] = Unit {0}
All P (a ∷ rest) = P a × All P rest

-- Each element but the last has the property.
abbrev pub Earlier : {A : Type 0} → (A → Type 0) → List A → Type 0
Earlier P [] = Unit {0}
Earlier P (a ∷ []) = Unit {0}
Earlier P (a ∷ (b ∷ rest)) = P a × Earlier P (b ∷ rest)

-- One thing, if there is a number for it.
abbrev pub if_any : {A : Type 0} → Option ℕ → (ℕ → A) → List A
if_any None f = []
if_any (Some k) f = f k ∷ []

abbrev pub is_some : {A : Type 0} → Option A → Bool
is_some None = false
is_some (Some a) = true

-- The first if there is one, and else the second.
abbrev pub or_else : Option ℕ → Option ℕ → Option ℕ
or_else None o = o
or_else (Some k) o = Some k

-- k, and one more if there is something.
abbrev pub count : Option ℕ → ℕ → ℕ
count None k = k
count (Some o) k = suc k

abbrev pub test : Bool → ℕ → Option ℕ
test true k = Some k
test false k = None

-- Numbers that do not fall, none of them below k or above l: times, from an opening to a closing.
abbrev pub NotFalling : ℕ → List ℕ → ℕ → Type 0
NotFalling k [] l = k ≤ l
NotFalling k (x ∷ xs) l = (k ≤ x) × NotFalling x xs l
