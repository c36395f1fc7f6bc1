-- Octets up to the first mark, and past it.
use Rattle.std.specs.Prelude.{Bool, true, false, cond, ◌&&◌, ◌||◌, List, [], ◌∷◌, ℕ, eqb}

-- the marks: a line feed after a line, a space before a value and between the numbers of one
abbrev pub feed : ℕ
feed = 10

abbrev pub space : ℕ
space = 32

-- is there an x?
unfoldable pub has : ℕ → List ℕ → Bool
has x [] = false
has x (y ∷ s) = eqb y x || has x s

-- what stands before the first x; all where there is none
unfoldable pub up_to : ℕ → List ℕ → List ℕ
up_to x [] = []
up_to x (y ∷ s) = cond (eqb y x) [] (y ∷ up_to x s)

-- what stands after the first x; nothing where there is none
unfoldable pub past : ℕ → List ℕ → List ℕ
past x [] = []
past x (y ∷ s) = cond (eqb y x) s (past x s)

-- does s begin with the name?
unfoldable pub begins : List ℕ → List ℕ → Bool
begins [] s = true
begins (x ∷ n) [] = false
begins (x ∷ n) (y ∷ s) = eqb y x && begins n s
