-- A list filled up to a length.
use Rattle.std.specs.Prelude.{List, ◌++◌, ℕ, ◌-◌, length, replicate}

-- xs and as many d as fill it up to n
unfoldable pub fill_to : {A : Type 0} → ℕ → A → List A → List A
fill_to n d xs = xs ++ replicate (n - length xs) d
