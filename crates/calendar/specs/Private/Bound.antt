-- What a function that computes a number promises.
use Rattle.std.specs.Prelude.{◌≡◌, ℕ, ◌≤◌}

-- The answer r is v, and at most m: the second is what a caller needs to go on computing with it.
pub record Is (v m r : ℕ) : Type 0 where
  pub same : r ≡ v
  pub most : r ≤ m
