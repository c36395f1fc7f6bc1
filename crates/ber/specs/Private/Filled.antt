-- An array in which contents are made ready.
use Rattle.std.specs.Prelude.{◌≡◌, List, ℕ, ◌≤◌, length, take}

-- its front holds x, at most m octets
pub record Filled (x : List ℕ) (m : ℕ) (b : List ℕ) (r : ℕ) : Type 0 where
  pub front : take r b ≡ x
  pub size : r ≡ length x
  pub most : length x ≤ m
  pub inside : r ≤ length b
