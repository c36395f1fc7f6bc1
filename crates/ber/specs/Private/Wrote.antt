-- What a writer does where it has room: what is left of `Puts` (Write.antt) there.
use Rattle.std.specs.Prelude.{◌≡◌, List, ◌++◌, ℕ, ◌+◌, ◌≤◌, length, take, drop, Option, IsSomeAnd}

-- A writer of x is handed a buffer b and a place, leaves b', and answers the place r after x. Before the place and from r on b' is as b was.
pub record Put (x b b' : List ℕ) (at r : ℕ) : Type 0 where
  pub end : r ≡ at + length x
  pub fits : r ≤ length b
  pub same : length b' ≡ length b
  pub buf : b' ≡ take at b ++ x ++ drop r b

-- The same, if there is room: composed writers then need no facts about room between them.
pub record Wrote (x b b' : List ℕ) (at : ℕ) (r : Option ℕ) : Type 0 where
  pub room : at + length x ≤ length b → IsSomeAnd r (λ n. Put x b b' at n)
  pub same : length b' ≡ length b
