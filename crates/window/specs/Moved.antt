-- What is left of a window, moved to its front.
use Rattle.std.specs.Prelude.{◌≡◌, ℕ, ◌-◌, List, ◌++◌, length, take, drop}
use Rattle.window.specs.declared.Place.{Place}

-- n octets from a place on, or as many as are there, stand at the front; all later octets are as before
unfoldable pub moved_of : ℕ → ℕ → List ℕ → List ℕ
moved_of at n w = take n (drop at w) ++ drop (length (take n (drop at w))) w

-- the place at the front where as much is left, in the same place of the file
abbrev pub at_front : Place → Place
at_front p = record { at = 0; end = p.end - p.at; offset = p.offset }

pub record Moves (w w' : List ℕ) (p q : Place) : Type 0 where
  pub window : w' ≡ moved_of p.at (p.end - p.at) w
  pub place : q ≡ at_front p
