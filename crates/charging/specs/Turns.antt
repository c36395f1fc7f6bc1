-- A file handed over in windows: at each turn some of what is left of it is in hand, and the window's events are charged.
use Rattle.std.specs.Prelude.{Bool, ◌&&◌, List, [], ◌∷◌, ℕ, leb, length, take, drop}
use Rattle.node.specs.declared.Node.{Node}
use Rattle.charging.specs.Done.{Done, nothing, and_then}
use Rattle.charging.specs.Window.{here}

-- A turn: how many octets of what is left are in hand, or all if there are fewer; whether the file's end was looked for; and how much room there is
-- for what is written.
pub record Turn : Type 0 where
  pub hand : ℕ
  pub looked : Bool
  pub room : ℕ

-- the end is seen where it was looked for and lies in the window
abbrev pub in_turn : Turn → Node → List ℕ → Done
in_turn t n s = here (t.looked && leb (length s) t.hand) n (take t.hand s) t.room

-- turn after turn, each behind what the last one accepted, up to a refusal
unfoldable pub in_turns : List Turn → Node → List ℕ → Done
in_turns [] n s = nothing n
in_turns (t ∷ ts) n s = and_then (in_turn t n s) (in_turns ts (in_turn t n s).node (drop (in_turn t n s).came s))
