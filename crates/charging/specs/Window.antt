-- The events that lie in a window of a file charged, one after another.
use Rattle.std.specs.Prelude.{◌≡◌, Bool, cond, ◌&&◌, ◌||◌, List, ◌++◌, ℕ, zero, suc, ◌-◌, leb, length, drop}
use Rattle.node.specs.declared.Node.{Node}
use Rattle.charging.specs.declared.Charged.{Charged}
use Rattle.charging.specs.Done.{Done, nothing, and_then}
use Rattle.charging.specs.File.{first_of}

-- The next event is taken where so many octets are in hand, and there is so much room: something is in hand; it is the rest of the file, or has the
-- 292 octets of the longest event (an activate whose n is 255); and there is room for whatever an event can write.
abbrev pub ready : Bool → ℕ → ℕ → Bool
ready ended here room = leb 1 here && (ended || leb 292 here) && leb 16416 room

-- the events of s, of k octets at most, with so much room for what they write
unfoldable pub here_in : ℕ → Bool → Node → List ℕ → ℕ → Done
here_in zero ended n s room = nothing n
here_in (suc k) ended n s room =
    cond (ready ended (length s) room)
    (and_then (first_of n s) (here_in k ended (first_of n s).node (drop (first_of n s).came s) (room - length (first_of n s).out)))
    (nothing n)

unfoldable pub here : Bool → Node → List ℕ → ℕ → Done
here ended n s room = here_in (length s) ended n s room

-- the answer, and the lent buffer: what was written stands at its front, all later octets are as before
unfoldable pub told : Done → List ℕ → Charged × List ℕ
told d b = (
  record { answer = d.answer; node = d.node; came = d.came; events = d.events; last = d.last; written = length d.out },
  d.out ++ drop (length d.out) b,
)

pub record Charges (n : Node) (s : List ℕ) (ended : Bool) (b b' : List ℕ) (r : Charged) : Type 0 where
  pub is : ◌≡◌ {A = Charged × List ℕ} (r, b') (told (here ended n s (length b)) b)
