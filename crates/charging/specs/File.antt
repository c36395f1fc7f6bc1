-- A file of events charged: "a file of events one after another, writes the record list and stops at the first refusal" (01). Each event is
-- taken by the node that the last one handed back.
use Rattle.std.specs.Prelude.{cond, List, [], ℕ, zero, suc, leb, eqb, length, take, drop, replicate}
use Rattle.event.specs.Framing.{next_length}
use Rattle.node.specs.declared.Node.{Node}
use Rattle.node.specs.Step.{step_of}
use Rattle.charging.specs.Done.{Done, nothing, and_then}

-- the next event of what is left of a file
abbrev pub next_event : List ℕ → List ℕ
next_event s = take (next_length s) s

-- room for what one event can write: 16 records of 1,024 octets, each after its mark (that it is enough is a theorem, `room_enough`)
unfoldable pub roomy : List ℕ
roomy = replicate 16416 0

-- what a call makes of an event of so many octets: answer, node, written length, buffer
abbrev pub taken : Node → ℕ → ℕ × (Node × (ℕ × List ℕ)) → Done
taken n m r =
    cond (eqb r.0 0)
    (record { answer = 0; node = r.1.0; out = take r.1.1.0 r.1.1.1; came = m; events = 1; last = m })
    (record { answer = r.0; node = n; out = []; came = 0; events = 0; last = 0 })

-- the next event charged: framed, and taken by the node
unfoldable pub first_of : Node → List ℕ → Done
first_of n s = taken n (next_length s) (step_of n (next_event s) roomy)

-- all of them, of k octets at most
unfoldable pub charged_in : ℕ → Node → List ℕ → Done
charged_in zero n s = nothing n
charged_in (suc k) n s =
    cond (leb 1 (length s))
    (and_then (first_of n s) (charged_in k (first_of n s).node (drop (first_of n s).came s)))
    (nothing n)

unfoldable pub charged : Node → List ℕ → Done
charged n s = charged_in (length s) n s
