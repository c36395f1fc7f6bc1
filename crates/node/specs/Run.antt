-- Calls one after another, each on the node that the last one handed back, whatever it answered.
use Rattle.std.specs.Prelude.{List, [], ◌∷◌, ℕ}
use Rattle.event.specs.declared.Name.{Name}
use Rattle.node.specs.declared.Node.{Node}
use Rattle.node.specs.Step.{step_of}
use Rattle.node.specs.Batch.{batch_of}
use Rattle.node.specs.Held.{Octets}

-- A call is given what it is about, and the octets that stand in the lent buffer, however many.
pub data Call : Type 0 where
  -- an event's octets, whatever they are
  step : (event buffer : List ℕ) → Call
  -- a list of reports: whose, when, the numbers
  batch : (name : Name) (time : ℕ) (volumes buffer : List ℕ) → Call

-- the node that it hands back
unfoldable pub after_one : Node → Call → Node
after_one n (step s b) = (step_of n s b).1.0
after_one n (batch m t vs b) = (batch_of n m t vs b).left

-- the node after these calls
unfoldable pub after : Node → List Call → Node
after n [] = n
after n (c ∷ cs) = after (after_one n c) cs

-- what a call is given is octets, where it is given an event
abbrev pub Given : Call → Type 0
Given (step s b) = Octets s
Given (batch m t vs b) = Unit {0}
