-- A minute of reports in one call (02, W2): "a lent list of 32-bit numbers, uplink and downlink by turns, for one context at one time. One
-- call does what the same traffic events do one by one, stopping at the first refused pair".
use Rattle.std.specs.Prelude.{◌≡◌, not, cond, List, [], ◌∷◌, ◌++◌, map, ℕ, ◌+◌, ◌%◌, eqb, length, take, drop}
use Rattle.event.specs.declared.Name.{Name}
use Rattle.event.specs.Rows.{Row, row, first_fit}
use Rattle.event.specs.Traffic.{traffic_event}
use Rattle.node.specs.declared.Node.{Node}
use Rattle.node.specs.Sound.{sound}
use Rattle.node.specs.Step.{step_of}

-- ---- the events that a list stands for

-- "A context is named by charging ID and GGSN address."
abbrev pub name_with : ℕ → ℕ → Name
name_with id ggsn = record { id = id; ggsn = ggsn }

-- "uplink and downlink by turns"; a last number that is left over makes no pair
unfoldable pub pairs_of : List ℕ → List (ℕ × ℕ)
pairs_of [] = []
pairs_of (up ∷ []) = []
pairs_of (up ∷ (down ∷ vs)) = (up, down) ∷ pairs_of vs

-- the traffic events of a name at a time, one for each pair
abbrev pub reports_of : Name → ℕ → List ℕ → List (List ℕ)
reports_of m t vs = map (λ v. traffic_event m t v.0 v.1) (pairs_of vs)

-- ---- events one by one

-- What a call of several events answers: the number that stopped it, or 0; how many of them were applied; what it leaves of that which they
-- change (the node); the written length; the buffer.
pub record Done (A : Type 0) : Type 0 where
  pub answer : ℕ
  pub applied : ℕ
  pub left : A
  pub written : ℕ
  pub buffer : List ℕ

module _ {A : Type 0} where
  -- What is answered to the first (number, what it leaves, written length, buffer), and then what is done after it, in the room behind what it
  -- wrote. A refusal ends the call: what those before it did stays.
  unfoldable pub and_then : ℕ × (A × (ℕ × List ℕ)) → Done A → Done A
  and_then r d =
      cond (eqb r.0 0)
      (record {
        answer = d.answer;
        applied = d.applied + 1;
        left = d.left;
        written = r.1.1.0 + d.written;
        buffer = take r.1.1.0 r.1.1.1 ++ d.buffer;
      })
      (record { answer = r.0; applied = 0; left = r.1.0; written = r.1.1.0; buffer = r.1.1.1 })

  -- each on what the last one left and in the room that it left, up to the first that is refused
  unfoldable pub one_by_one : {E : Type 0} → (A → E → List ℕ → ℕ × (A × (ℕ × List ℕ))) → A → List E → List ℕ → Done A
  one_by_one step a [] b = record { answer = 0; applied = 0; left = a; written = 0; buffer = b }
  one_by_one step a (e ∷ es) b = and_then (step a e b) (one_by_one step (step a e b).1.0 es (drop (step a e b).1.1.0 (step a e b).1.1.1))

-- ---- the whole call

-- "a list of odd length is 14, after 13 and before all else, nothing applied; each pair's own numbers follow"
unfoldable pub list_refusals : Node → List ℕ → List Row
list_refusals n vs = row 13 (not (sound n)) ∷ row 14 (eqb (length vs % 2) 1) ∷ []

-- with the number of one of these, or 0 where neither fits
unfoldable pub batch_by : ℕ → Node → Name → ℕ → List ℕ → List ℕ → Done Node
batch_by k n m t vs b =
    cond (eqb k 0) (one_by_one step_of n (reports_of m t vs) b) (record { answer = k; applied = 0; left = n; written = 0; buffer = b })

-- reports vs of the context named m, all at the time t, on the node n, with b in the lent buffer
unfoldable pub batch_of : Node → Name → ℕ → List ℕ → List ℕ → Done Node
batch_of n m t vs b = batch_by (first_fit (list_refusals n vs)) n m t vs b

pub record Batches (n : Node) (m : Name) (t : ℕ) (vs b b' : List ℕ) (answer applied : ℕ) (n' : Node) (written : ℕ) : Type 0 where
  pub is : ◌≡◌ {A = Done Node} (record { answer = answer; applied = applied; left = n'; written = written; buffer = b' }) (batch_of n m t vs b)
