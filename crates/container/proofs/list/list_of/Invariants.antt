-- `container::list::list_of` meets its contract: a law for each answer. The loop's invariant: what was read so far and what is left
-- are the whole.
use Prim.Native.Nat.{◌-◌}
use Rattle.ber.proofs.Runs.{SoFar}
use Rattle.container.proofs.Lists.{listing}
use Rattle.container.proofs.list.list_of.Given as goal

abbrev pub invariant-loop-at : goal.invariant-loop-at
invariant-loop-at l = SoFar listing l.s l.v l.n l.at l.last

abbrev pub decreases-loop-at : goal.decreases-loop-at
decreases-loop-at l = 15 - l.n
