-- `keys::all_distinct` meets its contract. The loop's invariant: what is left to look at decides.
use Rattle.std.proofs.Common.{◌≡◌, length}
use Rattle.keys.specs.Slots.{distinct}
use Rattle.keys.proofs.all_distinct.Given as goal

abbrev pub invariant-loop-s : goal.invariant-loop-s
invariant-loop-s g l = distinct g.K.PartialEq.eq l.slots ≡ distinct g.K.PartialEq.eq l.rest

abbrev pub decreases-loop-s : goal.decreases-loop-s
decreases-loop-s g l = length l.rest
