-- `charging::charge` meets its contract.
use Prim.Native.Nat.{◌-◌}
use lib.ListN.{length}
use Rattle.charging.proofs.Goes.{Going}
use Rattle.charging.proofs.charge.Given as goal

abbrev pub invariant-loop-n : goal.invariant-loop-n
invariant-loop-n l =
    Going l.initial.now l.held l.ended l.initial.out l.out l.now l.came l.events l.last l.written

abbrev pub decreases-loop-n : goal.decreases-loop-n
decreases-loop-n l = length l.held - l.came
