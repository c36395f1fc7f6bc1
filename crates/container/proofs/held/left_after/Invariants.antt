-- `container::held::left_after` meets its contract. The loop's invariant: the volumes so far are off the limit.
use Rattle.std.proofs.Common.{◌≡◌, ◌-◌, take}
use Rattle.container.specs.Open.{volume_of}
use Rattle.container.proofs.held.left_after.Given as goal

abbrev pub invariant-loop-c : goal.invariant-loop-c
invariant-loop-c l = l.left ≡ l.limit - volume_of (take l.c-index l.c-items)
