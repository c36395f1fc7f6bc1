-- `window::read_full` is safe and ends: each turn puts an octet at least.
use Rattle.std.proofs.Common.{length, ◌-◌, ◌≤◌}
use Rattle.window.proofs.read_full.Given as goal

abbrev pub invariant-loop-done : goal.invariant-loop-done
invariant-loop-done g l = l.done ≤ length l.buffer

abbrev pub decreases-loop-done : goal.decreases-loop-done
decreases-loop-done g l = length l.initial.buffer - l.done
