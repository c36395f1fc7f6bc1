-- `ber::int::width` meets its contract: what is counted and what is left to count make the whole.
use mathlib.Core.Path.{◌≡◌}
use Prim.Native.Nat.{◌+◌}
use Rattle.ber.specs.Int.{int_width}
use Rattle.ber.proofs.int.width.Given as goal

abbrev pub invariant-loop-w : goal.invariant-loop-w
invariant-loop-w l = l.n + int_width l.w ≡ 1 + int_width l.v

abbrev pub decreases-loop-w : goal.decreases-loop-w
decreases-loop-w l = l.w
