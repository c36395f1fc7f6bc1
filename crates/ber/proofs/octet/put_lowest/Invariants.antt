-- `ber::octet::put_lowest` meets its contract: what is still to write, and then the buffer from there on, make the whole.
use mathlib.Core.Path.{◌≡◌}
use mathlib.Core.List.{◌++◌}
use Prim.Native.Nat.{◌≤◌}
use lib.ListN.{length, drop}
use Rattle.ber.specs.Int.{lowest}
use Rattle.ber.proofs.octet.put_lowest.Given as goal

abbrev pub invariant-loop-i : goal.invariant-loop-i
invariant-loop-i l = (l.i ≤ length l.out) × (length l.out ≡ length l.initial.out) × (lowest l.i l.w ++ drop l.i l.out ≡ lowest l.n l.v ++ drop l.n l.initial.out)
