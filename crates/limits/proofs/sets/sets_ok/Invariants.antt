-- `limits::sets::sets_ok` meets its contract. The loop's invariant: what is left to look at decides.
use mathlib.Core.Path.{◌≡◌}
use Prim.Native.Nat.{◌-◌}
use lib.ListN.{drop}
use Rattle.limits.specs.Sets.{used_ok}
use Rattle.limits.proofs.sets.sets_ok.Given as goal

abbrev pub invariant-loop-i : goal.invariant-loop-i
invariant-loop-i l = used_ok (l.count - l.i) (drop l.i l.s-items) ≡ used_ok l.count l.s-items
