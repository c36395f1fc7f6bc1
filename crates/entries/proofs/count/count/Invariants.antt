-- `entries::count::count` meets its contract: what was counted and what is left make the whole, and each entry has four octets or more.
use Prim.Native.Nat.{◌-◌}
use lib.ListN.{length}
use Rattle.entries.proofs.Counting.{Counted}
use Rattle.entries.proofs.count.count.Given as goal

abbrev pub invariant-loop-e : goal.invariant-loop-e
invariant-loop-e l = Counted l.s l.n l.at

abbrev pub decreases-loop-e : goal.decreases-loop-e
decreases-loop-e l = length l.s - l.at
