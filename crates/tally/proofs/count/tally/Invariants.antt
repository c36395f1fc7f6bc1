-- `tally::count::tally` meets its contract: what was counted and what is left give the whole, and a step goes over four octets or more.
use Rattle.std.proofs.Common.{◌-◌, length}
use Rattle.tally.proofs.Tallies.{Tallying}
use Rattle.tally.proofs.count.tally.Given as goal

abbrev pub invariant-loop-k : goal.invariant-loop-k
invariant-loop-k l = Tallying l.ended l.id l.ggsn l.s l.at l.count l.number

abbrev pub decreases-loop-k : goal.decreases-loop-k
decreases-loop-k l = length l.s - l.at
