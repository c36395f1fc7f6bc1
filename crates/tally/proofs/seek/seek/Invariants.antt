-- `tally::seek::seek` meets its contract: what is left to look through gives the same, and each field has two octets or more.
use Rattle.std.proofs.Common.{◌-◌, length}
use Rattle.tally.proofs.Seeks.{Seeking}
use Rattle.tally.proofs.seek.seek.Given as goal

abbrev pub invariant-loop-at : goal.invariant-loop-at
invariant-loop-at l = Seeking l.s l.from l.tag l.at

abbrev pub decreases-loop-at : goal.decreases-loop-at
decreases-loop-at l = length l.s - l.at
