-- `node::table::hear_all` meets its contract.
use Rattle.history.proofs.Ranges.{Hearing}
use Rattle.node.specs.Private.Range.{slot_next, slot_out}
use Rattle.node.proofs.Ranges.{puts}
use Rattle.node.proofs.table.hear_all.Given as goal

abbrev pub invariant-loop-c : goal.invariant-loop-c
invariant-loop-c l = Hearing puts (slot_next l.p l.g l.t l.m) (slot_out l.p l.g l.t l.m) 0 16 l.initial.cs l.initial.out l.out l.cs l.c-index l.at
