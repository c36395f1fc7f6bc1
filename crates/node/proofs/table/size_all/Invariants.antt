-- `node::table::size_all` meets its contract.
use Rattle.history.proofs.Ranges.{Sizing}
use Rattle.node.specs.Private.Range.{slot_out}
use Rattle.node.proofs.table.size_all.Given as goal

abbrev pub invariant-loop-c : goal.invariant-loop-c
invariant-loop-c l = Sizing 1026 (slot_out l.p l.g l.t l.m) 0 16 l.cs l.c-index l.n
