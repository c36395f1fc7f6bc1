-- `mcdr::list::put_list` meets its contract. The loop's invariant: the changes passed stand at the front of the array; each is written into
-- the part after them.
use lib.ListN.{take}
use Rattle.ber.proofs.Runs.{Filling}
use Rattle.mcdr.specs.declared.Change.{Change}
use Rattle.mcdr.proofs.Lists.{listing, writing}
use Rattle.mcdr.proofs.list.put_list.Given as goal

abbrev pub invariant-loop-c : goal.invariant-loop-c
invariant-loop-c l = (z : Change) × Filling listing writing (take l.n l.v) l.c-index l.initial.list l.list l.end z
