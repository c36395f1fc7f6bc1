-- `container::list::put_list` meets its contract. The loop's invariant: the containers passed have their forms, which stand at the front
-- of the array; each is written into the part after them.
use lib.ListN.{take}
use Rattle.ber.proofs.Runs.{Filling}
use Rattle.container.proofs.Lists.{listing, writing}
use Rattle.container.proofs.list.put_list.Given as goal

abbrev pub invariant-loop-c : goal.invariant-loop-c
invariant-loop-c l = Filling listing writing (take l.n l.v) l.c-index l.initial.list l.list l.end l.last
