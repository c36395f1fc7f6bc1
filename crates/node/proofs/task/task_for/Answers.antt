-- `node::task::task_for` meets its contract.
use mathlib.Core.Path.{sym}
use Rattle.node.proofs.Brings.{fair_meaning}
use Rattle.node.proofs.task.task_for.Goals as goal

pub task_of-requires : goal.task_of-requires
task_of-requires c = rw c.meaning_of.ensures (fair_meaning c.args.event.now _ (sym c.in_ok-t.ensures))
