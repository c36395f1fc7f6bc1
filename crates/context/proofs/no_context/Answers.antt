-- `context::no_context` meets its contract.
use Rattle.octets.specs.Filled.{fill_to}
use Rattle.context.proofs.no_context.Goals as goal

pub returns : goal.returns
unfolding fill_to
returns c = rw c.no_open-none.ensures
