-- `container::open::time_met` meets its contract.
use Rattle.container.proofs.open.time_met.Goals as goal

pub returns : goal.returns
returns c = rw c.saturating_sub.ensures
