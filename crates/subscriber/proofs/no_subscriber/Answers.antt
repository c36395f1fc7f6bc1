-- `subscriber::no_subscriber` meets its contract.
use Rattle.octets.specs.Filled.{fill_to}
use Rattle.mcdr.specs.Changes.{no_changes}
use Rattle.subscriber.proofs.no_subscriber.Goals as goal

pub returns : goal.returns
unfolding fill_to no_changes
returns c = rw c.no_change.ensures
