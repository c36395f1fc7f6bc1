-- `subscriber::hear::opened` meets its contract.
use Rattle.mcdr.specs.Changes.{no_changes}
use Rattle.subscriber.proofs.hear.opened.Goals as goal

pub returns : goal.returns
unfolding no_changes
returns c = rw c.no_change.ensures
