-- `container::open::opened` meets its contract.
use Rattle.container.specs.List.{no_containers}
use Rattle.container.proofs.open.opened.Goals as goal

pub returns : goal.returns
unfolding no_containers
returns c = rw c.no_container.ensures
