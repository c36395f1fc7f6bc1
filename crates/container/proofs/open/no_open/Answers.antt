-- `container::open::no_open` meets its contract.
use Rattle.container.proofs.open.no_open.Goals as goal

pub returns : goal.returns
returns c = rw (c.opened.ensures, c.no_limits.ensures, c.no_qos.ensures)
