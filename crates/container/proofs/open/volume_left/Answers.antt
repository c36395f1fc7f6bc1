-- `container::open::volume_left` meets its contract.
use native.Mathlib.Omega.{arith}
use Rattle.container.proofs.open.volume_left.Goals as goal

pub returns : goal.returns
returns c = omega (arith, c.left_after.ensures, c.rest_of-left.ensures, c.rest_of.ensures)
