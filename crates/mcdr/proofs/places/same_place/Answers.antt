-- `mcdr::places::same_place` meets its contract: the derived equality is the test.
use Rattle.mcdr.specs.Change.{same_place}
use Rattle.mcdr.proofs.places.same_place.Goals as goal

pub returns : goal.returns
unfolding same_place
returns c = c.eq.ensures
