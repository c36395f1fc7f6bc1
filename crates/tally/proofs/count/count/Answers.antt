-- `tally::count::count` meets its contract.
use Rattle.tally.specs.Tally.{count_of}
use Rattle.tally.proofs.count.count.Goals as goal

pub returns : goal.returns
unfolding count_of
returns c = c.tally.ensures
