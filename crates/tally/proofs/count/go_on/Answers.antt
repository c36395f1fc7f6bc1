-- `tally::count::go_on` meets its contract.
use Rattle.std.proofs.Common.{ap, ◌∙◌}
use Rattle.tally.specs.Turns.{onto, went_on}
use Rattle.tally.proofs.count.go_on.Goals as goal

pub returns : goal.returns
unfolding went_on
returns c = c.onto.ensures ∙ ap (onto _) c.tally-u.ensures
