-- `container::open::volume_met` meets its contract: what is left of the limit is no more than the last counter.
use Rattle.container.proofs.OpenRules.{limit_met_lem}
use Rattle.container.proofs.open.volume_met.Goals as goal

pub returns : goal.returns
returns c =
    let a = c.args in
    limit_met_lem a.o c.left_after.ensures c.rest_of-left.ensures
