-- `container::open::is_sound` meets its contract: the rules, as the code finds them.
use Rattle.container.proofs.OpenRules.{rules_found}
use Rattle.container.proofs.open.is_sound.Goals as goal

pub returns : goal.returns
returns c =
    let a = c.args in
    rw c.from.ensures (rules_found a.o a.zone a.clock c.limits_ok-limited.ensures c.qos_ok-range.ensures
    c.rest_of.ensures c.rest_of-left.ensures c.held_ok-kept.ensures)
