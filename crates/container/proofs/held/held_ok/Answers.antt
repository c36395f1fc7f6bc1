-- `container::held::held_ok` meets its contract. The loop's invariant: the places that are left to look at decide, with what those after
-- them leave to them.
use Rattle.std.proofs.Common.{◌≡◌, length, rules}
use Rattle.container.specs.Container.{no_container}
use Rattle.container.proofs.Opens.{held_all, held_no, held_next, held_end}
use Rattle.container.proofs.held.held_ok.Goals as goal

pub loop-i-init : goal.loop-i-init
loop-i-init c =
    let long : length c.args.v ≡ 15 = search rules in
    held_all long

pub returns-in_default : goal.returns-in_default
returns-in_default c = held_no c.loop-i.invariant no_container c.loop-i-test.true c.look.ensures c.in_default.is

pub loop-i-preserved : goal.loop-i-preserved
loop-i-preserved c = held_next c.loop-i.invariant no_container c.loop-i-test.true c.look.ensures _ c.in-Some.is

pub returns : goal.returns
returns c = held_end c.loop-i.invariant c.loop-i-test.false
