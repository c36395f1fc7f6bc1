-- `container::rules::stands` meets its contract: the code is the test.
use mathlib.Core.Path.{ap}
use mathlib.Core.Bool.{Bool, ◌&&◌}
use lib.Dec.{leb, eqb}
use Rattle.container.specs.Private.Stepwise.{stands}
use Rattle.container.proofs.rules.stands.Goals as goal

pub returns : goal.returns
unfolding stands
returns c =
    let a = c.args in
    ap (λ (x : Bool). x && eqb a.c.time.zone a.zone && leb a.from a.c.time.seconds) c.container_ok.ensures
