-- `container::held::precedes` meets its contract: the code is the test.
use mathlib.Core.Path.{ap₂}
use mathlib.Core.Bool.{Bool, ◌&&◌}
use lib.Dec.{leb, ltb, eqb}
use Rattle.container.specs.Private.Stepwise.{precedes}
use Rattle.container.proofs.held.precedes.Goals as goal

pub returns : goal.returns
unfolding precedes
returns c =
    let a = c.args in
    ap₂ {C = Bool} (λ x y. x && ltb a.c.condition 2 && eqb a.c.time.zone a.zone && leb a.c.time.seconds a.until && y)
    c.container_ok-ok.ensures c.changes-right.ensures
