-- `mcdr::changes::follows` meets its contract: the code is the test.
use mathlib.Core.Path.{ap₂}
use mathlib.Core.Bool.{Bool, ◌&&◌}
use lib.Dec.{leb, eqb}
use Rattle.mcdr.specs.Change.{follows, same_place}
use Rattle.mcdr.proofs.changes.follows.Goals as goal

pub returns : goal.returns
unfolding follows same_place
returns c =
    let a = c.args in
    ap₂ {C = Bool} (λ (x y : Bool). x && y && leb a.from a.c.time.seconds && eqb a.c.time.zone a.zone)
    c.ne.ensures c.stamp_within-right.ensures
