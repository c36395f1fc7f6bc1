-- `container::rules::follows` meets its contract: the code is the test.
use mathlib.Core.Path.{ap}
use mathlib.Core.Bool.{Bool, ◌&&◌}
use lib.Dec.{ltb}
use Rattle.container.specs.Private.Stepwise.{follows}
use Rattle.container.proofs.rules.follows.Goals as goal

pub returns : goal.returns
unfolding follows
returns c = ap (λ (x : Bool). ltb c.args.c.condition 2 && x) c.changes.ensures
