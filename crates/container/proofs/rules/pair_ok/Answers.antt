-- `container::rules::pair_ok` meets its contract: the code is the test.
use mathlib.Core.Path.{ap₂}
use mathlib.Core.Bool.{Bool, ◌&&◌}
use Rattle.container.proofs.rules.pair_ok.Goals as goal

pub returns : goal.returns
returns c = ap₂ (λ (x y : Bool). x && y) c.stands.ensures c.follows.ensures
