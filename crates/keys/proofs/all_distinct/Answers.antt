-- `keys::all_distinct` meets its contract: each slot stands alone before those after it.
use Rattle.std.proofs.Common.{arith}
use Rattle.std.proofs.lemmas.Grind.{common_steps}
use Rattle.history.specs.Slots.{distinct}
use Rattle.keys.proofs.all_distinct.Goals as goal

pub returns-then-not-stands_alone : goal.returns-then-not-stands_alone
unfolding distinct
returns-then-not-stands_alone g c = grind (arith, common_steps)

pub loop-s-preserved : goal.loop-s-preserved
unfolding distinct
loop-s-preserved g c = grind (arith, common_steps)

pub returns : goal.returns
unfolding distinct
returns g c = grind (arith, common_steps)
