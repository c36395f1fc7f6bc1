-- `container::rules::changes` meets its contract: the derived inequality is the test.
use mathlib.Core.Path.{ap, ◌∙◌}
use mathlib.Core.Bool.{Bool, not, beq}
use lib.Dec.{eqb}
use Rattle.container.proofs.Same.{derived_same}
use Rattle.container.proofs.rules.changes.Goals as goal

pub returns : goal.returns
returns c =
    let a = c.args.c in
    ap (λ (x : Bool). beq x (eqb a.condition 0)) (c.ne.ensures ∙ ap not (derived_same a.qos c.args.q))
