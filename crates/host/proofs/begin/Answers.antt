-- `host::begin` meets its contract.
use mathlib.Core.Path.{refl}
use native.Mathlib.Omega.{arith}
use Rattle.std.proofs.lemmas.Grind.{common_steps}
use Rattle.node.proofs.Numbered.{numbered}
use Rattle.host.proofs.Starts.{begun_node, begun_none}
use Rattle.host.proofs.begin.Goals as goal

pub returns-in-Ok : goal.returns-in-Ok
returns-in-Ok c =
    begun_node c.args.text.now c.in_ok-profile.profile 0 c.in-Ok.node (grind (arith, common_steps)) c.in-Ok.ensures.made refl

pub returns-in-Err : goal.returns-in-Err
returns-in-Err c =
    begun_none c.args.text.now c.in_ok-profile.profile _ _ (grind (arith, common_steps)) c.in-Err.ensures.refused (numbered c.in-Err.field-0)
