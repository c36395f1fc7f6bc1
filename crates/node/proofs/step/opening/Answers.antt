-- `node::step::opening` meets its contract.
use mathlib.Core.Path.{sym}
use Rattle.node.specs.Step.{activated}
use Rattle.node.proofs.Copied.{checked_name}
use Rattle.node.proofs.step.opening.Goals as goal

pub returns : goal.returns
unfolding activated
returns c =
    rw (
      c.imsi_of-imsi.ensures,
      checked_name c.args.event.now c.check_apn.ensures c.requires.name,
      c.opened.ensures,
      c.limits_of-limits.ensures,
      sym c.requires.size,
    )
