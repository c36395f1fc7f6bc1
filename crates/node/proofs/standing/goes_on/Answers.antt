-- `node::standing::goes_on` meets its contract.
use mathlib.Core.Path.{sym}
use Rattle.node.specs.Hear.{goes_on}
use Rattle.node.proofs.Growing.{roomy_reported, fewer_reported}
use Rattle.node.proofs.standing.goes_on.Goals as goal

pub returns-in-Some : goal.returns-in-Some
unfolding goes_on
returns-in-Some c =
    let o = c.args.c.current in
    let m = c.args.m in
    rw (
      c.going.ensures,
      c.changed.ensures,
      c.reported-n.ensures,
      roomy_reported o m c.requires.place,
      fewer_reported o m c.requires.changes,
      c.time_at.ensures,
      c.qos_after-q.ensures,
      sym c.in-Some.ensures,
    )

pub returns-in-None : goal.returns-in-None
unfolding goes_on
returns-in-None c = rw (c.going-in-None.ensures, c.reported-n.ensures, sym c.in-None.ensures)
