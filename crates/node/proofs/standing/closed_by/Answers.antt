-- `node::standing::closed_by` meets its contract.
use Rattle.node.specs.Hear.{closed_by}
use Rattle.node.proofs.Growing.{roomy_reported}
use Rattle.node.proofs.standing.closed_by.Goals as goal

pub reported-requires : goal.reported-requires
reported-requires c = c.requires.counters

pub number_for-number-requires : goal.number_for-number-requires
number_for-number-requires c = c.requires.closed

pub returns : goal.returns
unfolding closed_by
returns c =
    let o = c.args.c.current in
    let r = roomy_reported o c.args.m c.requires.place in
    rw (
      c.record_of.ensures,
      c.number_for-number.ensures,
      c.ended-e.ensures,
      c.reported.ensures,
      r,
      c.time_at-now.ensures,
    )
