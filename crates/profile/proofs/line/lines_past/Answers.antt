-- `profile::line::lines_past` meets its contract.
use Rattle.profile.proofs.Readings.{passed_none, passed_more, passed_end}
use Rattle.profile.proofs.line.lines_past.Goals as goal

pub loop-init : goal.loop-init
loop-init c = passed_none _ _

pub loop-preserved : goal.loop-preserved
loop-preserved c = passed_more c.loop.invariant c.loop-test.true c.past-t.ensures

pub returns : goal.returns
returns c = passed_end c.loop.invariant c.loop-test.false
