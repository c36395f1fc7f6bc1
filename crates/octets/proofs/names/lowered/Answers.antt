-- `octets::names::lowered` meets its contract. The loop's invariant: the first octets are lowered, and zeros stand after them.
use Rattle.octets.proofs.Lowered.{lowering_none, lowering_more, lowering_end}
use Rattle.octets.proofs.names.lowered.Goals as goal

pub loop-i-init : goal.loop-i-init
loop-i-init c = lowering_none _ c.requires

pub loop-i-preserved : goal.loop-i-preserved
loop-i-preserved c = lowering_more c.loop-i.invariant c.loop-i-test.true c.lower.ensures

pub returns : goal.returns
returns c = lowering_end c.loop-i.invariant c.loop-i-test.false
