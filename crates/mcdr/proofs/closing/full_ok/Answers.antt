-- `mcdr::closing::full_ok` meets its contract: a law for each answer.
use Rattle.mcdr.proofs.Closings.{full_yes, full_no}
use Rattle.mcdr.proofs.closing.full_ok.Goals as goal

pub returns-then-cause-eq19 : goal.returns-then-cause-eq19
returns-then-cause-eq19 c = full_yes c.args.cause c.args.count c.if-cause-eq19.true

pub returns : goal.returns
returns c = full_no c.args.cause c.args.count c.if-cause-eq19.false
