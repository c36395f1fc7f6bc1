-- `mcdr::closing::cause_ok` meets its contract.
use Rattle.mcdr.specs.Rules.{cause_ok}
use Rattle.mcdr.proofs.closing.cause_ok.Goals as goal

pub returns : goal.returns
unfolding cause_ok
returns c = rw c.is_detach.ensures
