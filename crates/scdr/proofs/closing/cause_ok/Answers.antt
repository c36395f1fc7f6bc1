-- `scdr::closing::cause_ok` meets its contract.
use Rattle.scdr.specs.Rules.{cause_ok}
use Rattle.scdr.proofs.closing.cause_ok.Goals as goal

pub returns : goal.returns
unfolding cause_ok
returns c = rw c.is_release.ensures
