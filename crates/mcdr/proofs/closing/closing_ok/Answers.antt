-- `mcdr::closing::closing_ok` meets its contract.
use mathlib.Core.Path.{refl}
use Rattle.mcdr.specs.Rules.{closing_ok}
use Rattle.mcdr.proofs.closing.closing_ok.Goals as goal

pub returns : goal.returns
unfolding closing_ok
returns c = refl
