-- `mcdr::closing::is_detach` meets its contract.
use mathlib.Core.Path.{refl}
use Rattle.mcdr.specs.Rules.{detach}
use Rattle.mcdr.proofs.closing.is_detach.Goals as goal

pub returns : goal.returns
unfolding detach
returns c = refl
