-- `scdr::closing::change_ok` meets its contract.
use mathlib.Core.Path.{refl}
use Rattle.scdr.specs.Rules.{change_ok}
use Rattle.scdr.proofs.closing.change_ok.Goals as goal

pub returns : goal.returns
unfolding change_ok
returns c = refl
