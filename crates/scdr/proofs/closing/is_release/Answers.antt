-- `scdr::closing::is_release` meets its contract.
use mathlib.Core.Path.{refl}
use Rattle.scdr.specs.Rules.{release}
use Rattle.scdr.proofs.closing.is_release.Goals as goal

pub returns : goal.returns
unfolding release
returns c = refl
