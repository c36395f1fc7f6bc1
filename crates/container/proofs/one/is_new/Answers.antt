-- `container::one::is_new` meets its contract: the code is the test.
use mathlib.Core.Path.{refl}
use Rattle.container.specs.Container.{is_new}
use Rattle.container.proofs.one.is_new.Goals as goal

pub returns : goal.returns
unfolding is_new
returns c = refl
