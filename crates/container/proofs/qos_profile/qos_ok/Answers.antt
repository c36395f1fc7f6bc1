-- `container::qos_profile::qos_ok` meets its contract: the code is the test.
use mathlib.Core.Path.{refl}
use Rattle.container.specs.Qos.{qos_ok}
use Rattle.container.proofs.qos_profile.qos_ok.Goals as goal

pub returns : goal.returns
unfolding qos_ok
returns c = refl
