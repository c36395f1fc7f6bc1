-- `container::qos_profile::same_qos` meets its contract: the derived equality is the test.
use Rattle.std.proofs.Math.Bool.{and_assoc}
use Rattle.container.specs.Qos.{same_qos}
use Rattle.container.proofs.qos_profile.same_qos.Goals as goal

pub returns : goal.returns
unfolding same_qos
returns c = simp and_assoc c.eq.ensures
