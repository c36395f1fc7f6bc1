-- `container::unused::is_blank` meets its contract: the derived equality with the blank container is the test.
use mathlib.Core.Path.{refl, ◌∙◌}
use Rattle.std.proofs.Math.Bool.{and_assoc}
use Rattle.container.specs.Qos.{same_qos}
use Rattle.container.specs.List.{is_blank}
use Rattle.container.proofs.unused.is_blank.Goals as goal

pub returns : goal.returns
unfolding is_blank same_qos
returns c = c.eq.ensures ∙ simp (and_assoc, c.no_container.ensures) refl
