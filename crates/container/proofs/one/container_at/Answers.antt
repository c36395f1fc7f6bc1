-- `container::one::container_at` meets its contract: the contents are a container's, or not.
use mathlib.Core.Path.{refl}
use Rattle.container.specs.Container.{container_tag, container}
use Rattle.ber.proofs.Readers.{first_at}
use Rattle.container.proofs.one.container_at.Goals as goal

pub returns-in_err-contents : goal.returns-in_err-contents
returns-in_err-contents c =
    let a = c.args in
    rw (first_at container_tag (container a.last) a.s.now a.at, ← c.part_at.ensures.reads, c.in_err-contents.was) c.from_residual.ensures

pub returns-in_err-container_of : goal.returns-in_err-container_of
returns-in_err-container_of c =
    let a = c.args in
    rw (
      first_at container_tag (container a.last) a.s.now a.at,
      ← c.part_at.ensures.reads,
      c.in_ok-contents.was,
      ← c.container_of.ensures,
      c.in_err-container_of.was,
    ) c.from_residual-in_err-container_of.ensures

pub returns : goal.returns
returns c =
    let a = c.args in
    rw (
      first_at container_tag (container a.last) a.s.now a.at,
      ← c.part_at.ensures.reads,
      c.in_ok-contents.was,
      ← c.container_of.ensures,
      c.in_ok-container_of.was,
    ) refl
