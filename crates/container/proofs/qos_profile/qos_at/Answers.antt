-- `container::qos_profile::qos_at` meets its contract: the contents are a profile's, or not.
use mathlib.Core.Path.{refl}
use Rattle.container.specs.Qos.{qos}
use Rattle.ber.proofs.Readers.{first_at}
use Rattle.container.proofs.qos_profile.qos_at.Goals as goal

pub returns-in_err-contents : goal.returns-in_err-contents
returns-in_err-contents c =
    let a = c.args in
    rw (first_at a.tag qos a.s.now a.at, ← c.part_at.ensures.reads, c.in_err-contents.was) c.from_residual.ensures

pub returns-in_err-qos_of : goal.returns-in_err-qos_of
returns-in_err-qos_of c =
    let a = c.args in
    rw (
      first_at a.tag qos a.s.now a.at,
      ← c.part_at.ensures.reads,
      c.in_ok-contents.was,
      ← c.qos_of.ensures,
      c.in_err-qos_of.was,
    ) c.from_residual-in_err-qos_of.ensures

pub returns : goal.returns
returns c =
    let a = c.args in
    rw (first_at a.tag qos a.s.now a.at, ← c.part_at.ensures.reads, c.in_ok-contents.was, ← c.qos_of.ensures, c.in_ok-qos_of.was) refl
