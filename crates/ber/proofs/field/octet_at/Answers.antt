-- `ber::field::octet_at` meets its contract: the contents are one octet, or not.
use mathlib.Core.Path.{refl}
use mathlib.Core.Bool.{true}
use native.Mathlib.Omega.{arith}
use Rattle.format.specs.Format.{octet}
use Rattle.ber.proofs.Readers.{first_at, one_not, one_is}
use Rattle.ber.proofs.field.octet_at.Goals as goal

pub returns-in_err-contents : goal.returns-in_err-contents
returns-in_err-contents c =
    let a = c.args in
    rw (first_at a.tag (octet (λ x. true)) a.s.now a.at, ← c.part_at.ensures.reads, c.in_err-contents.was) c.from_residual.ensures

pub returns-then-contents-ne1 : goal.returns-then-contents-ne1
returns-then-contents-ne1 c =
    let a = c.args in
    rw (
      first_at a.tag (octet (λ x. true)) a.s.now a.at,
      ← c.part_at.ensures.reads,
      c.in_ok-contents.was,
      one_not (λ x. true) c.in_ok-contents.contents.now c.if-contents-ne1.true,
    ) refl

pub returns : goal.returns
returns c =
    let a = c.args in
    rw (
      first_at a.tag (octet (λ x. true)) a.s.now a.at,
      ← c.part_at.ensures.reads,
      c.in_ok-contents.was,
      one_is c.in_ok-contents.contents.now (omega arith),
    ) refl
