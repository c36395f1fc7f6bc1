-- `ber::number::number_at` meets its contract: the contents are so many octets, or not.
use mathlib.Core.Path.{refl}
use Rattle.ber.specs.Fixed.{fixed}
use Rattle.ber.proofs.Fixeds.{fixed_there, fixed_bad}
use Rattle.ber.proofs.Readers.{first_at}
use Rattle.ber.proofs.number.number_at.Goals as goal

pub returns-in_err-contents-clause-reads : goal.returns-in_err-contents-clause-reads
returns-in_err-contents-clause-reads c =
    let a = c.args in
    rw (first_at a.tag (fixed a.k) a.s.now a.at, ← c.part_at.ensures.reads, c.in_err-contents.was) c.from_residual.ensures

pub returns-then-contents-k-clause-reads : goal.returns-then-contents-k-clause-reads
returns-then-contents-k-clause-reads c =
    let a = c.args in
    rw (
      first_at a.tag (fixed a.k) a.s.now a.at,
      ← c.part_at.ensures.reads,
      c.in_ok-contents.was,
      fixed_bad a.k c.in_ok-contents.contents.now c.if-contents-k.true,
    )

pub returns-clause-reads : goal.returns-clause-reads
returns-clause-reads c =
    let a = c.args in
    rw (
      first_at a.tag (fixed a.k) a.s.now a.at,
      ← c.part_at.ensures.reads,
      c.in_ok-contents.was,
      (fixed_there a.k c.in_ok-contents.contents.now c.if-contents-k.false c.spelt.ensures.1).0,
      ← c.spelt.ensures.0,
    ) refl

pub returns-clause-fits : goal.returns-clause-fits
returns-clause-fits c =
    let a = c.args in
    rw c.spelt.ensures.0 (fixed_there a.k c.in_ok-contents.contents.now c.if-contents-k.false c.spelt.ensures.1).1
