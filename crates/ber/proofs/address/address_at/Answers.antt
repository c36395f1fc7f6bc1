-- `ber::address::address_at` meets its contract: one value is all of the contents, or not.
use Rattle.ber.specs.Field.{alone}
use Rattle.ber.specs.Fixed.{fixed}
use Rattle.ber.proofs.Readers.{first_at, alone_at, guard_into}
use Rattle.ber.proofs.address.address_at.Goals as goal

pub returns-in_err-contents : goal.returns-in_err-contents
returns-in_err-contents c =
    let a = c.args in
    rw (first_at a.tag (alone 0x80 (fixed 4)) a.s.now a.at, ← c.part_at.ensures.reads, c.in_err-contents.was) c.from_residual.ensures

pub returns-in_err-v : goal.returns-in_err-v
returns-in_err-v c =
    let a = c.args in
    rw (
      first_at a.tag (alone 0x80 (fixed 4)) a.s.now a.at,
      ← c.part_at.ensures.reads,
      c.in_ok-contents.was,
      alone_at 0x80 (fixed 4) c.in_ok-contents.contents.now,
      ← c.number_at.ensures.reads,
      c.in_err-v.was,
    ) c.from_residual-in_err-v.ensures

pub returns : goal.returns
returns c =
    let a = c.args in
    rw (
      first_at a.tag (alone 0x80 (fixed 4)) a.s.now a.at,
      ← c.part_at.ensures.reads,
      c.in_ok-contents.was,
      alone_at 0x80 (fixed 4) c.in_ok-contents.contents.now,
      ← c.number_at.ensures.reads,
      c.in_ok-v.was,
      c.then_some.ensures,
    ) (guard_into _ c.in_ok-v.v c.in_ok-contents.next)
