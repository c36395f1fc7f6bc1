-- `container::stamp::stamp_at` meets its contract: the contents are a time, or not.
use mathlib.Core.Path.{refl}
use Rattle.calendar.specs.Stamp.{stamp}
use Rattle.ber.proofs.Readers.{first_at}
use Rattle.container.proofs.stamp.stamp_at.Goals as goal

pub returns-in_err-contents : goal.returns-in_err-contents
returns-in_err-contents c =
    let a = c.args in
    rw (first_at a.tag stamp a.s.now a.at, ← c.part_at.ensures.reads, c.in_err-contents.was) c.from_residual.ensures

pub returns-in_err-stamp_of : goal.returns-in_err-stamp_of
returns-in_err-stamp_of c =
    let a = c.args in
    rw (
      first_at a.tag stamp a.s.now a.at,
      ← c.part_at.ensures.reads,
      c.in_ok-contents.was,
      ← c.stamp_of.ensures,
      c.in_err-stamp_of.was,
    ) c.from_residual-in_err-stamp_of.ensures

pub returns : goal.returns
returns c =
    let a = c.args in
    rw (first_at a.tag stamp a.s.now a.at, ← c.part_at.ensures.reads, c.in_ok-contents.was, ← c.stamp_of.ensures, c.in_ok-stamp_of.was) refl
