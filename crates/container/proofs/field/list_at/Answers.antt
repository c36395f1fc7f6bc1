-- `container::field::list_at` meets its contract: the contents are a list, or not.
use mathlib.Core.Path.{refl}
use Rattle.container.proofs.Lists.{lists_is}
use Rattle.container.proofs.field.list_at.Goals as goal

pub returns-in_err-contents : goal.returns-in_err-contents
returns-in_err-contents c =
    let a = c.args in
    rw (lists_is a.s.now a.at a.tag, ← c.part_at.ensures.reads, c.in_err-contents.was) c.from_residual.ensures

pub returns-in_err-list_of : goal.returns-in_err-list_of
returns-in_err-list_of c =
    let a = c.args in
    rw (
      lists_is a.s.now a.at a.tag,
      ← c.part_at.ensures.reads,
      c.in_ok-contents.was,
      ← c.list_of.ensures,
      c.in_err-list_of.was,
    ) c.from_residual-in_err-list_of.ensures

pub returns : goal.returns
returns c =
    let a = c.args in
    rw (lists_is a.s.now a.at a.tag, ← c.part_at.ensures.reads, c.in_ok-contents.was, ← c.list_of.ensures, c.in_ok-list_of.was) refl
