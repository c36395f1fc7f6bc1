-- `mcdr::list::list_at` meets its contract: where the tag is, a list, or not.
use mathlib.Core.Path.{refl, sym, ◌∙◌}
use Rattle.ber.proofs.Readers.{guard_is}
use Rattle.mcdr.specs.Changes.{no_changes}
use Rattle.mcdr.proofs.Lists.{lists_there, lists_none}
use Rattle.mcdr.proofs.list.list_at.Goals as goal

pub returns-then-not-tag_at : goal.returns-then-not-tag_at
unfolding no_changes
returns-then-not-tag_at c =
    let a = c.args in
    rw (lists_none a.s.now a.at a.tag (sym c.tag_at.ensures ∙ c.if-not-tag_at.true), c.then_some.ensures, c.no_change.ensures) (guard_is _ _)

pub returns-in_err-contents : goal.returns-in_err-contents
returns-in_err-contents c =
    let a = c.args in
    rw (lists_there a.s.now a.at a.tag (sym c.tag_at.ensures ∙ c.if-not-tag_at.false), ← c.part_at.ensures.reads, c.in_err-contents.was) c.from_residual.ensures

pub returns-in_err-list_of : goal.returns-in_err-list_of
returns-in_err-list_of c =
    let a = c.args in
    rw (
      lists_there a.s.now a.at a.tag (sym c.tag_at.ensures ∙ c.if-not-tag_at.false),
      ← c.part_at.ensures.reads,
      c.in_ok-contents.was,
      ← c.list_of.ensures,
      c.in_err-list_of.was,
    ) c.from_residual-in_err-list_of.ensures

pub returns : goal.returns
returns c =
    let a = c.args in
    rw (
      lists_there a.s.now a.at a.tag (sym c.tag_at.ensures ∙ c.if-not-tag_at.false),
      ← c.part_at.ensures.reads,
      c.in_ok-contents.was,
      ← c.list_of.ensures,
      c.in_ok-list_of.was,
    ) refl
