-- `container::one::is_told` meets its contract: a law for each answer.
use mathlib.Core.Path.{◌∙◌, sym}
use Rattle.container.proofs.Fields.{told_always, told_same}
use Rattle.container.proofs.one.is_told.Goals as goal

pub returns-then-is_new : goal.returns-then-is_new
returns-then-is_new c = let a = c.args in told_always a.last a.c (sym c.is_new.ensures ∙ c.if-is_new.true)

pub returns : goal.returns
returns c =
    let a = c.args in
    c.same_qos.ensures ∙ told_same a.last a.c (sym c.is_new.ensures ∙ c.if-is_new.false)
