-- `container::one::qos_after` meets its contract: it is read where it is new.
use mathlib.Core.Path.{sym, ◌∙◌}
use Rattle.container.proofs.Fields.{qos_read, qos_told}
use Rattle.container.proofs.one.qos_after.Goals as goal

pub returns-then-is_new : goal.returns-then-is_new
returns-then-is_new c = c.qos_at.ensures ∙ sym (qos_read c.args.last c.args.s.now (sym c.is_new.ensures ∙ c.if-is_new.true))

pub returns : goal.returns
returns c = sym (qos_told c.args.last c.args.s.now (sym c.is_new.ensures ∙ c.if-is_new.false))
