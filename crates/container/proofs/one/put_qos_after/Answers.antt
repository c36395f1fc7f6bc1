-- `container::one::put_qos_after` meets its contract: a profile under its tag, or nothing.
use mathlib.Core.Path.{◌∙◌, sym}
use native.Mathlib.Omega.{arith}
use Rattle.ber.proofs.Writers.{puts_is, puts, put_nothing}
use Rattle.container.proofs.Fields.{form_own, form_none}
use Rattle.container.proofs.one.put_qos_after.Goals as goal

pub returns-then-is_new : goal.returns-then-is_new
returns-then-is_new c =
    let a = c.args in
    puts_is (form_own a.last a.q (sym c.is_new.ensures ∙ c.if-is_new.true))
    c.put_qos.ensures

pub returns : goal.returns
returns c =
    let a = c.args in
    puts_is (form_none a.last a.q (sym c.is_new.ensures ∙ c.if-is_new.false)) (puts (put_nothing (omega arith)))
