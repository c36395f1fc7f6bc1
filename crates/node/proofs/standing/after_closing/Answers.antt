-- `node::standing::after_closing` meets its contract.
use Rattle.node.proofs.Growing.{after_release, after_other}
use mathlib.Core.Path.{sym, ◌∙◌}
use native.Mathlib.Omega.{arith}
use Rattle.node.proofs.standing.after_closing.Goals as goal

pub returns-then-m : goal.returns-then-m
returns-then-m c = let a = c.args in c.no_context.ensures ∙ sym (after_release a.p a.g a.c a.t a.m c.if-m.true)

pub overflow_add-c : goal.overflow_add-c
overflow_add-c c = omega (arith, c.requires.closed)

pub returns : goal.returns
returns c =
    let a = c.args in
    rw (
      c.going.ensures,
      c.opened.ensures,
      c.limits_of-limits.ensures,
      c.time_at-now.ensures,
      c.qos_after-q.ensures,
    )
    (sym (after_other a.p a.g a.c a.t a.m c.if-m.false))
