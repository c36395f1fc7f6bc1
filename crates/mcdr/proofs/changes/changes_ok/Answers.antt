-- `mcdr::changes::changes_ok` meets its contract. The loop's invariant: what is left to look at, from the last time and place on, decides.
use mathlib.Core.Path.{refl, sym, ap, ◌∙◌}
use native.Mathlib.Omega.{arith}
use lib.ListN.{take, drop_of_length-le}
use Rattle.mcdr.specs.Change.{no_change}
use Rattle.mcdr.specs.Changes.{changes_ok}
use Rattle.mcdr.proofs.Order.{order_next, count_many, count_right}
use Rattle.mcdr.proofs.changes.changes_ok.Goals as goal

pub returns-then-n-gt15 : goal.returns-then-n-gt15
returns-then-n-gt15 c = count_many c.args.n _ c.if-n-gt15.true

pub loop-c-init : goal.loop-c-init
loop-c-init c = refl

pub returns-then-not-follows : goal.returns-then-not-follows
returns-then-not-follows c =
    let a = c.args in
    let t = c.loop-c in
    count_right a.n _ (omega (arith, c.if-n-gt15.false))
    (sym (order_next _ a.opening.zone t.from t.at t.c-index no_change c.loop-c-test.true ∙ rw (sym c.follows.ensures, c.if-not-follows.true)) ∙ t.invariant)

pub loop-c-preserved : goal.loop-c-preserved
loop-c-preserved c =
    let a = c.args in
    let t = c.loop-c in
    sym (order_next _ a.opening.zone t.from t.at t.c-index no_change c.loop-c-test.true ∙ rw (sym c.follows.ensures, c.if-not-follows.false)) ∙ t.invariant

pub returns : goal.returns
unfolding changes_ok
returns c =
    let a = c.args in
    let t = c.loop-c in
    count_right a.n _ (omega (arith, c.if-n-gt15.false))
    (sym (ap (changes_ok a.opening.zone t.from t.at) (drop_of_length-le (take a.n a.v) c.loop-c-test.false)) ∙ t.invariant)
