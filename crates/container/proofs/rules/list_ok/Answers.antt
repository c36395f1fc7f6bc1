-- `container::rules::list_ok` meets its contract. The loop's invariant: what is left to look at, from the last time on, decides.
use mathlib.Core.Path.{◌≡◌, subst}
use native.Mathlib.Omega.{arith}
use Prim.Native.Nat.{◌-◌}
use lib.ListN.{length}
use borrow.Author.Tests.{not-true, not-false}
use borrow.Author.Rules.{rules}
use Rattle.container.specs.Container.{no_container}
use Rattle.container.proofs.Stepwise.{Turning, ok_few, ok_many, turning_none, turning_more, turning_no, turning_end}
use Rattle.container.proofs.rules.list_ok.Goals as goal

pub returns-then-n-lt1 : goal.returns-then-n-lt1
returns-then-n-lt1 c = let a = c.args in ok_few a.v a.n a.opening c.if-n-lt1.true

pub returns-then-n-gt15 : goal.returns-then-n-gt15
returns-then-n-gt15 c = let a = c.args in ok_many a.v a.n a.opening c.if-n-gt15.true

pub loop-i-init : goal.loop-i-init
loop-i-init c = let a = c.args in turning_none a.v a.n _ _ (omega (arith, c.if-n-lt1.false))

pub returns-then-not-pair_ok : goal.returns-then-not-pair_ok
returns-then-not-pair_ok c =
    let a = c.args in
    let l = c.loop-i in
    let z : length a.v ≡ 15 = search rules in
    let h = c.if-n-gt15.false in
    turning_no a.v a.n a.opening (omega (arith, h)) (omega (arith, h)) l.invariant no_container no_container (omega (arith, c.loop-i-test.true))
    c.pair_ok.ensures (not-true _ c.if-not-pair_ok.true-raw)

pub loop-i-preserved : goal.loop-i-preserved
loop-i-preserved c =
    let a = c.args in
    let l = c.loop-i in
    let z : length a.v ≡ 15 = search rules in
    turning_more a.v a.n (omega (arith, c.if-n-gt15.false)) l.invariant no_container no_container
    (omega (arith, c.loop-i-test.true)) c.pair_ok.ensures (not-false _ c.if-not-pair_ok.false-raw)

pub returns : goal.returns
returns c =
    let a = c.args in
    let l = c.loop-i in
    let z : length a.v ≡ 15 = search rules in
    let h = c.if-n-gt15.false in
    let e : l.i ≡ a.n - 1 = omega (arith, c.loop-i-test.false, l.auto.i-end) in
    turning_end a.v a.n a.opening (omega (arith, h)) (omega (arith, h)) (subst (Turning a.v a.n a.opening.zone a.opening.seconds l.from) e l.invariant)
    no_container (omega arith) c.stands-stand.ensures
