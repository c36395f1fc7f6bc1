-- `ber::int::width` meets its contract: what is counted and what is left to count make the whole.
use mathlib.Core.Path.{refl}
use native.Mathlib.Omega.{arith}
use Rattle.ber.proofs.Numbers.{width_stop, width_go, width_le}
use Rattle.ber.proofs.int.width.Goals as goal

pub loop-w-init : goal.loop-w-init
loop-w-init c = refl

pub overflow_add-n : goal.overflow_add-n
overflow_add-n c = omega (arith, width_le 8 c.args.v (omega arith))

pub loop-w-smaller : goal.loop-w-smaller
loop-w-smaller c = omega arith

pub loop-w-preserved : goal.loop-w-preserved
loop-w-preserved c = omega (arith, width_go c.loop-w.w c.loop-w-test.true)

pub returns : goal.returns
returns c =
    let s = width_stop c.loop-w.w c.loop-w-test.false in
    let l = width_le 8 c.args.v (omega arith) in
    (omega arith, omega arith)
