-- `ber::int::int_value` meets its contract: a law for each answer.
use mathlib.Core.Path.{◌≡◌, ◌∙◌, sym}
use Prim.Native.Nat.{◌-◌}
use native.Mathlib.Omega.{arith}
use lib.ListN.{length}
use Rattle.ber.proofs.Numbers.{value_nine, value_high}
use Rattle.ber.proofs.int.int_value.Goals as goal

pub returns-in-9 : goal.returns-in-9
returns-in-9 c =
    let e : length c.args.s.now - 1 ≡ 8 = omega arith in
    value_nine c.args.s.now c.spelt.result c.in-9.is (sym c.is_shortest.ensures ∙ c.if-not-is_shortest.false) c.if-s-eq0.true
    (rw e at c.spelt.ensures.1) (rw e at c.spelt.ensures.0) (omega arith)

pub returns-in_default : goal.returns-in_default
returns-in_default c = value_high c.args.s.now c.in-9.is (omega arith)
