-- `ber::imsi::digits` meets its contract: the halves passed and the digits from there on make the whole.
use mathlib.Core.Path.{sym, ◌∙◌}
use native.Mathlib.Omega.{arith}
use Rattle.ber.specs.Imsi.{halves}
use Rattle.ber.proofs.Imsis.{halves_length, leading_stop, leading_more, leading_end}
use Rattle.ber.proofs.imsi.digits.Goals as goal

pub loop-i-init : goal.loop-i-init
loop-i-init c = omega arith

pub returns-then-half-ge10 : goal.returns-then-half-ge10
returns-then-half-ge10 c =
    let l = c.loop-i in
    let hs = halves c.args.s.now in
    omega (
      arith,
      l.invariant,
      leading_stop hs l.i (omega (arith, halves_length c.args.s.now))
          (omega (arith, c.half.ensures)),
    )

pub loop-i-preserved : goal.loop-i-preserved
loop-i-preserved c =
    let l = c.loop-i in
    let hs = halves c.args.s.now in
    sym (leading_more hs l.i (omega (arith, halves_length c.args.s.now)) (omega (arith, c.half.ensures))) ∙ l.invariant

pub returns : goal.returns
returns c =
    let l = c.loop-i in
    let hs = halves c.args.s.now in
    omega (arith, l.invariant, leading_end hs l.i (omega (arith, halves_length c.args.s.now)))
