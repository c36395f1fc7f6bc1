-- `ber::imsi::half` meets its contract.
use native.Mathlib.Omega.{arith}
use Rattle.ber.proofs.Imsis.{half_low, half_high}
use Rattle.ber.proofs.imsi.half.Goals as goal

pub returns-then-i-eq0 : goal.returns-then-i-eq0
returns-then-i-eq0 c = half_low c.args.s.now c.args.i c.if-i-eq0.true

pub returns-else-i-eq0 : goal.returns-else-i-eq0
returns-else-i-eq0 c = half_high c.args.s.now c.args.i (omega arith)
