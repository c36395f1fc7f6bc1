-- `ber::imsi::digits` meets its contract: the halves passed and the digits from there on make the whole.
use mathlib.Core.Path.{◌≡◌}
use Prim.Native.Nat.{◌+◌}
use lib.ListN.{drop}
use Rattle.ber.specs.Imsi.{halves, leading}
use Rattle.ber.proofs.imsi.digits.Given as goal

abbrev pub invariant-loop-i : goal.invariant-loop-i
invariant-loop-i l = l.i + leading (drop l.i (halves l.s)) ≡ leading (halves l.s)
