-- `ber::imsi::filled` meets its contract: what is left to look at decides.
use mathlib.Core.Path.{◌≡◌}
use lib.ListN.{drop}
use Rattle.ber.specs.Imsi.{halves, all_f}
use Rattle.ber.proofs.imsi.filled.Given as goal

abbrev pub invariant-loop-i : goal.invariant-loop-i
invariant-loop-i l = all_f (drop l.i (halves l.s)) ≡ all_f (drop l.from (halves l.s))
