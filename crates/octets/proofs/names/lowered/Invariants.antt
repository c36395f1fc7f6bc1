-- `octets::names::lowered` meets its contract. The loop's invariant: the first octets are lowered, and zeros stand after them.
use Rattle.octets.proofs.Lowered.{Lowering}
use Rattle.octets.proofs.names.lowered.Given as goal

abbrev pub invariant-loop-i : goal.invariant-loop-i
invariant-loop-i l = Lowering l.s l.apn l.i
