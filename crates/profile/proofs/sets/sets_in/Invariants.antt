-- `profile::sets::sets_in` meets its contract. The loop's invariant: so many sets are counted.
use Rattle.profile.proofs.Places.{Counted}
use Rattle.profile.proofs.sets.sets_in.Given as goal

abbrev pub invariant-loop-n : goal.invariant-loop-n
invariant-loop-n l = Counted l.s l.t l.n
