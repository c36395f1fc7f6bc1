-- `container::rules::list_ok` meets its contract. The loop's invariant: what is left to look at, from the last time on, decides.
use Rattle.container.proofs.Stepwise.{Turning}
use Rattle.container.proofs.rules.list_ok.Given as goal

abbrev pub invariant-loop-i : goal.invariant-loop-i
invariant-loop-i l = Turning l.v l.n l.fn.opening.zone l.fn.opening.seconds l.from l.i
