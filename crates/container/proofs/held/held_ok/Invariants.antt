-- `container::held::held_ok` meets its contract. The loop's invariant: the places that are left to look at decide, with what those after
-- them leave to them.
use Rattle.container.proofs.Opens.{Held}
use Rattle.container.proofs.held.held_ok.Given as goal

abbrev pub invariant-loop-i : goal.invariant-loop-i
invariant-loop-i l = Held l.v l.zone l.opening l.initial.s l.n l.s l.i
