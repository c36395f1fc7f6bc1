-- `node::pairs::tell` meets its contract: come to a pair, what is done of all pairs is what was done of those before it, and then what is done of
-- the others.
use mathlib.Core.Path.{◌≡◌}
use lib.ListN.{length}
use Rattle.node.proofs.Tellings.{Telling}
use Rattle.node.proofs.pairs.tell.Given as goal

abbrev pub invariant-loop-k : goal.invariant-loop-k
invariant-loop-k l =
    (length l.out ≡ length l.initial.out) × Telling l.p l.g l.clock l.accepted l.fn.c l.t l.volumes l.initial.out l.out l.last l.up l.down l.left l.at l.k
