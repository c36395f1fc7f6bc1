-- `out::Stream::put` meets its contract: what the write answered is its `wrote`.
use Rattle.std.proofs.Common.{arith}
use Rattle.out.proofs.Puts.{in_room, alone, lost, told}
use Rattle.out.proofs.Stream.put.Goals as goal
use Rattle.out.proofs.Stream.put.Goals.{then-is_full, else-is_full}

pub returns-in_err-n-clause-puts : goal.returns-in_err-n-clause-puts
returns-in_err-n-clause-puts g c = elim c.if-is_full.branch [
  | then-is_full w ↦ lost _ _ _ _ _ (grind arith) (grind arith) (grind arith)
  | else-is_full w ↦ told _ _ _ _ _ (grind arith) (grind arith) (grind arith)
]

pub returns-clause-puts : goal.returns-clause-puts
returns-clause-puts g c = elim c.if-is_full.branch [
  | then-is_full w ↦ alone _ _ _ _ _ (grind arith) (grind arith) (grind arith)
  | else-is_full w ↦ in_room _ _ _ _ _ _ (grind arith) c.in_ok-n.was (grind arith) (grind arith)
]
