-- `out::StreamWrite::write` has put what it passed: with what puts the rest, all is put. And no write has failed since it began.
use Rattle.std.proofs.Common.{List, ℕ, length, ◌<◌, ◌≤◌}
use Rattle.out.specs.Put.{PutsAll, count_of}
use Rattle.out.proofs.StreamWrite.write.Given as goal

abbrev pub invariant-loop-rest : goal.invariant-loop-rest
invariant-loop-rest g l =
    ((z : List ℕ) (r : ℕ) → PutsAll l.self.text (count_of l.self.waiting) l.rest z r → PutsAll l.initial.self.text (count_of l.initial.self.waiting) l.octets z r)
    × (length l.rest < length l.octets → count_of l.self.waiting ≤ 4096)

abbrev pub decreases-loop-rest : goal.decreases-loop-rest
decreases-loop-rest g l = length l.rest
