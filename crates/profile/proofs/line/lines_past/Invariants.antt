-- `profile::line::lines_past` meets its contract.
use Rattle.profile.proofs.Readings.{Passed}
use Rattle.profile.proofs.line.lines_past.Given as goal

abbrev pub invariant-loop : goal.invariant-loop
invariant-loop l = Passed l.s l.n l.t l.counter
