-- `profile::text::first_bad` meets its contract. The loop's invariant: nothing is wrong with the lines passed.
use Rattle.profile.proofs.Readings.{Clean}
use Rattle.profile.proofs.text.first_bad.Given as goal

abbrev pub invariant-loop-i : goal.invariant-loop-i
invariant-loop-i l = Clean l.sets l.s l.t l.i
