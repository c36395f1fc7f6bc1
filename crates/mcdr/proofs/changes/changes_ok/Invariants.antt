-- `mcdr::changes::changes_ok` meets its contract. The loop's invariant: what is left to look at, from the last time and place on, decides.
use Rattle.std.proofs.Common.{◌≡◌, drop}
use Rattle.mcdr.specs.Changes.{changes_ok}
use Rattle.mcdr.proofs.changes.changes_ok.Given as goal

abbrev pub invariant-loop-c : goal.invariant-loop-c
invariant-loop-c l =
    changes_ok l.opening.zone l.from l.at (drop l.c-index l.c-items) ≡ changes_ok l.opening.zone l.initial.from l.initial.at l.c-items
