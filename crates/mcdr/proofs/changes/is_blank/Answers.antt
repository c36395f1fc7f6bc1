-- `mcdr::changes::is_blank` meets its contract: the derived equality with the blank change is the test.
use mathlib.Core.Path.{refl, ◌∙◌}
use Rattle.std.proofs.Math.Bool.{and_assoc}
use Rattle.mcdr.specs.Change.{same_place}
use Rattle.mcdr.specs.Changes.{is_blank}
use Rattle.mcdr.proofs.changes.is_blank.Goals as goal

pub returns : goal.returns
unfolding is_blank same_place
returns c = c.eq.ensures ∙ simp (and_assoc, c.no_change.ensures) refl
