-- `profile::cut::has` meets its contract.
use mathlib.Core.Path.{◌∙◌}
use Rattle.profile.proofs.Marks.{has_test}
use Rattle.profile.proofs.cut.has.Goals as goal

pub returns : goal.returns
returns c = let a = c.args in c.contains.ensures.value ∙ has_test a.x a.s.now
