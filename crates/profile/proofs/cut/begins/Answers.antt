-- `profile::cut::begins` meets its contract.
use mathlib.Core.Path.{◌∙◌}
use Rattle.profile.proofs.Marks.{begins_test}
use Rattle.profile.proofs.cut.begins.Goals as goal

pub returns : goal.returns
returns c = let a = c.args in c.starts_with.ensures.value ∙ begins_test a.name.now a.s.now
