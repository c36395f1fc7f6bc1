-- `profile::cut::up_to` meets its contract.
use mathlib.Core.Path.{sym}
use lib.Seq.{length-take-le}
use Rattle.profile.proofs.Marks.{up_to_take}
use Rattle.profile.proofs.cut.up_to.Goals as goal

pub slice_bounds-result-end : goal.slice_bounds-result-end
slice_bounds-result-end c = sym (length-take-le _ _ c.ahead.ensures.1)

pub returns : goal.returns
returns c = let a = c.args in rw c.ahead.ensures.0 (up_to_take a.x a.s.now)
