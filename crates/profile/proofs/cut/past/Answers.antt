-- `profile::cut::past` meets its contract.
use Rattle.profile.proofs.Marks.{past_drop}
use Rattle.profile.proofs.cut.past.Goals as goal

pub returns : goal.returns
returns c = let a = c.args in rw (c.rest.ensures, c.ahead.ensures.0) (past_drop a.x a.s.now)
