-- `mcdr::closing::number_ok` meets its contract.
use mathlib.Core.Path.{sym, ◌∙◌}
use Rattle.mcdr.specs.Rules.{number_ok}
use Rattle.mcdr.proofs.closing.number_ok.Goals as goal

pub returns-then-is_detach : goal.returns-then-is_detach
unfolding number_ok
returns-then-is_detach c = let e = sym c.is_detach.ensures ∙ c.if-is_detach.true in rw e

pub returns : goal.returns
unfolding number_ok
returns c = let e = sym c.is_detach.ensures ∙ c.if-is_detach.false in rw e
