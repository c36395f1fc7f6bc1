-- `scdr::closing::number_ok` meets its contract.
use mathlib.Core.Path.{sym, ◌∙◌}
use Rattle.scdr.specs.Rules.{number_ok}
use Rattle.scdr.proofs.closing.number_ok.Goals as goal

pub returns-then-is_release : goal.returns-then-is_release
unfolding number_ok
returns-then-is_release c = let e = sym c.is_release.ensures ∙ c.if-is_release.true in rw e

pub returns : goal.returns
unfolding number_ok
returns c = let e = sym c.is_release.ensures ∙ c.if-is_release.false in rw e
