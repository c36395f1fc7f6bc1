-- `scdr::duration::duration` meets its contract.
use mathlib.Core.Path.{◌≡◌, ◌∙◌}
use native.Mathlib.Omega.{arith}
use lib.ListN.{length}
use borrow.Author.Rules.{rules}
use Rattle.container.specs.Container.{no_container}
use Rattle.scdr.proofs.Durations.{duration_none, duration_is}
use Rattle.scdr.proofs.duration.duration.Goals as goal

pub returns-then-n-eq0 : goal.returns-then-n-eq0
returns-then-n-eq0 c = duration_none _ c.args.v c.args.n c.if-n-eq0.true

pub returns : goal.returns
returns c =
    let a = c.args in
    let l : length a.v ≡ 15 = search rules in
    c.lasted.ensures ∙ duration_is a.opening.seconds a.v a.n no_container (omega arith) (omega (arith, c.requires))
