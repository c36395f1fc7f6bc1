-- `scdr::read::passes` meets its contract.
use mathlib.Core.Path.{sym, ap, ◌∙◌}
use lib.Dec.{eqb}
use Rattle.format.proofs.Tests.{true_T}
use Rattle.scdr.specs.Rules.{within, duration}
use Rattle.scdr.proofs.Views.{withins, places_rules}
use Rattle.scdr.proofs.Accepting.{and_no, and_yes}
use Rattle.scdr.proofs.read.passes.Goals as goal

pub returns-then-not-within : goal.returns-then-not-within
returns-then-not-within c = and_no (eqb c.args.lasts (duration c.args.r)) (sym c.within.ensures ∙ c.if-not-within.true)

pub duration-requires : goal.duration-requires
duration-requires c =
    let r = c.args.r in
    (places_rules r (withins r (true_T (within r) (sym c.within.ensures ∙ c.if-not-within.false))).list).most

pub returns : goal.returns
unfolding duration
returns c =
    let a = c.args in
    ap (eqb a.lasts) c.duration.ensures ∙ and_yes (eqb a.lasts (duration a.r)) (sym c.within.ensures
    ∙ c.if-not-within.false)
