-- `container::open::ended` meets its contract.
use mathlib.Core.Path.{◌≡◌, sym, ◌∙◌}
use lib.ListN.{length}
use borrow.Author.Tests.{le-ltb, lt-ltb, not-true, not-false}
use borrow.Author.Rules.{rules}
use Rattle.format.proofs.Arrays.{length_of_map}
use Rattle.container.proofs.OpenRules.{places, more}
use Rattle.container.proofs.open.ended.Goals as goal

pub returns-then-o-ge15 : goal.returns-then-o-ge15
returns-then-o-ge15 c = rw (le-ltb c.args.o.count 15 c.if-o-ge15.true)

pub returns-then-not-unused_blank : goal.returns-then-not-unused_blank
returns-then-not-unused_blank c =
    rw (
      lt-ltb c.args.o.count 15 c.if-o-ge15.false,
      sym c.unused_blank.ensures
          ∙ not-true _ c.if-not-unused_blank.true-raw,
    )

pub returns : goal.returns
returns c =
    let placed : length c.args.o.containers ≡ 15 =
    search (rules, length_of_map) in
    let a = c.args in
    let few = c.if-o-ge15.false in
    let unused = sym c.unused_blank.ensures ∙ not-false _ c.if-not-unused_blank.false-raw in
    let l = placed in
    rw (
      lt-ltb a.o.count 15 few,
      unused,
      places a.o few unused l a.condition a.now c.running.ensures,
      more a.o few unused l
          a.condition a.now,
    )
