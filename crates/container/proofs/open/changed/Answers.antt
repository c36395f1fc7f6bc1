-- `container::open::changed` meets its contract.
use mathlib.Core.Path.{sym, ◌∙◌}
use mathlib.Core.Bool.{◌&&◌, and-false}
use lib.Dec.{ltb}
use lib.ListN.{drop}
use borrow.Author.Tests.{le-ltb, lt-ltb, not-true, not-false}
use Rattle.container.specs.List.{blanks}
use Rattle.container.proofs.open.changed.Goals as goal

pub returns-then-o-ge255 : goal.returns-then-o-ge255
returns-then-o-ge255 c =
    let o = c.args.o in rw (
      le-ltb o.changes 255 c.if-o-ge255.true,
      and-false
          (ltb o.count 15 && blanks (drop o.count o.containers)),
    )

pub returns-then-o-ge15 : goal.returns-then-o-ge15
returns-then-o-ge15 c = rw (le-ltb c.args.o.count 15 c.if-o-ge15.true)

pub returns-then-not-unused_blank : goal.returns-then-not-unused_blank
returns-then-not-unused_blank c =
    rw (
      lt-ltb c.args.o.count 15 c.if-o-ge15.false,
      sym c.unused_blank.ensures
          ∙ not-true _ c.if-not-unused_blank.true-raw,
    )

pub returns : goal.returns
returns c =
    let o = c.args.o in
    rw (
      c.ended-n.ensures,
      lt-ltb o.count 15 c.if-o-ge15.false,
      sym c.unused_blank.ensures ∙ not-false _ c.if-not-unused_blank.false-raw,
      lt-ltb o.changes 255 c.if-o-ge255.false,
    )
