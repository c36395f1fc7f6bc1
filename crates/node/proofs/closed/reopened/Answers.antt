-- `node::closed::reopened` meets its contract.
use mathlib.Core.Path.{◌≡◌}
use lib.ListN.{length}
use Rattle.format.proofs.Arrays.{length_of_map}
use Rattle.node.proofs.FullRecords.{goes_on_lem}
use borrow.Author.Rules.{rules}
use Rattle.node.proofs.closed.reopened.Goals as goal

pub returns-then-c-ne0 : goal.returns-then-c-ne0
returns-then-c-ne0 c = rw (c.opened-o.ensures, c.limits_of-limits.ensures)

pub returns : goal.returns
returns c =
    let places : length c.args.c.current.containers ≡ 15 =
    search (rules, length_of_map, c.well_formed.1.1.0.1.1.1.1.1.1.1.1.1.1.1.0.1.1.1.1.1.1) in
    rw c.limits_of-limits.ensures (goes_on_lem c.args.p c.args.c c.args.t places c.requires.0 _ c.if-c-ne0.false)
