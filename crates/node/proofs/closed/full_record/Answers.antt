-- `node::closed::full_record` meets its contract.
use mathlib.Core.Path.{◌≡◌}
use Prim.Native.Nat.{◌<◌}
use native.Mathlib.Omega.{arith}
use lib.ListN.{length}
use Rattle.format.proofs.Arrays.{length_of_map}
use Rattle.node.proofs.FullRecords.{below, full_record}
use borrow.Author.Rules.{rules}
use Rattle.node.proofs.closed.full_record.Goals as goal

pub offset_bounds-r-at : goal.offset_bounds-r-at
offset_bounds-r-at c =
    let places : length c.args.c.current.containers ≡ 15 =
    search (rules, length_of_map, c.well_formed.1.0.1.1.1.1.1.1.1.1.1.1.1.0) in
    let few : c.args.c.current.count < 15 =
    below c.args.c.current places c.requires.place in
    omega (arith, few)

pub bounds-r-at : goal.bounds-r-at
bounds-r-at c =
    let places : length c.args.c.current.containers ≡ 15 =
    search (rules, length_of_map, c.well_formed.1.0.1.1.1.1.1.1.1.1.1.1.1.0) in
    let few : c.args.c.current.count < 15 =
    below c.args.c.current places c.requires.place in
    few

pub overflow_add-r : goal.overflow_add-r
overflow_add-r c =
    let places : length c.args.c.current.containers ≡ 15 =
    search (rules, length_of_map, c.well_formed.1.0.1.1.1.1.1.1.1.1.1.1.1.0) in
    let few : c.args.c.current.count < 15 =
    below c.args.c.current places c.requires.place in
    omega (arith, few)

pub returns : goal.returns
returns c =
    let places : length c.args.c.current.containers ≡ 15 =
    search (rules, length_of_map, c.well_formed.1.0.1.1.1.1.1.1.1.1.1.1.1.0) in
    let a = c.args in
    full_record a.p a.c a.t places c.requires.place a.up a.down c.record_of-r.ensures
