-- `container::open::reported` meets its contract.
use Prim.Native.Nat.{◌^◌}
use borrow.Author.Tests.{le-ltb, lt-ltb}
use Rattle.container.proofs.open.reported.Goals as goal

pub returns-then-o-ge9223372036854775808 : goal.returns-then-o-ge9223372036854775808
returns-then-o-ge9223372036854775808 c = rw (le-ltb c.args.o.uplink (2 ^ 63) c.if-o-ge9223372036854775808.true)

pub returns-then-o-ge9223372036854775808-2 : goal.returns-then-o-ge9223372036854775808-2
returns-then-o-ge9223372036854775808-2 c =
    let o = c.args.o in
    rw (lt-ltb o.uplink (2 ^ 63) c.if-o-ge9223372036854775808.false, le-ltb o.downlink (2 ^ 63) c.if-o-ge9223372036854775808-2.true)

pub returns : goal.returns
returns c =
    let o = c.args.o in
    rw (lt-ltb o.uplink (2 ^ 63) c.if-o-ge9223372036854775808.false, lt-ltb o.downlink (2 ^ 63) c.if-o-ge9223372036854775808-2.false, c.from.ensures, c.from-2.ensures)
