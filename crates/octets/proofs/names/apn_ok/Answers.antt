-- `octets::names::apn_ok` meets its contract.
use mathlib.Core.Path.{◌≡◌}
use lib.ListN.{length}
use borrow.Author.Rules.{rules}
use borrow.Author.Tests.{le-leb, lt-leb}
use Rattle.octets.specs.Names.{apn_ok}
use Rattle.octets.proofs.Stored.{apn_is}
use Rattle.octets.proofs.names.apn_ok.Goals as goal

pub returns-then-n-ge1 : goal.returns-then-n-ge1
returns-then-n-ge1 c =
    let a = c.args in
    let l : length a.apn ≡ 63 = search rules in
    rw (le-leb 1 a.n c.if-n-ge1.true) at (apn_is a.apn a.n l c.is_stored.ensures)

pub returns-else-n-ge1 : goal.returns-else-n-ge1
unfolding apn_ok
returns-else-n-ge1 c = rw (lt-leb 1 c.args.n c.if-n-ge1.false)
