-- `octets::names::node_ok` meets its contract.
use mathlib.Core.Path.{◌≡◌}
use lib.ListN.{length}
use borrow.Author.Rules.{rules}
use Rattle.octets.proofs.Stored.{node_is}
use Rattle.octets.proofs.names.node_ok.Goals as goal

pub returns : goal.returns
returns c =
    let a = c.args in
    let l : length a.nodeid ≡ 20 = search rules in
    node_is a.nodeid a.n l c.is_stored.ensures
