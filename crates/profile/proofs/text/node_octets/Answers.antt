-- `profile::text::node_octets` meets its contract.
use Rattle.profile.proofs.Nodes.{copied}
use Rattle.profile.proofs.text.node_octets.Goals as goal

pub returns : goal.returns
returns c = copied c.args.v.now c.front-w.ensures c.copy_from_slice.ensures.after
