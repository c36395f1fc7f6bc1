-- `profile::address::octet_of` meets its contract.
use native.Mathlib.Omega.{arith}
use mathlib.Core.Path.{◌∙◌}
use Rattle.profile.specs.Address.{octet_of}
use Rattle.profile.proofs.Numbers.{capped}
use Rattle.profile.proofs.address.octet_of.Goals as goal

pub returns : goal.returns
unfolding octet_of
returns c =
    let e = c.min.ensures ∙ rw c.number.ensures (capped 255 c.args.v.now (omega arith)) in
    (e, omega arith)
