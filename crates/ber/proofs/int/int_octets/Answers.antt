-- `ber::int::int_octets` meets its contract: as many of the lowest octets as the number takes are its shortest form.
use native.Mathlib.Omega.{arith}
use Rattle.ber.specs.Write.{zeros}
use Rattle.ber.proofs.Numbers.{lowest_holds}
use Rattle.ber.proofs.int.int_octets.Goals as goal

pub returns : goal.returns
unfolding zeros
returns c = lowest_holds c.args.v c.width-n.result _ (omega arith) c.width-n.ensures.0 c.put_lowest.ensures
