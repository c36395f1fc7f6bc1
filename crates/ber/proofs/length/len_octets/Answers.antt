-- `ber::length::len_octets` meets its contract: a law for each form.
use mathlib.Core.Path.{refl}
use native.Mathlib.Omega.{arith}
use Rattle.ber.specs.Write.{zeros}
use Rattle.ber.proofs.Lengths.{len_1, len_2, len_3}
use Rattle.ber.proofs.length.len_octets.Goals as goal

pub returns-in-0-to-127 : goal.returns-in-0-to-127
unfolding zeros
returns-in-0-to-127 c = (omega arith, rw (len_1 c.args.len (omega arith)) (record { size = refl; octets = refl }))

pub returns-in-128-to-255 : goal.returns-in-128-to-255
unfolding zeros
returns-in-128-to-255 c = (omega arith, rw (len_2 c.args.len (omega arith) (omega arith)) (record { size = refl; octets = refl }))

pub returns-in-256-to-65535 : goal.returns-in-256-to-65535
unfolding zeros
returns-in-256-to-65535 c = (omega arith, rw (len_3 c.args.len (omega arith)) (record { size = refl; octets = refl }))
