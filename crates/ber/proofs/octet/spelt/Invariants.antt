-- `ber::octet::spelt` meets its contract: the number spelt so far fits as many octets as were read.
use mathlib.Core.Path.{◌≡◌}
use Prim.Native.Nat.{◌^◌, ◌<◌}
use lib.Dec.{T}
use lib.ListN.{take}
use Rattle.ber.specs.Int.{spelt, all_octets}
use Rattle.ber.proofs.octet.spelt.Given as goal

abbrev pub invariant-loop-x : goal.invariant-loop-x
invariant-loop-x l = (l.v ≡ spelt 0 (take l.x-index l.s)) × (l.v < 256 ^ l.x-index) × T (all_octets (take l.x-index l.s))
