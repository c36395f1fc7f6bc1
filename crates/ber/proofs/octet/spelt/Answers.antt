-- `ber::octet::spelt` meets its contract: the number spelt so far fits as many octets as were read.
use mathlib.Core.Path.{refl, ap₂, ◌∙◌}
use Prim.Native.Nat.{ℕ, ◌+◌, ◌*◌, ◌<◌}
use native.Mathlib.Omega.{arith}
use lib.ListN.{length}
use Rattle.ber.specs.Int.{spelt, all_octets}
use Rattle.ber.proofs.Numbers.{fits_more, spelt_more, octets_more}
use Rattle.ber.proofs.octet.spelt.Goals as goal

pub loop-x-init : goal.loop-x-init
unfolding spelt all_octets
loop-x-init c = (refl, omega arith, tt)

pub overflow_mul-v : goal.overflow_mul-v
overflow_mul-v c = let l = c.loop-x in omega (arith, (fits_more l.v 0 l.x-index l.invariant.1 (omega arith) (omega arith)).0)

pub loop-x-preserved : goal.loop-x-preserved
loop-x-preserved c =
    let l = c.loop-x in
    let s = c.args.s.now in
    let h : l.x-index < length s = omega arith in (
      ap₂ (λ (x y : ℕ). x * 256 + y) l.invariant.0 c.from.ensures ∙ spelt_more s l.x-index h,
      (fits_more l.v c.from.result l.x-index l.invariant.1 (omega arith) (omega arith)).1,
      octets_more s l.x-index h (omega arith) l.invariant.2,
    )
