-- `profile::offset::zone` meets its contract.
use mathlib.Core.Path.{◌∙◌, sym}
use Prim.Native.Nat.{◌-◌, ◌^◌}
use native.Mathlib.Omega.{arith}
use lib.ListN.{drop}
use Rattle.profile.specs.Offset.{zone_of}
use Rattle.profile.specs.Number.{numeral}
use Rattle.profile.proofs.Numbers.{west_most, east_most}
use Rattle.profile.proofs.offset.zone.Goals as goal

pub returns-then-is_minus : goal.returns-then-is_minus
unfolding zone_of
returns-then-is_minus c =
    rw (
      c.west.ensures,
      c.number.ensures,
      c.rest.ensures,
      west_most (2 ^ 64 - 1) (numeral 0 (drop 1 c.args.v.now)) (omega arith),
      sym c.is_minus.ensures ∙ c.if-is_minus.true,
    )

pub returns-else-is_minus : goal.returns-else-is_minus
unfolding zone_of
returns-else-is_minus c =
    rw (
      c.east.ensures,
      c.number-else-is_minus.ensures,
      east_most (2 ^ 64 - 1) (numeral 0 c.args.v.now) (omega arith),
      sym c.is_minus.ensures ∙ c.if-is_minus.false,
    )
