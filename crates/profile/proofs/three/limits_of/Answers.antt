-- `profile::three::limits_of` meets its contract.
use Prim.Native.Nat.{◌-◌, ◌^◌}
use native.Mathlib.Omega.{arith}
use Rattle.profile.specs.Three.{seconds_in, changes_in, limits_of}
use Rattle.profile.proofs.Numbers.{capped}
use Rattle.profile.proofs.three.limits_of.Goals as goal

pub returns : goal.returns
unfolding limits_of
returns c =
    let v = c.args.v.now in
    rw (
      c.min-2.ensures,
      c.min.ensures,
      c.number-c.ensures,
      c.past.ensures,
      c.number-b.ensures,
      c.up_to-2.ensures,
      c.number-a.ensures,
      c.up_to.ensures,
      c.past-w.ensures,
      capped (2 ^ 32 - 1) (seconds_in v) (omega arith),
      capped 255 (changes_in v) (omega arith),
    )
