-- `profile::text::profile_of` meets its contract.
use native.Mathlib.Omega.{arith}
use Rattle.profile.specs.Text.{profile_by, profile_of}
use Rattle.profile.proofs.Places.{sets_few}
use Rattle.profile.proofs.text.profile_of.Goals as goal

pub overflow_add-sets : goal.overflow_add-sets
overflow_add-sets c = omega (arith, c.sets_in-sets.ensures, sets_few c.args.s.now)

pub overflow_add-sets-2 : goal.overflow_add-sets-2
overflow_add-sets-2 c = omega (arith, c.sets_in-sets.ensures, sets_few c.args.s.now)

pub returns : goal.returns
unfolding profile_of profile_by
returns c =
    rw (
      c.node_octets-nodeid.ensures,
      c.value-id.ensures,
      c.zone-zone.ensures,
      c.value-2.ensures,
      c.limits_in-limits.ensures,
      c.lines_past.ensures,
      c.address-sgsn.ensures,
      c.value.ensures,
      c.sets_in-sets.ensures,
    )
