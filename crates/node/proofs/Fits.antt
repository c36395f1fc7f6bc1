-- What a sound context says, as the code and the laws want it.
use Prim.Native.Nat.{ℕ, ◌^◌, ◌<◌}
use native.Mathlib.Omega.{arith}
use borrow.Author.Tests.{lt-ltb}
use Rattle.limits.proofs.Ranges.{LimitsHold, limits_hold}
use Rattle.profile.specs.declared.Profile.{Profile}
use Rattle.context.specs.declared.Context.{Context}
use Rattle.context.proofs.Sounds.{Good, good}
use Rattle.node.specs.declared.Settings.{Settings}
use Rattle.node.specs.Private.Premises.{CanGrow, SoundContext}

module _ (p : Profile) (gs : Settings) (t : ℕ) (c : Context) (a : SoundContext p gs t c) where
  pub apt_good : Good p.sets p.zone a.due.clock a.due.accepted c
  apt_good = good p.sets p.zone a.due.clock a.due.accepted c a.sound

  -- the limits of its open record
  pub apt_limits : LimitsHold c.current.limits
  apt_limits = limits_hold c.current.limits apt_good.current.limits

  pub apt_grows : CanGrow c
  apt_grows =
      let g = apt_good.current in
      let f = apt_limits in
      record {
        counters =
            rw (
              lt-ltb c.current.uplink (2 ^ 63) (omega (arith, g.volume, f.few_octets)),
              lt-ltb c.current.downlink (2 ^ 63)
                  (omega (arith, g.volume, f.few_octets)),
            );
        place = rw (lt-ltb c.current.count 15 (omega (arith, g.count, g.changes, f.few_changes)), g.unused);
        changes = omega (arith, g.changes, f.few_changes);
        closed = omega (arith, apt_good.closed, a.due.few);
      }

  pub apt_few : c.current.count < 15
  apt_few =
      let g = apt_good.current in
      let f = apt_limits in
      omega (arith, g.count, g.changes, f.few_changes)
