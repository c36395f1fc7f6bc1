-- How the code says what may be missing, and what it may count on while it works.
use Rattle.std.specs.Prelude.{◌≡◌, true, false, List, ℕ, ◌^◌, ◌≤◌, ◌<◌}
use Rattle.container.specs.Qos.{qos_ok}
use Rattle.container.specs.Open.{ample, roomy}
use Rattle.event.specs.Fields.{release}
use Rattle.profile.specs.declared.Profile.{Profile}
use Rattle.profile.specs.Profile.{profile_ok}
use Rattle.limits.specs.Sets.{sets_ok}
use Rattle.context.specs.declared.Context.{Context}
use Rattle.context.specs.Sound.{context_ok, slot_ok, slots_ok}
use Rattle.node.specs.declared.Message.{Message}
use Rattle.node.specs.declared.Settings.{Settings}
use Rattle.history.specs.Lists.{All}
use Rattle.node.specs.Sound.{latest, most_accepted}
use Rattle.node.specs.Held.{Shaped}

-- what an event in range is to a context: nothing is reported where nothing is counted; a QoS is in range; a release closes with its cause,
-- and what closes without one closes with 20
pub record InRange (m : Message) : Type 0 where
  pub uncounted : m.counts ≡ false → (m.up ≡ 0) × (m.down ≡ 0)
  pub qos : m.brings ≡ true → qos_ok m.qos ≡ true
  pub released : m.releases ≡ true → (m.closes ≡ true) × (release m.cause ≡ true)
  pub managed : m.closes ≡ true → m.releases ≡ false → m.cause ≡ 20

-- a report is of four octets each way
pub record ReportFits (m : Message) : Type 0 where
  pub up : m.up < 2 ^ 32
  pub down : m.down < 2 ^ 32

-- counters, a place and numbers that can take one more
pub record CanGrow (c : Context) : Type 0 where
  pub counters : ample c.current ≡ true
  pub place : roomy c.current ≡ true
  pub changes : c.current.changes < 255
  pub closed : c.closed < most_accepted

-- a time that a sound node takes, its profile, and what it is set to
pub record Due (p : Profile) (g : Settings) (t : ℕ) : Type 0 where
  pub clock : ℕ
  pub accepted : ℕ
  pub profile : profile_ok p ≡ true
  pub sets : sets_ok p.sets g.sets ≡ true
  pub since : clock ≤ t
  pub until : t ≤ latest
  pub few : accepted < most_accepted

-- then: an active context, a slot, the whole table
pub record SoundContext (p : Profile) (g : Settings) (t : ℕ) (c : Context) : Type 0 where
  pub due : Due p g t
  pub sound : context_ok p.sets p.zone due.clock due.accepted c ≡ true

pub record SoundSlot (p : Profile) (g : Settings) (t : ℕ) (c : Context) : Type 0 where
  pub due : Due p g t
  pub sound : slot_ok p.sets p.zone due.clock due.accepted c ≡ true
  pub shape : Shaped c

pub record SoundTable (p : Profile) (g : Settings) (t : ℕ) (cs : List Context) : Type 0 where
  pub due : Due p g t
  pub sound : slots_ok p.sets p.zone due.clock due.accepted cs ≡ true
  pub shapes : All Shaped cs
