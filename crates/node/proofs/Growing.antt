-- What a report leaves, and what stands after a closing.
use mathlib.Core.Path.{◌≡◌, ap}
use mathlib.Core.Bool.{Bool, true, false, cond}
use Rattle.std.specs.Prelude.{None, Some}
use Prim.Native.Nat.{ℕ, ◌+◌, ◌<◌}
use lib.Dec.{ltb}
use borrow.Author.Tests.{lt-ltb}
use Rattle.container.specs.declared.OpenRecord.{OpenRecord}
use Rattle.container.specs.Open.{roomy}
use Rattle.container.specs.Open as O
use Rattle.limits.specs.Sets.{limits_of}
use Rattle.profile.specs.declared.Profile.{Profile}
use Rattle.context.specs.declared.Context.{Context}
use Rattle.context.specs.Context.{no_context}
use Rattle.node.specs.declared.Message.{Message}
use Rattle.node.specs.declared.Settings.{Settings}
use Rattle.node.specs.Hear.{reported, qos_after, time_at, going, after_closing}
use Rattle.node.specs.Step.{stood}

pub roomy_reported : (o : OpenRecord) (m : Message) → roomy o ≡ true → roomy (reported o m) ≡ true
unfolding reported
roomy_reported o m r = r

pub fewer_reported : (o : OpenRecord) (m : Message) → o.changes < 255 → ltb (reported o m).changes 255 ≡ true
unfolding reported
fewer_reported o m r = lt-ltb o.changes 255 r

-- after a release nothing; else the next record
module _ (p : Profile) (gs : Settings) (c : Context) (t : ℕ) (m : Message) where
  abbrev next : Bool → Context
  next b = stood (cond b None (Some (going c (O.opened (time_at p t) (qos_after c.current m) (limits_of c.set gs.sets)) (c.closed + 1))))

  pub after_release : m.releases ≡ true → stood (after_closing p gs c t m) ≡ no_context
  unfolding after_closing
  after_release e = ap next e

  pub after_other : m.releases ≡ false → stood (after_closing p gs c t m) ≡ going c (O.opened (time_at p t) (qos_after c.current m) (limits_of c.set gs.sets)) (c.closed + 1)
  unfolding after_closing
  after_other e = ap next e
