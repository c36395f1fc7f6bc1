-- What an event does to a context that hears it (01, "What an event does"): the context after it, or none after a release, and the
-- record that it closes, if it closes one.
use Rattle.std.specs.Prelude.{Bool, cond, ◌&&◌, [], ◌∷◌, ℕ, ◌+◌, ◌/◌, ◌%◌, eqb}
use Rattle.std.specs.Prelude.{Option, None, Some}
use Rattle.calendar.specs.declared.Stamp.{Stamp}
use Rattle.container.specs.declared.Qos.{Qos}
use Rattle.container.specs.declared.OpenRecord.{OpenRecord}
use Rattle.container.specs.Qos.{same_qos}
use Rattle.container.specs.Open as O
use Rattle.scdr.specs.declared.Record.{Record}
use Rattle.limits.specs.Sets.{limits_of}
use Rattle.profile.specs.declared.Profile.{Profile}
use Rattle.context.specs.declared.Context.{Context}
use Rattle.history.specs.Lists.{is_some, or_else, test}
use Rattle.history.specs.Table.{Step}
use Rattle.node.specs.declared.Message.{Message}
use Rattle.node.specs.declared.Settings.{Settings}

-- ---- reports, changes, closings of an open record

-- "Traffic adds both volumes; a report is never divided."
unfoldable pub reported : OpenRecord → Message → OpenRecord
reported o m = O.reported o m.up m.down

-- the QoS in force afterwards
unfoldable pub qos_after : OpenRecord → Message → Qos
qos_after o m = cond m.brings m.qos o.qos

-- "QoS to a different profile ends the container, condition 0. To the same profile: no change. Tariff ends the container .. condition 1"
unfoldable pub change_of : OpenRecord → Message → Option ℕ
change_of o m = cond m.brings (cond (same_qos o.qos m.qos) None (Some 0)) (test m.tariff 1)

-- The five closing conditions, with their causes: "(16) after a traffic event, uplink plus downlink since the record opened is at least
-- the volume limit; (17) at a tick, now minus opening is at least the time limit; (19) the record's QoS and tariff changes reach the
-- change limit; (20) management; (0, 4, 18) release with that cause". The last two need no limit. The limits are those that the record opened with (02,
-- W6).
unfoldable pub limit_met : OpenRecord → ℕ → Message → Option ℕ
limit_met o t m =
    or_else (test (m.counts && O.volume_met (reported o m)) 16)
    (or_else (test (m.ticks && O.time_met t o) 17)
    (test (is_some (change_of o m) && O.changes_met o) 19))

unfoldable pub closing : OpenRecord → ℕ → Message → Option ℕ
closing o t m = cond m.closes (Some m.cause) (limit_met o t m)

-- ---- what then stands

-- a time of this node
abbrev pub time_at : Profile → ℕ → Stamp
time_at p t = record { seconds = t; zone = p.zone }

-- a context with another open record, and so many closed before it
abbrev pub going : Context → OpenRecord → ℕ → Context
going c o closed = record {
  active = c.active;
  flags = c.flags;
  set = c.set;
  name = c.name;
  imsi = c.imsi;
  apn = c.apn;
  apnlen = c.apnlen;
  pdptype = c.pdptype;
  address = c.address;
  current = o;
  closed = closed;
}

-- "Number: 1 for the first, absent if release closes an activation with no earlier record." 0 where it is absent.
unfoldable pub number_for : ℕ → Bool → ℕ
number_for closed released = cond (released && eqb closed 0) 0 (closed + 1)

-- The closed record, whose last container has ended. The SGSN change stands "only in the first record of an activation with bit 1".
unfoldable pub record_of : Profile → Context → OpenRecord → ℕ → ℕ → Record
record_of p c o cause number = record {
  network = eqb (c.flags % 2) 1;
  imsi = c.imsi;
  sgsn = p.sgsn;
  charging = c.name.id;
  ggsn = c.name.ggsn;
  apn = c.apn;
  apnlen = c.apnlen;
  pdptype = c.pdptype;
  address = c.address;
  containers = o.containers;
  count = o.count;
  opening = o.opening;
  change = eqb (c.flags / 2 % 2) 1 && eqb c.closed 0;
  cause = cause;
  number = number;
  nodeid = p.nodeid;
  nodelen = p.nodelen;
}

-- ---- hearing: "the cut lies after its report"

-- the open record where nothing closes, by the condition of a change
unfoldable pub goes_on : Profile → OpenRecord → ℕ → Message → Option ℕ → OpenRecord
goes_on p o t m None = reported o m
goes_on p o t m (Some condition) = O.changed (reported o m) condition (time_at p t) (qos_after o m)

-- The record that closes with a cause: "Closing ends the running container once, with condition 2".
unfoldable pub closed_by : Profile → Context → ℕ → Message → ℕ → Record
closed_by p c t m cause = record_of p c (O.ended (reported c.current m) 2 (time_at p t)) cause (number_for c.closed m.releases)

-- the context after it, none where it was released: "the next record opens at the same time with the QoS now in force", and "takes the current edition"
-- of its set (02, W6)
unfoldable pub after_closing : Profile → Settings → Context → ℕ → Message → Option Context
after_closing p g c t m =
    cond m.releases None
    (Some (going c (O.opened (time_at p t) (qos_after c.current m) (limits_of c.set g.sets)) (c.closed + 1)))

-- p is the node's profile, g what it is set to
unfoldable pub hear_with : Profile → Settings → Context → ℕ → Message → Option ℕ → Step Context Record
hear_with p g c t m None = record { next = Some (going c (goes_on p c.current t m (change_of c.current m)) c.closed); out = [] }
hear_with p g c t m (Some cause) = record { next = after_closing p g c t m; out = closed_by p c t m cause ∷ [] }

unfoldable pub hear : Profile → Settings → Context → ℕ → Message → Step Context Record
hear p g c t m = hear_with p g c t m (closing c.current t m)
