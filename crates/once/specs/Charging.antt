-- What is charged of a PDP context, as 01 says it, in 01's order: what an event's octets mean, what an event does to a context's
-- history, and the S-CDR and the stored context that a history makes. Histories, stretches and records are those of the crate
-- `history`. Nothing here says how the node works.
use Rattle.std.specs.Prelude.{◌≡◌, Bool, true, cond, ◌&&◌, List, map, ℕ, ◌+◌, ◌-◌, ◌/◌, ◌%◌, ◌≤◌, leb, eqb, length, get_or}
use Rattle.std.specs.Prelude.{Option, None, Some}
use Rattle.ber.specs.Int.{number_in}
use Rattle.calendar.specs.declared.Stamp.{Stamp}
use Rattle.container.specs.declared.Qos.{Qos}
use Rattle.container.specs.declared.Container.{Container}
use Rattle.container.specs.Qos.{same_qos}
use Rattle.container.specs.List.{padded}
use Rattle.scdr.specs.declared.Record as scdr
use Rattle.ber.specs.Field.{or_zero}
use Rattle.octets.specs.Filled.{fill_to}
use Rattle.limits.specs.declared.Limits.{Limits}
use Rattle.limits.specs.declared.LimitSet.{LimitSet}
use Rattle.limits.specs.Sets.{first_editions, limits_of, replaced}
use Rattle.profile.specs.declared.Profile.{Profile}
use Rattle.event.specs.declared.Name.{Name}
use Rattle.event.specs.Fields.{kind_of, name_of, qos_at, flags_of, imsi_of, apn_of, set_of, cause_of, limits_at}
use Rattle.context.specs.declared.Context.{Context}
use Rattle.node.specs.declared.Settings.{Settings}
use Rattle.history.specs.Lists.{is_some, test}
use Rattle.history.specs.History.{History, ◌▸◌∶◌, began, began_with, standing, total, tally}
use Rattle.history.specs.Records.{Rules, Stretch, Record, Open, whole}
use Rattle.history.specs.Log.{Said, activates, tells, tells_all, nothing, Meaning}
use Rattle.history.specs.Demand.{Forms}

-- ---- 01, "Events": what they say

-- What an activation brings, and no event changes: the flags, the IMSI's octets, the APN's with its letters lowered (02, W5: `apn_of`), the PDP type,
-- the PDP address, and the number of its set of limits (02, W6).
pub record Brought : Type 0 where
  pub flags : ℕ
  pub imsi : List ℕ
  pub apn : List ℕ
  pub pdptype : ℕ
  pub address : ℕ
  pub set : ℕ

-- What is in force for a context: what it brought, its QoS, and what the node is set to, the editions of the sets of limits (02, W6).
pub record Force : Type 0 where
  pub brought : Brought
  pub qos : Qos
  pub settings : Settings

-- What a context hears: a report of octets up and down, a QoS, a tariff change, its release with a cause, a tick, management; and that the set of a
-- number was replaced (02, W6: "the replacing event is in every history").
pub data Heard : Type 0 where
  traffic : ℕ → ℕ → Heard
  qos : Qos → Heard
  tariff : Heard
  release : ℕ → Heard
  tick : Heard
  management : Heard
  replaces : ℕ → LimitSet → Heard

-- What an activation's octets put in force: "flags 1, IMSI 8, PDP type 2, PDP address 4, QoS 5", its set, "n 1, APN n"; by what the node is set to: "those
-- accepted before an activation give the editions it starts from" (02, W6)
abbrev pub in_force_by : Settings → List ℕ → Force
in_force_by g s = record {
  brought = record {
    flags = flags_of s;
    imsi = imsi_of s;
    apn = apn_of s;
    pdptype = number_in 2 24 s;
    address = number_in 4 26 s;
    set = set_of s;
  };
  qos = qos_at 30 s;
  settings = g;
}

-- "set 1, edition 2, volume 8, time 4, changes 1": the number of the set, and what it is then
abbrev pub number_of : List ℕ → ℕ
number_of s = get_or s 7 0

abbrev pub new_set : List ℕ → LimitSet
new_set s = record { edition = number_in 2 8 s; limits = limits_at s }

-- a set "replaced whole"
abbrev pub resettled : ℕ → LimitSet → Settings → Settings
resettled number x g = record { sets = replaced number x g.sets }

-- The table of kinds: an activation, four kinds that name a context, and a tariff, a tick and a replacement, which every context hears.
unfoldable pub says : List ℕ → Said Settings Name Force Heard
says s =
    cond (eqb (kind_of s) 1) (activates (name_of s) (λ g. in_force_by g s))
    (cond (eqb (kind_of s) 2) (tells (name_of s) (Heard.traffic (number_in 4 15 s) (number_in 4 19 s)))
    (cond (eqb (kind_of s) 3) (tells (name_of s) (Heard.qos (qos_at 15 s)))
    (cond (eqb (kind_of s) 4) (tells_all Heard.tariff)
    (cond (eqb (kind_of s) 5) (tells (name_of s) (Heard.release (cause_of s)))
    (cond (eqb (kind_of s) 6) (tells_all Heard.tick)
    (cond (eqb (kind_of s) 7) (tells (name_of s) Heard.management)
    (cond (eqb (kind_of s) 12) (tells_all (Heard.replaces (number_of s) (new_set s)))
    nothing)))))))

-- What the node is set to after an event: a replacement changes it, and no other event does.
unfoldable pub settles : Settings → List ℕ → Settings
settles g s = cond (eqb (kind_of s) 12) (resettled (number_of s) (new_set s) g) g

-- A fresh node is set to what its profile gives: "1 to 8 numbered from 1, edition 1" (02, W6).
abbrev pub settings_of : Profile → Settings
settings_of p = record { sets = first_editions p.sets p.limits }

-- "A context is named by charging ID and GGSN address."
abbrev pub same : Name → Name → Bool
same a b = eqb a.id b.id && eqb a.ggsn b.ggsn

abbrev pub meaning : Meaning Settings Name Force Heard (List ℕ)
meaning = record { same = same; says = says; settles = settles }

-- ---- 01, "What an event does": reports, changes, closings

-- "Traffic adds both volumes": what an event reports, up and down
abbrev pub up : Heard → ℕ
up (Heard.traffic u d) = u
up (Heard.qos q) = 0
up Heard.tariff = 0
up (Heard.release cause) = 0
up Heard.tick = 0
up Heard.management = 0
up (Heard.replaces i x) = 0

abbrev pub down : Heard → ℕ
down (Heard.traffic u d) = d
down (Heard.qos q) = 0
down Heard.tariff = 0
down (Heard.release cause) = 0
down Heard.tick = 0
down Heard.management = 0
down (Heard.replaces i x) = 0

-- what is in force afterwards: a QoS event brings the new QoS, a replacement the new edition
abbrev pub after : Force → Heard → Force
after s (Heard.traffic u d) = s
after s (Heard.qos q) = record { brought = s.brought; qos = q; settings = s.settings }
after s Heard.tariff = s
after s (Heard.release cause) = s
after s Heard.tick = s
after s Heard.management = s
after s (Heard.replaces i x) = record { brought = s.brought; qos = s.qos; settings = resettled i x s.settings }

-- "QoS to a different profile ends the container, condition 0. To the same profile: no change. Tariff ends the container of every
-- context, condition 1, empty ones included." A replacement "cuts nothing and closes nothing" (02, W6).
abbrev pub change : Force → Heard → Option ℕ
change s (Heard.traffic u d) = None
change s (Heard.qos q) = cond (same_qos s.qos q) None (Some 0)
change s Heard.tariff = Some 1
change s (Heard.release cause) = None
change s Heard.tick = None
change s Heard.management = None
change s (Heard.replaces i x) = None

-- "(0, 4, 18) release with that cause"
abbrev pub releases : Heard → Option ℕ
releases (Heard.traffic u d) = None
releases (Heard.qos q) = None
releases Heard.tariff = None
releases (Heard.release cause) = Some cause
releases Heard.tick = None
releases Heard.management = None
releases (Heard.replaces i x) = None

-- uplink plus downlink, and the number of changes, of a history
abbrev pub volume : History Force Heard → ℕ
volume h = total up h + total down h

abbrev pub changes_of : History Force Heard → ℕ
changes_of h = tally after change h

-- "A record keeps the limits it opened with until it closes": of the record of which r is the past, what its set was at the opening (02, W6:
-- "demand 3's conditions read the edition at each opening")
abbrev pub limits_for : History Force Heard → Limits
limits_for r = limits_of (began_with r).brought.set (began_with r).settings.sets

-- "(19) the record's QoS and tariff changes reach the change limit": at an event that is a change
abbrev pub reaches : History Force Heard → ℕ → Heard → Option ℕ
reaches r t e = test (is_some (change (standing after r) e) && leb (limits_for r).changes (changes_of (r ▸ t ∶ e))) 19

-- The other closing conditions. r is the past of the open record, from its opening on, e is heard at t: "(16) after a traffic event,
-- uplink plus downlink since the record opened is at least the volume limit; (17) at a tick, now minus opening is at least the
-- time limit; (20) management". "Time is looked at only on a tick."
abbrev pub closing : History Force Heard → ℕ → Heard → Option ℕ
closing r t (Heard.traffic u d) = test (leb (limits_for r).volume (volume (r ▸ t ∶ Heard.traffic u d))) 16
closing r t (Heard.qos q) = reaches r t (Heard.qos q)
closing r t Heard.tariff = reaches r t Heard.tariff
closing r t (Heard.release cause) = None
closing r t Heard.tick = test (leb (limits_for r).seconds (t - began r)) 17
closing r t Heard.management = Some 20
closing r t (Heard.replaces i x) = None

-- "Closing ends the running container once, with condition 2 (also under 19)."
abbrev pub rules : Rules Force Heard
rules = record { after = after; change = change; release = releases; closing = closing; last = λ o. 2 }

-- "Five closing conditions", one by one: with which cause e, heard at t, closes the record of which r is the past. `rules` works
-- them out, and is proved to work out these (specs/Once.antt, `five`).
pub data Closes (r : History Force Heard) (t : ℕ) : Heard → ℕ → Type 0 where
  by_volume : {u d : ℕ} → (limits_for r).volume ≤ volume (r ▸ t ∶ Heard.traffic u d) → Closes r t (Heard.traffic u d) 16
  by_time : (limits_for r).seconds ≤ t - began r → Closes r t Heard.tick 17
  by_changes : {e : Heard} {k : ℕ} → change (standing after r) e ≡ Some k → (limits_for r).changes ≤ changes_of (r ▸ t ∶ e) → Closes r t e 19
  by_management : Closes r t Heard.management 20
  by_release : {cause : ℕ} → Closes r t (Heard.release cause) cause

-- which of the five it is, by its place in 01's list
abbrev pub which : {r : History Force Heard} {t : ℕ} {e : Heard} {cause : ℕ} → Closes r t e cause → ℕ
which (by_volume reached) = 1
which (by_time reached) = 2
which (by_changes changed reached) = 3
which by_management = 4
which by_release = 5

-- ---- 01, "The record's octets": what a history is written and stored as

-- a time of this node: local seconds, and the profile's offset
abbrev pub time_in : Profile → ℕ → Stamp
time_in p t = record { seconds = t; zone = p.zone }

-- "A container holds the QoS in force while it was counted, its volumes, its ending condition and time." The volumes are the sums of
-- all that was reported in the stretch, the event that cut it included.
abbrev pub container : Profile → Stretch Force Heard → Container
container p x = record {
  qos = (standing after x.ran).qos;
  uplink = total up (whole x);
  downlink = total down (whole x);
  condition = x.condition;
  time = time_in p x.time;
}

-- "only in the first record of an activation": the number is 1, or there is none
abbrev pub first : Option ℕ → Bool
first None = true
first (Some k) = eqb k 1

-- bit 0 of the flags is network-initiated, bit 1 arrived by SGSN change
abbrev pub bit0 : ℕ → Bool
bit0 flags = eqb (flags % 2) 1

abbrev pub bit1 : ℕ → Bool
bit1 flags = eqb (flags / 2 % 2) 1

-- The S-CDR of a closed record of the name n; its duration, last container time minus opening, is worked out from these in its
-- octets. A number 0 says that it has none. "unused octets and container places zero"
abbrev pub record_from : Profile → Name → Record Force Heard → scdr.Record
record_from p n r =
    let b = (standing after r.past).brought in
    let cs = map (container p) r.stretches in
    record {
      network = bit0 b.flags;
      imsi = b.imsi;
      sgsn = p.sgsn;
      charging = n.id;
      ggsn = n.ggsn;
      apn = fill_to 63 0 b.apn;
      apnlen = length b.apn;
      pdptype = b.pdptype;
      address = b.address;
      containers = padded cs;
      count = length cs;
      opening = time_in p (began r.past);
      change = bit1 b.flags && first r.number;
      cause = r.cause;
      number = or_zero r.number;
      nodeid = p.nodeid;
      nodelen = p.nodelen;
    }

-- The context that is stored of the name n for what its history leaves open.
abbrev pub context_from : Profile → Name → Open Force Heard → Context
context_from p n o =
    let s = standing after o.running in
    let cs = map (container p) o.stretches in
    record {
      active = 1;
      flags = s.brought.flags;
      set = s.brought.set;
      name = n;
      imsi = s.brought.imsi;
      apn = fill_to 63 0 s.brought.apn;
      apnlen = length s.brought.apn;
      pdptype = s.brought.pdptype;
      address = s.brought.address;
      current = record {
        opening = time_in p (began o.past);
        qos = s.qos;
        limits = limits_for o.past;
        uplink = total up o.running;
        downlink = total down o.running;
        changes = changes_of o.past;
        containers = padded cs;
        count = length cs;
      };
      closed = o.closed;
    }

abbrev pub forms : Profile → Forms Name Force Heard Context scdr.Record
forms p = record { as_written = record_from p; as_stored = context_from p }
