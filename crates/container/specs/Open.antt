-- A record that is still open: what becomes of it, what its limits say of it (01, "What an event does"), and its rules (01, "A sound node"). "A
-- record keeps the limits it opened with until it closes" (02, W6): it holds them.
use Rattle.std.specs.Prelude.{Bool, true, ◌&&◌, List, [], ◌∷◌, ◌++◌, ℕ, ◌+◌, ◌-◌, ◌^◌, leb, ltb, eqb, length, take, drop}
use Rattle.calendar.specs.declared.Stamp.{Stamp}
use Rattle.limits.specs.declared.Limits.{Limits}
use Rattle.limits.specs.Limits.{limits_ok, no_limits, blank_limits}
use Rattle.container.specs.declared.Qos.{Qos}
use Rattle.container.specs.declared.Container.{Container}
use Rattle.container.specs.declared.OpenRecord.{OpenRecord}
use Rattle.container.specs.Qos.{qos_ok, same_qos, no_qos}
use Rattle.container.specs.Container.{no_stamp}
use Rattle.container.specs.List.{each_ok, one_offset, changes, blanks, padded}

-- ---- what becomes of it

-- the containers that have ended in it
abbrev pub used : OpenRecord → List Container
used o = take o.count o.containers

-- "opens a record now with empty counters, no containers, change count 0"
abbrev pub opened : Stamp → Qos → Limits → OpenRecord
opened now q l = record { opening = now; qos = q; limits = l; uplink = 0; downlink = 0; changes = 0; containers = padded []; count = 0 }

-- no record: all zero
abbrev pub no_open : OpenRecord
no_open = opened no_stamp no_qos no_limits

-- "Traffic adds both volumes; a report is never divided."
abbrev pub reported : OpenRecord → ℕ → ℕ → OpenRecord
reported o up down = record {
  opening = o.opening;
  qos = o.qos;
  limits = o.limits;
  uplink = o.uplink + up;
  downlink = o.downlink + down;
  changes = o.changes;
  containers = o.containers;
  count = o.count;
}

-- "A container holds the QoS in force while it was counted, its volumes, its ending condition and time."
abbrev pub running : OpenRecord → ℕ → Stamp → Container
running o condition now = record { qos = o.qos; uplink = o.uplink; downlink = o.downlink; condition = condition; time = now }

-- all its containers once the running one has ended
abbrev pub ended_all : OpenRecord → ℕ → Stamp → List Container
ended_all o condition now = used o ++ (running o condition now ∷ [])

-- the running container has ended: it stands after the others, and nothing is counted
abbrev pub ended : OpenRecord → ℕ → Stamp → OpenRecord
ended o condition now = record {
  opening = o.opening;
  qos = o.qos;
  limits = o.limits;
  uplink = 0;
  downlink = 0;
  changes = o.changes;
  containers = padded (ended_all o condition now);
  count = length (ended_all o condition now);
}

-- a change that closes nothing: the running container has ended, and the next one runs under q
abbrev pub changed : OpenRecord → ℕ → Stamp → Qos → OpenRecord
changed o condition now q = record {
  opening = o.opening;
  qos = q;
  limits = o.limits;
  uplink = 0;
  downlink = 0;
  changes = o.changes + 1;
  containers = padded (ended_all o condition now);
  count = length (ended_all o condition now);
}

-- What the code can do at all: counters that can take a report more, and a place for one container more. Every open record of a sound node has both.
abbrev pub ample : OpenRecord → Bool
ample o = ltb o.uplink (2 ^ 63) && ltb o.downlink (2 ^ 63)

abbrev pub roomy : OpenRecord → Bool
roomy o = ltb o.count 15 && blanks (drop o.count o.containers)

-- ---- the containers of an open record, and the running one after them

-- conditions 0 or 1: none of them ended the record
unfoldable pub midway : List Container → Bool
midway [] = true
midway (c ∷ cs) = ltb c.condition 2 && midway cs

-- opening ≤ container times in order ≤ now: not falling, equal ones are fine
unfoldable pub times_to : ℕ → List Container → ℕ → Bool
times_to t [] now = leb t now
times_to t (c ∷ cs) now = leb t c.time.seconds && times_to c.time.seconds cs now

-- QoS differs from one container to the next, or to the running one, exactly after condition 0
unfoldable pub qos_run : List Container → Qos → Bool
qos_run [] q = true
qos_run (c ∷ []) q = changes c q
qos_run (c ∷ d ∷ cs) q = changes c d.qos && qos_run (d ∷ cs) q

-- the containers of a record that opened at a time in a zone, with q in force now
unfoldable pub open_ok : ℕ → ℕ → Qos → ℕ → List Container → Bool
open_ok zone opening q now cs = each_ok cs && midway cs && one_offset zone cs && times_to opening cs now && qos_run cs q

-- all octets counted in them, up and down
unfoldable pub volume_of : List Container → ℕ
volume_of [] = 0
volume_of (c ∷ cs) = c.uplink + c.downlink + volume_of cs

-- ---- what its limits say

-- "uplink plus downlink since the record opened is at least the volume limit"
abbrev pub volume_met : OpenRecord → Bool
volume_met o = leb o.limits.volume (volume_of (used o) + o.uplink + o.downlink)

-- what they leave of the limit: 0 where it is met
abbrev pub volume_left : OpenRecord → ℕ
volume_left o = o.limits.volume - (volume_of (used o) + o.uplink + o.downlink)

-- "now minus opening is at least the time limit"
abbrev pub time_met : ℕ → OpenRecord → Bool
time_met now o = leb o.limits.seconds (now - o.opening.seconds)

-- "the record's QoS and tariff changes reach the change limit", with one more
abbrev pub changes_met : OpenRecord → Bool
changes_met o = leb o.limits.changes (o.changes + 1)

-- ---- its rules in a sound node

-- "unused container places all zero"
unfoldable pub unused_ok : OpenRecord → Bool
unused_ok o = blanks (drop o.count o.containers)

-- "container count equals change count and is below the change limit"
unfoldable pub count_ok : OpenRecord → Bool
count_ok o = eqb o.count o.changes && ltb o.changes o.limits.changes

-- "conditions 0 or 1; opening ≤ container times in order ≤ clock; QoS differs from one container to the next, or to the running one,
-- exactly after condition 0"; each container's values in range; every stored time has the profile's offset
unfoldable pub containers_ok : ℕ → ℕ → OpenRecord → Bool
containers_ok zone clock o = eqb o.opening.zone zone && open_ok zone o.opening.seconds o.qos clock (used o)

-- "all volumes of the open record sum below the volume limit"
unfoldable pub volume_ok : OpenRecord → Bool
volume_ok o = ltb (volume_of (used o) + o.uplink + o.downlink) o.limits.volume

-- With this offset, at this clock: "the open record's own limits are in range, and the rules of its counters read those" (02, W6).
unfoldable pub sound_open : ℕ → ℕ → OpenRecord → Bool
sound_open zone clock o =
    limits_ok o.limits && qos_ok o.qos && unused_ok o && count_ok o && containers_ok zone clock o && volume_ok o

-- every field zero
unfoldable pub blank_open : OpenRecord → Bool
blank_open o =
    eqb o.opening.seconds 0 && eqb o.opening.zone 0 && same_qos o.qos no_qos && blank_limits o.limits && eqb o.uplink 0
    && eqb o.downlink 0 && eqb o.changes 0 && blanks o.containers && eqb o.count 0
