-- What an event does to a subscriber that hears it (02, W4): the subscriber after it, or none after a detach, and the record that it closes,
-- if it closes one. Tariff, tick and the limits do nothing to subscribers, so these are no part of it.
use Rattle.std.specs.Prelude.{Bool, true, false, cond, ◌&&◌, List, [], ◌∷◌, ℕ, ◌+◌, ◌-◌, leb, eqb, set}
use Rattle.std.specs.Prelude.{None, Some}
use Rattle.calendar.specs.declared.Stamp.{Stamp}
use Rattle.profile.specs.declared.Profile.{Profile}
use Rattle.history.specs.Table.{Step}
use Rattle.mcdr.specs.declared.Place.{Place}
use Rattle.mcdr.specs.declared.MmRecord.{MmRecord}
use Rattle.mcdr.specs.Change.{same_place}
use Rattle.mcdr.specs.Changes.{no_changes}
use Rattle.mcdr.specs.Rules.{detach}
use Rattle.subscriber.specs.declared.Subscriber.{Subscriber}
use Rattle.subscriber.specs.declared.Notice.{Notice}
use Rattle.subscriber.specs.declared.Notice.TheVariants.{Moved, Managed, Detached}
use Rattle.subscriber.specs.Subscriber.{place_of}

-- a time of this node
abbrev pub time_at : Profile → ℕ → Stamp
time_at p t = record { seconds = t; zone = p.zone }

-- a record opens at a time and a place, after so many that are closed
abbrev pub opened : Profile → List ℕ → ℕ → Place → ℕ → Subscriber
opened p imsi t q closed = record {
  active = 1;
  imsi = imsi;
  place = q;
  opening = time_at p t;
  changes = no_changes 15;
  count = 0;
  closed = closed;
}

-- an attach: "the lowest free place is taken", at a time, by an IMSI, with the place where it is
abbrev pub attached : Profile → ℕ → List ℕ → Place → Subscriber
attached p t imsi q = opened p imsi t q 0

-- a location change stands after the others
unfoldable pub listed : Profile → Subscriber → ℕ → Place → Subscriber
listed p s t q = record {
  active = s.active;
  imsi = s.imsi;
  place = s.place;
  opening = s.opening;
  changes = set s.changes s.count (record { place = q; time = time_at p t });
  count = s.count + 1;
  closed = s.closed;
}

-- "Numbers and the sole-record rule as for S-CDRs": 1 for the first, absent (0) if a detach closes an attachment with no earlier record
unfoldable pub number_for : ℕ → Bool → ℕ
number_for closed detached = cond (detached && eqb closed 0) 0 (closed + 1)

-- the record that closes: "85 RAC, 86 LAC at the opening", "duration, from the opening to the closing"
unfoldable pub record_of : Profile → Subscriber → ℕ → ℕ → Bool → MmRecord
record_of p s t cause detached = record {
  imsi = s.imsi;
  sgsn = p.sgsn;
  place = s.place;
  changes = s.changes;
  count = s.count;
  opening = s.opening;
  duration = t - s.opening.seconds;
  cause = cause;
  number = number_for s.closed detached;
  nodeid = p.nodeid;
  nodelen = p.nodelen;
}

-- "The fifteenth change of a record is listed and closes it with 19, and nothing else does"
unfoldable pub fifteenth : Subscriber → Bool
fifteenth s = leb 15 (s.count + 1)

-- "After 19 and 20 the next record opens at that time at the place then in force."
unfoldable pub closes_with : Profile → Subscriber → ℕ → ℕ → Place → Step Subscriber MmRecord
closes_with p s t cause q = record { next = Some (opened p s.imsi t q (s.closed + 1)); out = record_of p s t cause false ∷ [] }

-- "A change to the place in force is none .. management closes with 20, detach with 0 or 4."
unfoldable pub hear : Profile → Subscriber → ℕ → Notice → Step Subscriber MmRecord
hear p s t (Moved q) =
    cond (same_place (place_of s) q) (record { next = Some s; out = [] })
    (cond (fifteenth s) (closes_with p (listed p s t q) t 19 q) (record { next = Some (listed p s t q); out = [] }))
hear p s t Managed = closes_with p s t 20 (place_of s)
hear p s t (Detached cause) = record { next = None; out = record_of p s t cause true ∷ [] }

-- what an event in range lets it hear: a detach is with one of its causes
unfoldable pub notice_ok : Notice → Bool
notice_ok (Moved q) = true
notice_ok Managed = true
notice_ok (Detached cause) = detach cause
