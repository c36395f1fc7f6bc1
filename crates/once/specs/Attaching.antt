-- What is charged of a subscriber, as 02's W4 says it, in its order: what an event's octets mean, what an event does to a subscriber's
-- history, and the M-CDR and the stored subscriber that a history makes. Histories, stretches and records are those of the crate `history`: a
-- stretch is the time at one place. Nothing here says how the node works.
use Rattle.std.specs.Prelude.{◌≡◌, false, cond, ◌&&◌, List, [], ◌∷◌, ℕ, ◌-◌, ◌^◌, ◌≤◌, leb, ltb, eqb, length}
use Rattle.std.specs.Prelude.{Option, None, Some}
use Rattle.ber.specs.Int.{lowest}
use Rattle.ber.specs.Field.{or_zero}
use Rattle.mcdr.specs.declared.Place.{Place}
use Rattle.mcdr.specs.declared.Change.{Change}
use Rattle.mcdr.specs.declared.MmRecord.{MmRecord}
use Rattle.mcdr.specs.Change.{same_place}
use Rattle.mcdr.specs.Changes.{padded}
use Rattle.profile.specs.declared.Profile.{Profile}
use Rattle.event.specs.Fields.{kind_of, subscriber_of, lac_of, rac_of, cause_of}
use Rattle.subscriber.specs.declared.Subscriber.{Subscriber}
use Rattle.history.specs.Lists.{each, is_some, test}
use Rattle.history.specs.History.{History, ◌▸◌∶◌, began, began_with, standing, tally}
use Rattle.history.specs.Records.{Rules, Stretch, Record, Open}
use Rattle.history.specs.Log.{Said, activates, tells, nothing, Meaning}
use Rattle.history.specs.Demand.{Forms}
use Rattle.once.specs.Charging.{time_in}

-- ---- the events: what they say

-- What a subscriber hears: that it is at a place now, management, its detach with a cause. Its place is what is in force for it.
pub data Noted : Type 0 where
  moved : Place → Noted
  managed : Noted
  detached : ℕ → Noted

-- "LAC 2, RAC 1"
abbrev pub place_in : List ℕ → Place
place_in s = record { lac = lac_of s; rac = rac_of s }

-- The table of kinds: an attach, and three kinds that name a subscriber. No other event is about subscribers: "Tariff, tick and the limits do
-- nothing to subscribers."
unfoldable pub says : List ℕ → Said (Unit {0}) ℕ Place Noted
says s =
    cond (eqb (kind_of s) 8) (activates (subscriber_of s) (λ g. place_in s))
    (cond (eqb (kind_of s) 9) (tells (subscriber_of s) (moved (place_in s)))
    (cond (eqb (kind_of s) 10) (tells (subscriber_of s) managed)
    (cond (eqb (kind_of s) 11) (tells (subscriber_of s) (detached (cause_of s)))
    nothing)))

-- "subscribers named by IMSI": the number that its octets spell
abbrev pub meaning : Meaning (Unit {0}) ℕ Place Noted (List ℕ)
meaning = record { same = eqb; says = says; settles = λ g s. g }

-- ---- what an event does: changes, closings

-- the place in force afterwards
abbrev pub after : Place → Noted → Place
after p (moved q) = q
after p managed = p
after p (detached cause) = p

-- "A change to the place in force is none". A change ends the stretch with condition 0.
abbrev pub change : Place → Noted → Option ℕ
change p (moved q) = cond (same_place p q) None (Some 0)
change p managed = None
change p (detached cause) = None

-- "detach with 0 or 4"
abbrev pub releases : Noted → Option ℕ
releases (moved q) = None
releases managed = None
releases (detached cause) = Some cause

-- the number of changes of a history
abbrev pub changes_of : History Place Noted → ℕ
changes_of h = tally after change h

-- The other closing conditions. r is the past of the open record, from its opening on, e is heard at t: "The fifteenth change of a record is
-- listed and closes it with 19, and nothing else does; management closes with 20".
abbrev pub closing : History Place Noted → ℕ → Noted → Option ℕ
closing r t (moved q) = test (is_some (change (standing after r) (moved q)) && leb 15 (changes_of (r ▸ t ∶ moved q))) 19
closing r t managed = Some 20
closing r t (detached cause) = None

-- A closing ends the stretch too: as the change that it is besides, or with 2.
abbrev pub last : Option ℕ → ℕ
last None = 2
last (Some k) = k

abbrev pub rules : Rules Place Noted
rules = record { after = after; change = change; release = releases; closing = closing; last = last }

-- The three closing conditions, one by one: with which cause e, heard at t, closes the record of which r is the past. `rules` works them out,
-- and is proved to work out these.
pub data Closes (r : History Place Noted) (t : ℕ) : Noted → ℕ → Type 0 where
  by_fifteenth : {q : Place} → same_place (standing after r) q ≡ false → 15 ≤ changes_of (r ▸ t ∶ moved q) → Closes r t (moved q) 19
  by_management : Closes r t managed 20
  by_detach : {cause : ℕ} → Closes r t (detached cause) cause

-- which of the three it is
abbrev pub which : {r : History Place Noted} {t : ℕ} {e : Noted} {cause : ℕ} → Closes r t e cause → ℕ
which (by_fifteenth other reached) = 1
which by_management = 2
which by_detach = 3

-- ---- the record: what a history is written and stored as

-- The octets of the IMSI that spells a name. (A number that eight octets do not spell names no subscriber; it stands for itself.)
abbrev pub imsi_of : ℕ → List ℕ
imsi_of n = cond (ltb n (256 ^ 8)) (lowest 8 n) (n ∷ [])

-- the location change that ended a stretch: the place moved to, and when; none where it was no change
abbrev pub location : Profile → Stretch Place Noted → List Change
location p x = cond (eqb x.condition 0) (record { place = after (standing after x.ran) x.event; time = time_in p x.time } ∷ []) []

abbrev pub locations : Profile → List (Stretch Place Noted) → List Change
locations p xs = each (location p) xs

-- The M-CDR of a closed record of the name n: the place at its opening, its location changes, "duration, from the opening to the closing". A
-- number 0 says that it has none.
abbrev pub record_from : Profile → ℕ → Record Place Noted → MmRecord
record_from p n r =
    let cs = locations p r.stretches in
    record {
      imsi = imsi_of n;
      sgsn = p.sgsn;
      place = began_with r.past;
      changes = padded cs;
      count = length cs;
      opening = time_in p (began r.past);
      duration = r.time - began r.past;
      cause = r.cause;
      number = or_zero r.number;
      nodeid = p.nodeid;
      nodelen = p.nodelen;
    }

-- The subscriber that is stored of the name n for what its history leaves open.
abbrev pub subscriber_from : Profile → ℕ → Open Place Noted → Subscriber
subscriber_from p n o =
    let cs = locations p o.stretches in
    record {
      active = 1;
      imsi = imsi_of n;
      place = began_with o.past;
      opening = time_in p (began o.past);
      changes = padded cs;
      count = length cs;
      closed = o.closed;
    }

abbrev pub forms : Profile → Forms ℕ Place Noted Subscriber MmRecord
forms p = record { as_written = record_from p; as_stored = subscriber_from p }
