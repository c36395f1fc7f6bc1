-- What an event is to a context that hears it (01, "What an event does"): what it reports, the change that it is, the limit that is looked at
-- after it, whether it closes the record by itself; and what it is to a subscriber (02, W4). One line a kind; all that comes after works on
-- these.
use Rattle.std.specs.Prelude.{Bool, true, false, ℕ}
use Rattle.container.specs.declared.Qos.{Qos}
use Rattle.container.specs.Qos.{no_qos}
use Rattle.event.specs.declared.Event.{Event}
use Rattle.event.specs.declared.Event.TheVariants as E
use Rattle.node.specs.declared.Message.{Message}
use Rattle.node.specs.declared.meaning.Meaning.{Meaning}
use Rattle.node.specs.declared.meaning.Meaning.TheVariants.{Opens, Tells, TellsAll, Attaches, Notifies, Replaces}
use Rattle.mcdr.specs.declared.Place.{Place}
use Rattle.subscriber.specs.declared.Notice.TheVariants.{Moved, Managed, Detached}

-- A message, by its columns: the report that it counts; the QoS that it brings; whether it is a tariff change, whether a tick; whether it closes the
-- record, with which cause, and whether no record opens after it.
abbrev pub message : Bool → ℕ → ℕ → Bool → Qos → Bool → Bool → Bool → ℕ → Bool → Message
message counts up down brings qos tariff ticks closes cause releases = record {
  counts = counts;
  up = up;
  down = down;
  brings = brings;
  qos = qos;
  tariff = tariff;
  ticks = ticks;
  closes = closes;
  cause = cause;
  releases = releases;
}

-- nothing at all
abbrev pub quiet : Message
quiet = message false 0 0 false no_qos false false false 0 false

-- "Traffic adds both volumes"; the volume limit is looked at "after a traffic event"
abbrev pub report : ℕ → ℕ → Message
report up down = message true up down false no_qos false false false 0 false

-- a QoS profile, which is in force from now on
abbrev pub new_qos : Qos → Message
new_qos q = message false 0 0 true q false false false 0 false

-- "Tariff ends the container of every context"
abbrev pub tariff_change : Message
tariff_change = message false 0 0 false no_qos true false false 0 false

-- "Time is looked at only on a tick."
abbrev pub tick : Message
tick = message false 0 0 false no_qos false true false 0 false

-- it closes the record, whatever the limits are; a release does, and no record opens after it
abbrev pub close_with : ℕ → Message
close_with cause = message false 0 0 false no_qos false false true cause false

abbrev pub release_with : ℕ → Message
release_with cause = message false 0 0 false no_qos false false true cause true

abbrev pub place_with : ℕ → ℕ → Place
place_with lac rac = record { lac = lac; rac = rac }

-- Who hears an event, and what it is to them: an activate opens a context; traffic, QoS, release and management are told to the one that
-- they name, a tariff and a tick to all. An attach is a subscriber's; the other three kinds are told to the one that they name. A replacement of a
-- set of limits is told to none (02, W6: "It cuts nothing and closes nothing").
abbrev pub meaning_of : Event → Meaning
meaning_of (E.Activate a) = Opens a
meaning_of (E.Traffic n up down) = Tells n (report up down)
meaning_of (E.Qos n q) = Tells n (new_qos q)
meaning_of E.Tariff = TellsAll tariff_change
meaning_of (E.Release n cause) = Tells n (release_with cause)
meaning_of E.Tick = TellsAll tick
meaning_of (E.Management n) = Tells n (close_with 20)
meaning_of (E.Attach k lac rac) = Attaches k (place_with lac rac)
meaning_of (E.Location k lac rac) = Notifies k (Moved (place_with lac rac))
meaning_of (E.ManageSubscriber k) = Notifies k Managed
meaning_of (E.Detach k cause) = Notifies k (Detached cause)
meaning_of (E.Replace r) = Replaces r
