-- A subscriber.
use Rattle.std.specs.Prelude.{Bool, List, [], ℕ, eqb, take}
use Rattle.octets.specs.Filled.{fill_to}
use Rattle.ber.specs.Int.{spelt}
use Rattle.container.specs.Container.{no_stamp}
use Rattle.mcdr.specs.declared.Place.{Place}
use Rattle.mcdr.specs.declared.Change.{Change}
use Rattle.mcdr.specs.Change.{no_place}
use Rattle.mcdr.specs.Changes.{no_changes, place_now}
use Rattle.keys.specs.declared.Slot.{Slot}
use Rattle.subscriber.specs.declared.Subscriber.{Subscriber}

-- the location changes of its open record
abbrev pub used : Subscriber → List Change
used s = take s.count s.changes

-- the place in force
unfoldable pub place_of : Subscriber → Place
place_of s = place_now s.place (used s)

-- "subscribers named by IMSI": the number that its eight octets spell
abbrev pub name_of : Subscriber → ℕ
name_of s = spelt 0 s.imsi

-- what names a slot
abbrev pub slot_of : Subscriber → Slot ℕ
slot_of s = record { active = s.active; key = name_of s }

-- an attached subscriber stands in the slot
abbrev pub taken : Subscriber → Bool
taken s = eqb s.active 1

-- what a free slot holds
abbrev pub no_subscriber : Subscriber
no_subscriber = record {
  active = 0;
  imsi = fill_to 8 0 [];
  place = no_place;
  opening = no_stamp;
  changes = no_changes 15;
  count = 0;
  closed = 0;
}
