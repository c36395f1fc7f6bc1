-- The sample: what can happen, and what the node is set to.
use Rattle.std.specs.Prelude.{Option, None, Some}
use Rattle.std.specs.Prelude.{ℕ, zero, suc}

-- what names a guest; a line is named by a number
pub record Badge : Type 0 where
  pub country : ℕ
  pub number : ℕ

-- what names one line: a report of octets, another grade, a release with its cause
pub data Order : Type 0 where
  report : ℕ → Order
  grade : ℕ → Order
  release : ℕ → Order

-- what names one guest: another place, or the end with its cause
pub data Turn : Type 0 where
  move : ℕ → Turn
  leave : ℕ → Turn

pub data Event : Type 0 where
  -- a line with its grade, a guest at a place
  activate : ℕ → ℕ → Event
  arrive : Badge → ℕ → Event
  order : ℕ → Order → Event
  turn : Badge → Turn → Event
  -- for every line
  tariff : Event
  limit : ℕ → Event
  -- for every line and every guest
  offset : ℕ → Event

pub record Settings : Type 0 where
  pub limit : ℕ
  pub offset : ℕ

abbrev pub settles : Settings → Event → Settings
settles g (Event.activate n q) = g
settles g (Event.arrive b p) = g
settles g (Event.order n x) = g
settles g (Event.turn b x) = g
settles g Event.tariff = g
settles g (Event.limit l) = record { limit = l; offset = g.offset }
settles g (Event.offset o) = record { limit = g.limit; offset = o }

-- the number of a record that a release closes, after k others: a sole one has none
abbrev pub sole_or : ℕ → Option ℕ
sole_or zero = None
sole_or (suc k) = Some (suc (suc k))
