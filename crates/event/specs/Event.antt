-- What an event's octets say.
use Rattle.std.specs.Prelude.{cond, List, ℕ, eqb, Result, Ok, Err}
use Rattle.event.specs.Fields.{time_of}
use Rattle.event.specs.Kinds.{row_of, the_row}
use Rattle.event.specs.Rows.{first_fit, rows, refusal_of}
use Rattle.event.specs.declared.Event.{Event}
use Rattle.event.specs.declared.Refusal.{Refusal}

-- the event, by its kind's row
unfoldable pub event_of : List ℕ → Event
event_of s = (the_row (row_of s)).says s

-- the time and the event, or the first refusal that fits, by its number
unfoldable pub said_by : ℕ → List ℕ → Result (ℕ × Event) Refusal
said_by n s = cond (eqb n 0) (Ok (time_of s, event_of s)) (Err (refusal_of n))

unfoldable pub decoded : List ℕ → Result (ℕ × Event) Refusal
decoded s = said_by (first_fit (rows s)) s
