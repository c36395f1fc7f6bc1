-- When a slot is as it must be: what 02's W4 says of each subscriber of a sound node.
use Rattle.std.specs.Prelude.{Bool, cond, ◌&&◌, List, ℕ, leb, ltb, eqb, drop}
use Rattle.std.specs.List.{list_all}
use Rattle.ber.specs.Imsi.{imsi_ok}
use Rattle.octets.specs.Chars.{all_of, is_zero}
use Rattle.mcdr.specs.Changes.{changes_ok, last_time, blanks}
use Rattle.subscriber.specs.declared.Subscriber.{Subscriber}
use Rattle.subscriber.specs.Subscriber.{used}

-- "at most 14 changes, each to another place; opening, changes and clock in order; the profile's offset", "unused changes zero"
unfoldable pub open_ok : ℕ → ℕ → Subscriber → Bool
open_ok zone clock s =
    eqb s.opening.zone zone
    && leb s.count 14
    && changes_ok s.opening.zone s.opening.seconds s.place (used s)
    && leb (last_time s.opening.seconds (used s)) clock
    && blanks (drop s.count s.changes)

-- "fields in range", where LAC and RAC are any; "closed records below the accepted count"
unfoldable pub subscriber_ok : ℕ → ℕ → ℕ → Subscriber → Bool
subscriber_ok zone clock accepted s = imsi_ok s.imsi && ltb s.closed accepted && open_ok zone clock s

-- "free places .. zero"
unfoldable pub zero_ok : Subscriber → Bool
zero_ok s =
    eqb s.active 0 && all_of is_zero s.imsi && eqb s.place.lac 0 && eqb s.place.rac 0
    && eqb s.opening.seconds 0 && eqb s.opening.zone 0 && blanks s.changes && eqb s.count 0 && eqb s.closed 0

-- a slot: an attached subscriber, or a free one
unfoldable pub slot_ok : ℕ → ℕ → ℕ → Subscriber → Bool
slot_ok zone clock accepted s = cond (eqb s.active 1) (subscriber_ok zone clock accepted s) (zero_ok s)

-- every slot of the table
abbrev pub slots_ok : ℕ → ℕ → ℕ → List Subscriber → Bool
slots_ok zone clock accepted ss = list_all (slot_ok zone clock accepted) ss
