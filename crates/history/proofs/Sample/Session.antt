-- The sample: a session, computed whole.
use Prim.Native.Nat.{ℕ}
use mathlib.Core.Path.{◌≡◌, refl}
use mathlib.Core.List.{List, [], ◌∷◌}
use Rattle.std.specs.Prelude.{None, Some}
use Rattle.history.specs.Run.{applied, all_written}
use Rattle.history.specs.Sample.Events.{Badge, Order, Turn, Event, Settings}
use Rattle.history.specs.Sample.Lines.{Part}
use Rattle.history.specs.Sample.Guests.{Stop}
use Rattle.history.specs.Sample.Node.{fresh, bill, visit, Call, one, reports, machine}

abbrev at : ℕ → Event → Call
at t v = one (record { time = t; event = v })

abbrev order : ℕ → Order → Call
order t x = at t (Event.order 7 x)

abbrev her : Badge
her = record { country = 45; number = 9 }

abbrev set : Settings
set = record { limit = 1000; offset = 60 }

abbrev one_part : ℕ → ℕ → ℕ → ℕ → ℕ → Part
one_part grade octets condition t offset = record { grade = grade; octets = octets; condition = condition; time = t; offset = offset }

abbrev one_stop : ℕ → ℕ → ℕ → Stop
one_stop place t offset = record { place = place; time = t; offset = offset }

-- a refused report; a sole record; then the name again, closed by volume with the limit of its opening, and released
abbrev session : List Call
session = order 0 (Order.report 1) ∷ at 0 (Event.activate 7 3) ∷ order 5 (Order.report 999) ∷ order 4 (Order.report 999) ∷ order 6 (Order.release 4)
    ∷ at 8 (Event.activate 7 3) ∷ at 9 (Event.limit 5) ∷ order 10 (Order.report 999) ∷ at 11 Event.tariff ∷ order 12 (Order.report 1)
    ∷ order 13 (Order.grade 2) ∷ order 13 (Order.report 4) ∷ order 14 (Order.release 0) ∷ []

session_billed : all_written machine (fresh set) session ≡
    bill (record { name = 7; number = None; cause = 4; opened = 0; offset = 60; duration = 6; parts = one_part 3 999 2 6 60 ∷ [] })
    ∷ bill (record { name = 7; number = Some 1; cause = 16; opened = 8; offset = 60; duration = 4; parts = one_part 3 999 1 11 60 ∷ one_part 3 1 2 12 60 ∷ [] })
    ∷ bill (record { name = 7; number = Some 2; cause = 0; opened = 12; offset = 60; duration = 2; parts = one_part 3 0 0 13 60 ∷ one_part 2 4 2 14 60 ∷ [] })
    ∷ []
session_billed = refl

-- A guest and a line while the clock's offset changes: each cut has the offset of its time, each opening that of its own. The guest's second
-- move is to the place where it is already, and is none; of four reports in one call
-- the second closes a record, the third is refused as too large, and the fourth is not looked at.
abbrev crossing : List Call
crossing = at 0 (Event.arrive her 1) ∷ at 1 (Event.activate 7 3) ∷ at 2 (Event.turn her (Turn.move 2)) ∷ at 3 (Event.turn her (Turn.move 2))
    ∷ at 4 (Event.offset 120) ∷ at 5 (Event.turn her (Turn.move 1)) ∷ reports 7 6 (600 ∷ 400 ∷ 100001 ∷ 5 ∷ []) ∷ at 7 (Event.turn her (Turn.move 3))
    ∷ at 8 (Event.turn her (Turn.leave 0)) ∷ order 9 (Order.release 0) ∷ []

crossing_written : all_written machine (fresh set) crossing ≡
    bill (record { name = 7; number = Some 1; cause = 16; opened = 1; offset = 60; duration = 5; parts = one_part 3 1000 2 6 120 ∷ [] })
    ∷ visit (record {
      name = her;
      number = Some 1;
      cause = 19;
      opened = 0;
      offset = 60;
      place = 1;
      stops = one_stop 2 2 60 ∷ one_stop 1 5 120 ∷ one_stop 3 7 120 ∷ [];
      duration = 7;
    })
    ∷ visit (record { name = her; number = Some 2; cause = 0; opened = 7; offset = 120; place = 3; stops = []; duration = 1 })
    ∷ bill (record { name = 7; number = Some 2; cause = 0; opened = 6; offset = 120; duration = 3; parts = one_part 3 0 2 9 120 ∷ [] })
    ∷ []
crossing_written = refl

-- of reports to a line that is not there, none is applied
unheard : applied machine (fresh set) (reports 7 0 (600 ∷ 400 ∷ [])) ≡ []
unheard = refl
