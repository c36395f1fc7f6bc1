-- The sample's guests: a second kind of subject. They arrive at a place, move and leave, and hear the offset of the clock; of tariffs and
-- limits they hear nothing. A move to the same place is none; the third, and only it, is listed and closes the record with 19.
use Rattle.std.specs.Prelude.{ℕ, suc, ◌-◌, Bool, cond, ◌&&◌, List, [], ◌∷◌, ◌++◌, leb, eqb, length}
use Rattle.std.specs.Prelude.{Option, None, Some}
use Rattle.history.specs.Lists.{each, test}
use Rattle.history.specs.History.{History, began, began_with, standing, tally}
use Rattle.history.specs.Records.{Rules, Stretch, in_force}
use Rattle.history.specs.Log.{Said, activates, tells, tells_all, nothing, Meaning}
use Rattle.history.specs.Table.{Step, Handling}
use Rattle.history.specs.Demand.{Forms}
use Rattle.history.specs.Sample.Events.{Badge, Turn, Event, sole_or}

abbrev pub same : Badge → Badge → Bool
same a b = eqb a.country b.country && eqb a.number b.number

-- ---- what the histories say

-- what is in force for a guest; of the node's settings the offset alone
pub record Stay : Type 0 where
  pub place : ℕ
  pub offset : ℕ

pub data Heard : Type 0 where
  turn : Turn → Heard
  offset : ℕ → Heard

abbrev pub after : Stay → Heard → Stay
after s (Heard.turn (Turn.move p)) = record { place = p; offset = s.offset }
after s (Heard.turn (Turn.leave k)) = s
after s (Heard.offset o) = record { place = s.place; offset = o }

abbrev pub change : Stay → Heard → Option ℕ
change s (Heard.turn (Turn.move p)) = cond (eqb s.place p) None (Some 0)
change s (Heard.turn (Turn.leave k)) = None
change s (Heard.offset o) = None

abbrev pub releases : Heard → Option ℕ
releases (Heard.turn (Turn.move p)) = None
releases (Heard.turn (Turn.leave k)) = Some k
releases (Heard.offset o) = None

-- by the third move to another place, counted since the record opened
abbrev pub closing : History Stay Heard → ℕ → Heard → Option ℕ
closing r t (Heard.turn (Turn.move p)) = cond (eqb (standing after r).place p) None (test (leb 3 (suc (tally after change r))) 19)
closing r t (Heard.turn (Turn.leave k)) = None
closing r t (Heard.offset o) = None

abbrev pub rules : Rules Stay Heard
rules = record { after = after; change = change; release = releases; closing = closing; last = λ o. 2 }

abbrev pub says : Event → Said ℕ Badge Stay Heard
says (Event.activate n q) = nothing
says (Event.arrive b p) = activates b (λ g. record { place = p; offset = g })
says (Event.order n x) = nothing
says (Event.turn b x) = tells b (Heard.turn x)
says Event.tariff = nothing
says (Event.limit l) = nothing
says (Event.offset o) = tells_all (Heard.offset o)

abbrev pub settles : ℕ → Event → ℕ
settles g (Event.activate n q) = g
settles g (Event.arrive b p) = g
settles g (Event.order n x) = g
settles g (Event.turn b x) = g
settles g Event.tariff = g
settles g (Event.limit l) = g
settles g (Event.offset o) = o

abbrev pub meaning : Meaning ℕ Badge Stay Heard Event
meaning = record { same = same; says = says; settles = settles }

-- ---- what is written and stored

pub record Stop : Type 0 where
  pub place : ℕ
  pub time : ℕ
  pub offset : ℕ

pub record Visit : Type 0 where
  pub name : Badge
  pub number : Option ℕ
  pub cause : ℕ
  pub opened : ℕ
  pub offset : ℕ
  pub place : ℕ
  pub stops : List Stop
  pub duration : ℕ

pub record Guest : Type 0 where
  pub name : Badge
  pub place : ℕ
  pub opened : ℕ
  pub offset : ℕ
  pub home : ℕ
  pub closed : ℕ
  pub count : ℕ
  pub stops : List Stop

-- the place moved to, where a stretch ended so
abbrev pub stop_at : Heard → ℕ → ℕ → List Stop
stop_at (Heard.turn (Turn.move p)) t o = record { place = p; time = t; offset = o } ∷ []
stop_at (Heard.turn (Turn.leave k)) t o = []
stop_at (Heard.offset q) t o = []

abbrev pub stop : Stretch Stay Heard → List Stop
stop x = stop_at x.event x.time (in_force rules x.ran).offset

abbrev pub forms : Forms Badge Stay Heard Guest Visit
forms = record {
  as_written = λ n r. record {
    name = n;
    number = r.number;
    cause = r.cause;
    opened = began r.past;
    offset = (began_with r.past).offset;
    place = (began_with r.past).place;
    stops = each stop r.stretches;
    duration = r.time - began r.past;
  };
  as_stored = λ n o. record {
    name = n;
    place = (in_force rules o.running).place;
    opened = began o.past;
    offset = (began_with o.past).offset;
    home = (began_with o.past).place;
    closed = o.closed;
    count = length o.stretches;
    stops = each stop o.stretches;
  };
}

-- ---- what the node does: g is the offset that it is set to

abbrev pub visit : Guest → Option ℕ → ℕ → List Stop → ℕ → Visit
visit c number cause stops t = record
    { name = c.name; number = number; cause = cause; opened = c.opened; offset = c.offset; place = c.home; stops = stops; duration = t - c.opened }

abbrev pub keep : Guest → Step Guest Visit
keep c = record { next = Some c; out = [] }

abbrev pub listed : ℕ → Guest → ℕ → ℕ → List Stop
listed g c t p = c.stops ++ (record { place = p; time = t; offset = g } ∷ [])

abbrev pub moved : ℕ → Guest → ℕ → ℕ → Step Guest Visit
moved g c t p = keep (record {
  name = c.name;
  place = p;
  opened = c.opened;
  offset = c.offset;
  home = c.home;
  closed = c.closed;
  count = suc c.count;
  stops = listed g c t p;
})

abbrev pub full : ℕ → Guest → ℕ → ℕ → Step Guest Visit
full g c t p = record {
  next = Some (record { name = c.name; place = p; opened = t; offset = g; home = p; closed = suc c.closed; count = 0; stops = [] });
  out = visit c (Some (suc c.closed)) 19 (listed g c t p) t ∷ [];
}

abbrev pub hear : ℕ → Guest → ℕ → Heard → Step Guest Visit
hear g c t (Heard.turn (Turn.move p)) = cond (eqb c.place p) (keep c) (cond (leb 3 (suc c.count)) (full g c t p) (moved g c t p))
hear g c t (Heard.turn (Turn.leave k)) = record { next = None; out = visit c (sole_or c.closed) k c.stops t ∷ [] }
hear g c t (Heard.offset o) = keep c

abbrev pub takes : Event → Said ℕ Badge Stay Heard
takes (Event.activate n q) = nothing
takes (Event.arrive b p) = activates b (λ g. record { place = p; offset = g })
takes (Event.order n x) = nothing
takes (Event.turn b x) = tells b (Heard.turn x)
takes Event.tariff = nothing
takes (Event.limit l) = nothing
takes (Event.offset o) = tells_all (Heard.offset o)

abbrev pub handling : Handling ℕ Badge Stay Heard Event Guest Visit
handling = record {
  same = same;
  name = λ c. c.name;
  says = takes;
  settles = settles;
  opening = λ t n s. record { name = n; place = s.place; opened = t; offset = s.offset; home = s.place; closed = 0; count = 0; stops = [] };
  hear = hear;
}
