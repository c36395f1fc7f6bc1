-- The sample's node: lines and guests in one value, under one clock. What it writes is a record of either kind.
use Rattle.std.specs.Prelude.{ℕ, zero, suc, cond, List, [], ◌∷◌, ◌++◌, map, leb, eqb, length, replicate}
use Rattle.std.specs.Prelude.{Option, None}
use Rattle.history.specs.Log.{Accepted}
use Rattle.history.specs.Table.{free, active, slots_after, writes}
use Rattle.history.specs.Run.{Machine, if_zero, run, all_written, up_to_refusal}
use Rattle.history.specs.Demand.{Sight}
use Rattle.history.specs.Sample.Events.{Badge, Order, Event, Settings, settles}
use Rattle.history.specs.Sample.Lines as lines
use Rattle.history.specs.Sample.Guests as guests

pub record Node : Type 0 where
  pub clock : ℕ
  pub set : Settings
  pub lines : List (Option lines.Line)
  pub guests : List (Option guests.Guest)

abbrev pub fresh : Settings → Node
fresh g = record { clock = 0; set = g; lines = replicate 4 None; guests = replicate 2 None }

pub data Written : Type 0 where
  bill : lines.Bill → Written
  visit : guests.Visit → Written

-- ---- one event

-- more than a report may be
abbrev pub excess : Order → ℕ
excess (Order.report k) = cond (leb k 100000) 0 5
excess (Order.grade q) = 0
excess (Order.release k) = 0

-- 0, or the number of a refusal
abbrev pub refusal : Node → Event → ℕ
refusal a (Event.activate n q) = cond (active lines.handling n a.lines) 9 (cond (free a.lines) 0 10)
refusal a (Event.arrive b p) = cond (active guests.handling b a.guests) 15 (cond (free a.guests) 0 17)
refusal a (Event.order n x) = cond (active lines.handling n a.lines) (excess x) 8
refusal a (Event.turn b x) = cond (active guests.handling b a.guests) 0 16
refusal a Event.tariff = 0
refusal a (Event.limit l) = 0
refusal a (Event.offset o) = 0

abbrev pub answer : Node → Accepted Event → ℕ
answer a c = cond (leb a.clock c.time) (refusal a c.event) 6

abbrev pub if_applied : {A : Type 0} → ℕ → A → A → A
if_applied zero new old = new
if_applied (suc k) new old = old

-- both kinds hear it
abbrev pub after_event : Node → Accepted Event → Node
after_event a c = record {
  clock = c.time;
  set = settles a.set c.event;
  lines = slots_after lines.handling a.set c.time (lines.takes c.event) a.lines;
  guests = slots_after guests.handling a.set.offset c.time (guests.takes c.event) a.guests;
}

abbrev pub written : Node → Accepted Event → List Written
written a c = map bill (writes lines.handling a.set c.time (lines.takes c.event) a.lines)
    ++ map visit (writes guests.handling a.set.offset c.time (guests.takes c.event) a.guests)

abbrev pub single : Machine Node (Accepted Event) Event Written
single = record {
  holds = λ c. c ∷ [];
  applies = λ a c. if_zero (answer a c);
  after = λ a c. if_applied (answer a c) (after_event a c) a;
  writes = λ a c. if_applied (answer a c) (written a c) [];
}

-- ---- a call: an event, or what a line reported at one time, in several reports

pub data Call : Type 0 where
  one : Accepted Event → Call
  reports : ℕ → ℕ → List ℕ → Call

abbrev pub report : ℕ → ℕ → ℕ → Accepted Event
report n t k = record { time = t; event = Event.order n (Order.report k) }

abbrev pub parts : Call → List (Accepted Event)
parts (one c) = c ∷ []
parts (reports n t ks) = map (report n t) ks

-- those that the call applies: it stops at the first that is refused, and keeps what those before it did
abbrev pub done : Node → Call → List (Accepted Event)
done a i = up_to_refusal single (λ a c. eqb (answer a c) 0) a (parts i)

abbrev pub machine : Machine Node Call Event Written
machine = record {
  holds = parts;
  applies = λ a i. length (done a i);
  after = λ a i. run single a (done a i);
  writes = λ a i. all_written single a (done a i);
}

-- ---- where each kind's slots are, and which records are its own

abbrev pub bills : Written → List lines.Bill
bills (bill r) = r ∷ []
bills (visit r) = []

abbrev pub visits : Written → List guests.Visit
visits (bill r) = []
visits (visit r) = r ∷ []

abbrev pub of_lines : Sight ℕ lines.Line lines.Bill Node Written
of_lines = record { slots = λ a. a.lines; name = λ c. c.name; kindred = bills; name_of = λ r. r.name }

abbrev pub of_guests : Sight Badge guests.Guest guests.Visit Node Written
of_guests = record { slots = λ a. a.guests; name = λ c. c.name; kindred = visits; name_of = λ r. r.name }
