-- The sample node meets the demand, for lines and for guests, with calls of several events.
use Prim.Native.Nat.{ℕ, zero, suc, ◌+◌}
use mathlib.Core.Path.{◌≡◌, refl, sym}
use mathlib.Core.Bool.{Bool, true, false, not, cond, ◌&&◌}
use mathlib.Core.List.{List, [], ◌∷◌, ◌++◌, append-nil}
use native.Mathlib.Nat.{add-zero}
use native.Mathlib.Omega.{arith}
use lib.Dec.{leb, eqb, leb→le, eqb→eq}
use Rattle.history.specs.Lists.{each, sum_of}
use Rattle.history.specs.Log.{Accepted, reported}
use Rattle.history.specs.Table.{Handling, free, active, writes}
use Rattle.history.specs.Run.{if_zero, run, all_written, log}
use Rattle.history.specs.Demand.{Sight, Demand3, under, held}
use Rattle.history.specs.Calls.{OneCall}
use Rattle.history.specs.Sample.Events.{Badge, Event, Settings, settles}
use Rattle.history.specs.Sample.Lines as lines
use Rattle.history.specs.Sample.Guests as guests
use Rattle.history.specs.Sample.Node.{Node, fresh, Written, bill, visit, excess, refusal, answer, written, single}
use Rattle.history.specs.Sample.Node.{Call, parts, done, machine, bills, visits, of_lines, of_guests}
use Rattle.history.proofs.Lists.{each_append, each_picks, each_passes, each_map, map_id}
use Rattle.history.proofs.Tables.{admits}
use Rattle.history.proofs.Runs.{Serves, Outcome, did, refused, serves, OneByOne, serves_too, done_log}
use Rattle.history.proofs.Demand.{demand3}
use Rattle.history.proofs.Calls.{one_call}
use Rattle.history.proofs.Everything.{octets_once}
use Rattle.history.proofs.Sample.Lines as line
use Rattle.history.proofs.Sample.Guests as guest

-- ---- one event: what is accepted is admitted, by either kind

known : (j k : ℕ) (b : Bool) → ◌≡◌ {A = ℕ} (cond b j (suc k)) 0 → b ≡ true
known j k true p = refl
known j k false p = absurd (omega arith)

new : (j k : ℕ) (a f : Bool) → ◌≡◌ {A = ℕ} (cond a (suc j) (cond f 0 (suc k))) 0 → (not a && f) ≡ true
new j k true f i = absurd (omega arith)
new j k false true i = refl
new j k false false i = absurd (omega arith)

module _ (a : Node) where
  lines_admit : (v : Event) → refusal a v ≡ 0 → admits lines.handling (lines.takes v) a.lines ≡ true
  lines_admit (Event.activate n q) p = new 8 9 (active lines.handling n a.lines) (free a.lines) p
  lines_admit (Event.arrive b q) p = refl
  lines_admit (Event.order n x) p = known (excess x) 7 (active lines.handling n a.lines) p
  lines_admit (Event.turn b x) p = refl
  lines_admit Event.tariff p = refl
  lines_admit (Event.limit l) p = refl
  lines_admit (Event.offset o) p = refl

  guests_admit : (v : Event) → refusal a v ≡ 0 → admits guests.handling (guests.takes v) a.guests ≡ true
  guests_admit (Event.activate n q) p = refl
  guests_admit (Event.arrive b q) p = new 14 16 (active guests.handling b a.guests) (free a.guests) p
  guests_admit (Event.order n x) p = refl
  guests_admit (Event.turn b x) p = known 0 15 (active guests.handling b a.guests) p
  guests_admit Event.tariff p = refl
  guests_admit (Event.limit l) p = refl
  guests_admit (Event.offset o) p = refl

  guests_settle : (v : Event) → (settles a.set v).offset ≡ guests.settles a.set.offset v
  guests_settle (Event.activate n q) = refl
  guests_settle (Event.arrive b q) = refl
  guests_settle (Event.order n x) = refl
  guests_settle (Event.turn b x) = refl
  guests_settle Event.tariff = refl
  guests_settle (Event.limit l) = refl
  guests_settle (Event.offset o) = refl

-- each kind finds its own among what is written
module _ (a : Node) (c : Accepted Event) where
  abbrev of_lines_lem : List lines.Bill
  of_lines_lem = writes lines.handling a.set c.time (lines.takes c.event) a.lines

  abbrev of_guests_lem : List guests.Visit
  of_guests_lem = writes guests.handling a.set.offset c.time (guests.takes c.event) a.guests

  lines_wrote : each bills (written a c) ≡ of_lines_lem
  lines_wrote = rw (each_append, each_picks bills bill (λ r. refl) of_lines_lem, each_passes bills visit (λ r. refl) of_guests_lem) (append-nil of_lines_lem)

  guests_wrote : each visits (written a c) ≡ of_guests_lem
  guests_wrote = rw (each_append, each_passes visits bill (λ r. refl) of_lines_lem, each_picks visits visit (λ r. refl) of_guests_lem)

accepted : (a : Node) (c : Accepted Event) (b : Bool) → leb a.clock c.time ≡ b → answer a c ≡ 0
    → (leb a.clock c.time ≡ true) × (refusal a c.event ≡ 0)
accepted a c true f p = (f, rw f at p)
accepted a c false f p = let z = rw f at p in absurd (omega (arith, z))

lines_outcome : (a : Node) (c : Accepted Event) (k : ℕ) → answer a c ≡ k → Outcome lines.handling of_lines single (λ a. a.set) (λ a. a.clock) a c
lines_outcome a c zero p =
    let f = accepted a c (leb a.clock c.time) refl p in
    did c (record {
      events = rw p;
      admitted = lines_admit a c.event f.1;
      since = leb→le a.clock c.time (rw f.0 tt);
      clock_after = rw p (omega arith);
      slots_after_lem = rw p;
      settings_after_lem = rw p;
      wrote = rw p (lines_wrote a c);
    })
lines_outcome a c (suc k) p = refused (record { events = rw p; kept = rw p; silent = rw p })

guests_outcome : (a : Node) (c : Accepted Event) (k : ℕ) → answer a c ≡ k → Outcome guests.handling of_guests single (λ a. a.set.offset) (λ a. a.clock) a c
guests_outcome a c zero p =
    let f = accepted a c (leb a.clock c.time) refl p in
    did c (record {
      events = rw p;
      admitted = guests_admit a c.event f.1;
      since = leb→le a.clock c.time (rw f.0 tt);
      clock_after = rw p (omega arith);
      slots_after_lem = rw p;
      settings_after_lem = rw p (guests_settle a c.event);
      wrote = rw p (guests_wrote a c);
    })
guests_outcome a c (suc k) p = refused (record { events = rw p; kept = rw p; silent = rw p })

-- ---- a call does what its events do one by one, up to the first that is refused

zero_applies : (k : ℕ) → eqb k 0 ≡ true → if_zero k ≡ 1
zero_applies zero p = refl
zero_applies (suc k) p = let z = eqb→eq (suc k) 0 (rw p tt) in absurd (omega arith)

module _ {G N S E C B : Type 0} (K : Handling G N S E Event C B) (L : Sight N C B Node Written) (settings : Node → G) where
  one_by_one_lem : (a : Node) (i : Call) → OneByOne K L settings (λ a. a.clock) machine single a i
  one_by_one_lem a i = record {
    calls = done a i;
    events = rw (map_id (parts i)) at
        (done_log single (λ a c. eqb (answer a c) 0) (λ c. c) (λ c. refl) (λ a c p. zero_applies (answer a c) p) a (parts i));
    node = refl;
    wrote = refl;
  }

  served : ((c : C) → K.name c ≡ L.name c) → ((a : Node) (c : Accepted Event) → Outcome K L single settings (λ a. a.clock) a c)
      → Serves K L machine settings (λ a. a.clock)
  served names f = serves_too K L settings (λ a. a.clock) machine single (serves K L single settings (λ a. a.clock) names f) one_by_one_lem

-- ---- the theorems: after any calls, refused ones among them, from a fresh node with any settings, under any name

module _ (set : Settings) where
  -- of lines
  pub met : (calls : List Call) (n : ℕ) → Demand3 lines.rules lines.meaning lines.forms of_lines machine (fresh set) set calls n
  met calls n = demand3 lines.rules lines.meaning lines.forms lines.handling of_lines machine (λ s. s.set) line.sound (λ a. a.set) (λ a. a.clock)
      (served lines.handling of_lines (λ a. a.set) (λ c. refl) (λ a c. lines_outcome a c (answer a c) refl)) (fresh set) refl calls n

  -- of guests
  pub met_by_guests : (calls : List Call) (n : Badge) → Demand3 guests.rules guests.meaning guests.forms of_guests machine (fresh set) set.offset calls n
  met_by_guests calls n =
      demand3 guests.rules guests.meaning guests.forms guests.handling of_guests machine (λ s. s.offset) guest.sound (λ a. a.set.offset) (λ a. a.clock)
      (served guests.handling of_guests (λ a. a.set.offset) (λ c. refl) (λ a c. guests_outcome a c (answer a c) refl)) (fresh set) refl calls n

  -- and each call
  pub met_by_each : (calls : List Call) (i : Call) (n : ℕ) → OneCall lines.rules lines.meaning lines.forms of_lines machine (fresh set) set calls i n
  met_by_each calls i n = one_call lines.rules lines.meaning lines.forms of_lines machine (fresh set) set n (λ cs. met cs n) calls i

  pub met_by_each_guest : (calls : List Call) (i : Call) (n : Badge)
      → OneCall guests.rules guests.meaning guests.forms of_guests machine (fresh set) set.offset calls i n
  met_by_each_guest calls i n =
      one_call guests.rules guests.meaning guests.forms of_guests machine (fresh set) set.offset n (λ cs. met_by_guests cs n) calls i

  -- Every octet once, of the sample: the parts billed and stored, and what runs, are what was reported of a line by name.
  pub octets_billed : (calls : List Call) (n : ℕ)
      → sum_of (λ p. p.octets) (each (λ b. b.parts) (under eqb (λ b. b.name) n (each bills (all_written machine (fresh set) calls)))
      ++ each (λ c. c.parts) (under eqb (λ c. c.name) n (held (run machine (fresh set) calls).lines)))
      + sum_of (λ c. c.octets) (under eqb (λ c. c.name) n (held (run machine (fresh set) calls).lines))
      ≡ reported lines.rules lines.meaning n lines.octets (log machine (fresh set) calls)
  octets_billed calls n =
      octets_once lines.rules lines.forms n (λ x. lines.part x ∷ []) (λ b. b.parts) (λ c. c.parts)
      (λ r. sym (each_map lines.part r.stretches)) (λ o. sym (each_map lines.part o.stretches))
      lines.meaning of_lines machine (fresh set) set calls (met calls n) lines.octets line.uncounted
      (λ p. p.octets) (λ c. c.octets) (λ x. add-zero _) (λ o. refl)
