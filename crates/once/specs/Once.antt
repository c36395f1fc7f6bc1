-- Every octet once (demand 3), of the node: the statement. It is about what the node answers to calls, of one event and of a list of reports
-- (02, W2), the octets that they write included, and about nothing else of the node. It holds of both kinds of subject: PDP contexts, and
-- subscribers (02, W4), whose location changes stand in the place of containers.
use Rattle.std.specs.Prelude.{◌≡◌, ◌↔◌, List, [], ◌∷◌, ◌++◌, map, ℕ, ◌^◌, ◌≤◌, ◌<◌, length, take, drop}
use Rattle.std.specs.Prelude.{Some}
use Rattle.scdr.specs.declared.Record as scdr
use Rattle.mcdr.specs.declared.Place.{Place}
use Rattle.mcdr.specs.declared.MmRecord.{MmRecord}
use Rattle.cdrs.specs.Cdr.{Cdr, pdp, mm, cdr_enc}
use Rattle.cdrs.specs.List.{record_list}
use Rattle.ber.specs.Int.{spelt}
use Rattle.profile.specs.declared.Profile.{Profile}
use Rattle.event.specs.declared.Name.{Name}
use Rattle.event.specs.Fields.{time_of}
use Rattle.event.specs.Traffic.{traffic_event}
use Rattle.context.specs.declared.Context.{Context}
use Rattle.history.specs.Lists.{each, All}
use Rattle.history.specs.Run.{Machine, if_zero, all_written, log}
use Rattle.history.specs.History.{History}
use Rattle.history.specs.Records.{Rules, since_opening}
use Rattle.history.specs.Log.{Accepted, Meaning, tells, heard, histories}
use Rattle.history.specs.Demand.{ClosesNow, Unchanged, Forms, Sight, under, Demand3}
use Rattle.history.specs.Calls.{open_one, closes_in, OneCall}
use Rattle.node.specs.declared.Node.{Node}
use Rattle.node.specs.declared.Settings.{Settings}
use Rattle.node.specs.Sound.{fresh_node, fresh_of}
use Rattle.node.specs.Step.{step_of, slots, places}
use Rattle.subscriber.specs.declared.Subscriber.{Subscriber}
use Rattle.subscriber.specs.Subscriber.{name_of}
use Rattle.node.specs.Batch.{reports_of, batch_of}
use Rattle.node.specs.Run.{Call, step, batch, after_one, after, Given}
use Rattle.node.specs.Held.{HeldProfile}
use Rattle.once.specs.Charging.{Force, Heard, says, settles, settings_of, meaning, Closes, which, rules, forms}
use Rattle.once.specs.Attaching.{Noted}
use Rattle.once.specs.Attaching as attaching

-- ---- calls

-- the octets that stand in the buffer that a call is lent
abbrev pub buffer_of : Call → List ℕ
buffer_of (step s b) = b
buffer_of (batch m t vs b) = b

-- What is answered to a call on a node: the number 0 or that of a refusal, the node, the written length, the buffer.
module _ (n : Node) where
  abbrev pub answer : Call → ℕ
  answer (step s b) = (step_of n s b).0
  answer (batch m t vs b) = (batch_of n m t vs b).answer

  abbrev pub node_now : Call → Node
  node_now c = after_one n c

  abbrev pub length_now : Call → ℕ
  length_now (step s b) = (step_of n s b).1.1.0
  length_now (batch m t vs b) = (batch_of n m t vs b).written

  abbrev pub buffer_now : Call → List ℕ
  buffer_now (step s b) = (step_of n s b).1.1.1
  buffer_now (batch m t vs b) = (batch_of n m t vs b).buffer

  -- the octets that the call writes
  abbrev pub octets_now : Call → List ℕ
  octets_now c = take (length_now c) (buffer_now c)

-- "In output each record follows the mark C3 5A."
abbrev pub marked : List Cdr → List ℕ
marked rs = each (λ r. 0xC3 ∷ 0x5A ∷ cdr_enc r) rs

-- ---- the node as history's specs/Run.antt and specs/Demand.antt see it

-- The events that a call holds: its own, or the traffic event of each pair of its list.
abbrev pub events_of : Call → List (List ℕ)
events_of (step s b) = s ∷ []
events_of (batch m t vs b) = reports_of m t vs

-- How many of them it applies, from the first on: its own exactly when the answer is 0; of a list as many as the call says.
abbrev pub applies_of : Node → Call → ℕ
applies_of n (step s b) = if_zero (step_of n s b).0
applies_of n (batch m t vs b) = (batch_of n m t vs b).applied

-- Each event has the time that its octets say. `records_by` says which records a call writes.
abbrev pub machine : (Node → Call → List Cdr) → Machine Node Call (List ℕ) Cdr
machine records_by = record {
  holds = λ c. map (λ s. record { time = time_of s; event = s }) (events_of c);
  applies = applies_of;
  after = node_now;
  writes = records_by;
}

-- The slots of a node, which of its records are S-CDRs, and the names of contexts and of S-CDRs.
abbrev pub sessions : Cdr → List scdr.Record
sessions (pdp r) = r ∷ []
sessions (mm r) = []

abbrev pub sight : Sight Name Context scdr.Record Node Cdr
sight = record {
  slots = slots;
  name = λ c. c.name;
  kindred = sessions;
  name_of = λ r. record { id = r.charging; ggsn = r.ggsn };
}

-- The same of subscribers and of M-CDRs.
abbrev pub mobility : Cdr → List MmRecord
mobility (pdp r) = []
mobility (mm r) = r ∷ []

abbrev pub mm_sight : Sight ℕ Subscriber MmRecord Node Cdr
mm_sight = record { slots = places; name = λ s. name_of s; kindred = mobility; name_of = λ r. spelt 0 r.imsi }

-- all octets that calls write, one call after another, each on the node that the last one handed back
abbrev pub outputs : Node → List Call → List ℕ
outputs n [] = []
outputs n (c ∷ cs) = octets_now n c ++ outputs (node_now n c) cs

-- the node after calls from a fresh one
abbrev pub node_then : Profile → List Call → Node
node_then p calls = after (fresh_node p) calls

-- ---- the two kinds of subject

-- What a kind is, for the statement: its rules, what events mean for it, what a fresh node is set to as far as that matters to it, what it is
-- written and stored as, where the node has it, the cause of a record, and its closing conditions one by one.
pub record Kind (G N S E C B : Type 0) : Type 1 where
  pub rules : Rules S E
  pub meaning : Meaning G N S E (List ℕ)
  pub settings : G
  pub forms : Forms N S E C B
  pub sight : Sight N C B Node Cdr
  pub cause_of : B → ℕ
  pub Closes : History S E → ℕ → E → ℕ → Type 0

-- PDP contexts, and their S-CDRs
abbrev pub contexts : Profile → Kind Settings Name Force Heard Context scdr.Record
contexts p = record {
  rules = rules;
  meaning = meaning;
  settings = settings_of p;
  forms = forms p;
  sight = sight;
  cause_of = λ r. r.cause;
  Closes = Closes;
}

-- subscribers, and their M-CDRs
abbrev pub subscribers : Profile → Kind (Unit {0}) ℕ Place Noted Subscriber MmRecord
subscribers p = record {
  rules = attaching.rules;
  meaning = attaching.meaning;
  settings = tt;
  forms = attaching.forms p;
  sight = mm_sight;
  cause_of = λ r. r.cause;
  Closes = attaching.Closes;
}

-- The activations of a name of a kind: its histories in the accepted events, first to last. What the calls write is no part of them.
abbrev pub activations : {G N S E C B : Type 0} → Kind G N S E C B → Profile → List Call → N → List (History S E)
activations K p calls name = histories K.rules K.meaning name K.settings (log (machine (λ n c. [])) (fresh_node p) calls)

-- What a node that was set to g is set to after accepted events.
abbrev pub set_to : Settings → List (Accepted (List ℕ)) → Settings
set_to g [] = g
set_to g (c ∷ cs) = set_to (settles g c.event) cs

-- ---- a pair of a list

-- Its event says its numbers: traffic of that name, at that time, of so many octets up and down.
pub record PairSays (m : Name) (t up down : ℕ) : Type 0 where
  pub time : time_of (traffic_event m t up down) ≡ t
  pub traffic : says (traffic_event m t up down) ≡ tells m (Heard.traffic up down)

-- ---- a call of one event

-- These are one record, and it has this cause.
pub record OneFor {B : Type 0} (cause_of : B → ℕ) (rs : List B) (cause : ℕ) : Type 0 where
  pub sole : B
  pub alone : rs ≡ sole ∷ []
  pub for : cause_of sole ≡ cause

-- A call with the event s after any calls from a fresh node with this profile, and a kind.
module _ {G N S E C B : Type 0} (K : Kind G N S E C B) (p : Profile) (records_by : Node → Call → List Cdr) (calls : List Call) (s b : List ℕ) where
  -- what is answered to it
  abbrev pub answer_then : ℕ
  answer_then = answer (node_then p calls) (step s b)

  -- the records of the kind that it writes under a name
  abbrev pub records_under : N → List B
  records_under name = under K.meaning.same K.sight.name_of name (each K.sight.kindred (records_by (node_then p calls) (step s b)))

  -- It closes the open record of a name, with this cause: it is accepted, a history of the name is open, this hears the event, and
  -- one of the closing conditions holds there, read over the open record's past alone.
  pub record ClosesUnder (name : N) (cause : ℕ) : Type 0 where
    pub accepted : answer_then ≡ 0
    pub history : History S E
    pub is_open : open_one K.rules (activations K p calls name) ≡ Some history
    pub event : E
    pub hears : heard K.rules K.meaning name (K.meaning.says s) ≡ Some event
    pub condition : K.Closes (since_opening K.rules history) (time_of s) event cause

  pub record EachCall : Type 0 where
    -- Refused, it writes nothing.
    pub refused : (answer_then ≡ 0 → ⊥) → octets_now (node_then p calls) (step s b) ≡ []
    -- Accepted, it writes under every name exactly the records that its event closes in the name's open history: nothing where none
    -- is open, and nothing where the name does not hear the event.
    pub accepted : answer_then ≡ 0 → (name : N) → records_under name
        ≡ map (K.forms.as_written name) (closes_in K.rules (open_one K.rules (activations K p calls name)) (time_of s)
        (heard K.rules K.meaning name (K.meaning.says s)))
    -- It writes a record with a cause, and no other under the name, exactly when a closing condition holds there with that cause.
    pub exactly : (name : N) (cause : ℕ) → OneFor K.cause_of (records_under name) cause ↔ ClosesUnder name cause

-- What must hold of a kind, where `records_by` says which records a call writes.
pub record Charged {G N S E C B : Type 0} (K : Kind G N S E C B) (p : Profile) (records_by : Node → Call → List Cdr) : Type 0 where
  -- Under every name these records, and what is stored, are exactly what its histories make and leave.
  pub demand : (calls : List Call) (name : N) → Demand3 K.rules K.meaning K.forms K.sight (machine records_by) (fresh_node p) K.settings calls name
  -- Each call writes what its events close, and nothing else: said of a call of one event, and of any call as the theory says it of calls that
  -- may apply any number of events.
  pub each_call : (calls : List Call) (s b : List ℕ) → EachCall K p records_by calls s b
  pub one_call : (calls : List Call) (c : Call) (name : N)
      → OneCall K.rules K.meaning K.forms K.sight (machine records_by) (fresh_node p) K.settings calls c name
  -- In every history a record closes exactly when one of the closing conditions holds, read over the open record's past alone.
  pub conditions : (h : History S E) (t : ℕ) (e : E) (cause : ℕ) → ClosesNow K.rules h t e cause ↔ K.Closes (since_opening K.rules h) t e cause
  -- No event meets two of them with two causes.
  pub one_cause : (r : History S E) (t : ℕ) (e : E) (j k : ℕ) → K.Closes r t e j → K.Closes r t e k → j ≡ k

-- ---- the statement

-- Any calls one after another, of one event and of lists of reports, refused ones among them, from a fresh node with this profile.
pub record Once (p : Profile) : Type 0 where
  -- The fresh node is made.
  pub made : ◌≡◌ {A = ℕ × Node} (fresh_of p) (0, fresh_node p)
  -- One function says which records a call writes, whichever node it meets: what a call writes is these with their marks, in order,
  -- from the buffer's start, and nothing else. The written length is that of these octets, they fit, and later octets are as before.
  pub records_by : Node → Call → List Cdr
  pub octets : (n : Node) (c : Call) → octets_now n c ≡ marked (records_by n c)
  pub lengths : (n : Node) (c : Call) → length_now n c ≡ length (marked (records_by n c))
  pub fit : (n : Node) (c : Call) → length_now n c ≤ length (buffer_of c)
  pub others : (n : Node) (c : Call) → buffer_now n c ≡ marked (records_by n c) ++ drop (length_now n c) (buffer_of c)
  -- So all the octets that calls write are these records.
  pub all_octets_lem : (calls : List Call) → outputs (fresh_node p) calls ≡ marked (all_written (machine records_by) (fresh_node p) calls)
  -- Read mark by mark they are these records and nothing else, where events are octets and the profile is one that the code can hold.
  pub reads : HeldProfile p → (calls : List Call) → All Given calls
      → record_list (outputs (fresh_node p) calls) ≡ Some (all_written (machine records_by) (fresh_node p) calls)
  -- Both kinds are charged by them: PDP contexts in S-CDRs, subscribers in M-CDRs.
  pub sessions : Charged (contexts p) p records_by
  pub mobility : Charged (subscribers p) p records_by
  -- A pair of a list is in them with its numbers, which are of 32 bits.
  pub pair : (m : Name) (t up down : ℕ) → t < 2 ^ 32 → m.id < 2 ^ 32 → m.ggsn < 2 ^ 32 → up < 2 ^ 32 → down < 2 ^ 32 → PairSays m t up down
  -- Each accepted event, and each applied pair of a list, is one of those that the node counts: 02, "Demand 3 counts each applied pair as one
  -- event".
  pub counted : (calls : List Call) → (node_then p calls).accepted ≡ length (log (machine records_by) (fresh_node p) calls)
  -- What the node is set to is what the accepted replacements made of the profile's sets of limits (02, W6).
  pub is_set_to : (calls : List Call) → (node_then p calls).settings ≡ set_to (settings_of p) (log (machine records_by) (fresh_node p) calls)
  -- "No event meets two of them for one context": it is the same one of the five, with the same cause.
  pub one_condition : (r : History Force Heard) (t : ℕ) (e : Heard) (j k : ℕ) (a : Closes r t e j) (b : Closes r t e k)
      → which a ≡ which b
  -- Nor does one meet two of the three for one subscriber.
  pub mm_one_condition : (r : History Place Noted) (t : ℕ) (e : Noted) (j k : ℕ) (a : attaching.Closes r t e j) (b : attaching.Closes r t e k)
      → attaching.which a ≡ attaching.which b
  -- What an activation brings stands in every part of its history.
  pub brought : (h : History Force Heard) → Unchanged rules (λ s. s.brought) h
