-- One call: the refusal table, and what an accepted event does to the node.
use Rattle.std.specs.Prelude.{◌≡◌, Bool, false, not, cond, ◌||◌, List, [], ◌∷◌, ◌++◌, map, ℕ, ◌+◌, leb, ltb, eqb, length, drop}
use Rattle.std.specs.Prelude.{Option, None, Some}
use Rattle.container.specs.declared.Qos.{Qos}
use Rattle.container.specs.Open.{opened}
use Rattle.limits.specs.declared.Limits.{Limits}
use Rattle.limits.specs.Sets.{has_set, limits_of, is_next, replaced}
use Rattle.scdr.specs.declared.Record.{Record}
use Rattle.octets.specs.Filled.{fill_to}
use Rattle.scdr.specs.Layout.{scdr}
use Rattle.profile.specs.declared.Profile.{Profile}
use Rattle.event.specs.declared.Name.{Name}
use Rattle.event.specs.declared.Activation.{Activation}
use Rattle.event.specs.declared.Replacement.{Replacement}
use Rattle.event.specs.declared.Event.{Event}
use Rattle.event.specs.Fields.{time_of, flags_of, imsi_of, apn_of, subscriber_imsi}
use Rattle.event.specs.Rows.{Row, row, first_fit, marked, known, measured, fields_ok}
use Rattle.event.specs.Event.{event_of}
use Rattle.context.specs.declared.Context.{Context}
use Rattle.context.specs.Context.{no_context}
use Rattle.context.specs.Slots.{same_name}
use Rattle.history.specs.Lists.{each}
use Rattle.history.specs.Slots as S
use Rattle.history.specs.Log.{Said, activates, tells, tells_all, nothing}
use Rattle.history.specs.Table.{Handling, slots_after, writes, not_active, is_active, all_taken}
use Rattle.mcdr.specs.declared.Place.{Place}
use Rattle.mcdr.specs.declared.MmRecord.{MmRecord}
use Rattle.subscriber.specs.declared.Subscriber.{Subscriber}
use Rattle.subscriber.specs.declared.Notice.{Notice}
use Rattle.subscriber.specs.Subscriber.{name_of as imsiName, taken as isAttached}
use Rattle.subscriber.specs.Hear.{attached, hear as notices}
use Rattle.subscriber.specs.Tell.{stood as stayed, octets_of as mmOctetsOf}
use Rattle.node.specs.declared.Node.{Node}
use Rattle.node.specs.declared.Settings.{Settings}
use Rattle.node.specs.declared.Message.{Message}
use Rattle.node.specs.declared.meaning.Meaning.{Meaning}
use Rattle.node.specs.declared.meaning.Meaning.TheVariants as W
use Rattle.node.specs.Meaning.{meaning_of}
use Rattle.node.specs.Hear.{time_at, hear}
use Rattle.node.specs.Sound.{sound, latest, most_accepted}

-- ---- what an event says to whom

-- what an activation brings: all of a context that is not the node's own doing, and the limits that are then in force in its set
pub record Brought : Type 0 where
  pub flags : ℕ
  pub imsi : List ℕ
  pub apn : List ℕ
  pub pdptype : ℕ
  pub address : ℕ
  pub set : ℕ
  pub qos : Qos
  pub limits : Limits

abbrev pub brought_by : Settings → Activation → List ℕ → Brought
brought_by g a s = record {
  flags = flags_of s;
  imsi = imsi_of s;
  apn = apn_of s;
  pdptype = a.pdptype;
  address = a.address;
  set = a.set;
  qos = a.qos;
  limits = limits_of a.set g.sets;
}

-- what an attach brings (02, W4): the IMSI's octets, and the place
pub record Attached : Type 0 where
  pub imsi : List ℕ
  pub place : Place

-- what is said to the table of contexts, and to that of subscribers: to one of them nothing
abbrev pub ToContexts : Type 0
ToContexts = Said Settings Name Brought Message

abbrev pub ToSubscribers : Type 0
ToSubscribers = Said (Unit {0}) ℕ Attached Notice

-- and to the node itself (02, W6): the number of a set of limits that it must have, and what replaces a set
pub record Words : Type 0 where
  pub contexts : ToContexts
  pub subscribers : ToSubscribers
  pub set : Option ℕ
  pub replaces : Option Replacement

abbrev pub to_contexts : Option ℕ → ToContexts → Words
to_contexts number w = record { contexts = w; subscribers = nothing; set = number; replaces = None }

abbrev pub to_subscribers : ToSubscribers → Words
to_subscribers w = record { contexts = nothing; subscribers = w; set = None; replaces = None }

abbrev pub to_settings : Replacement → Words
to_settings r = record { contexts = nothing; subscribers = nothing; set = Some r.set; replaces = Some r }

abbrev pub saying : Meaning → List ℕ → Words
saying (W.Opens a) s = to_contexts (Some a.set) (activates a.name (λ g. brought_by g a s))
saying (W.Tells n m) s = to_contexts None (tells n m)
saying (W.TellsAll m) s = to_contexts None (tells_all m)
saying (W.Attaches k q) s = to_subscribers (activates k (λ g. record { imsi = subscriber_imsi s; place = q }))
saying (W.Notifies k m) s = to_subscribers (tells k m)
saying (W.Replaces r) s = to_settings r

abbrev pub takes : Event → List ℕ → Words
takes e s = saying (meaning_of e) s

-- what the node is set to afterwards: a set is "replaced whole by an event that names the set and the next edition" (02, W6)
unfoldable pub settled_by : Option Replacement → Settings → Settings
settled_by None g = g
settled_by (Some r) g = record { sets = replaced r.set (record { edition = r.edition; limits = r.limits }) g.sets }

-- "opens a record now with empty counters, no containers, change count 0"
unfoldable pub activated : Profile → ℕ → Name → Brought → Context
activated p t n b = record {
  active = 1;
  flags = b.flags;
  set = b.set;
  name = n;
  imsi = b.imsi;
  apn = fill_to 63 0 b.apn;
  apnlen = length b.apn;
  pdptype = b.pdptype;
  address = b.address;
  current = opened (time_at p t) b.qos b.limits;
  closed = 0;
}

-- How the node handles contexts: a named event is heard by the context of that name, a tariff and a tick by all in slot order,
-- "activation takes the lowest free slot", "a freed slot is used again" (`slots_after`, `writes` of history's specs/Table.antt). What the node is set to
-- says with which limits a record opens.
abbrev pub handling : Profile → Handling Settings Name Brought Message (Event × List ℕ) Context Record
handling p = record {
  same = same_name;
  name = λ c. c.name;
  says = λ w. (takes w.0 w.1).contexts;
  settles = λ g w. settled_by (takes w.0 w.1).replaces g;
  opening = λ t n b. activated p t n b;
  hear = λ g c t h. hear p g c t h;
}

-- and subscribers likewise: "named by IMSI", "the lowest free place is taken"
abbrev pub subscribing : Profile → Handling (Unit {0}) ℕ Attached Notice (Event × List ℕ) Subscriber MmRecord
subscribing p = record {
  same = eqb;
  name = λ s. imsiName s;
  says = λ w. (takes w.0 w.1).subscribers;
  settles = λ g w. g;
  opening = λ t k a. attached p t a.imsi a.place;
  hear = λ g s t m. notices p s t m;
}

-- a slot of the table, and what stands in it (`seen`, `stood` of history's specs/Slots.antt)
abbrev pub taken : Context → Bool
taken c = eqb c.active 1

abbrev pub seen : Context → Option Context
seen c = S.seen taken c

abbrev pub stood : Option Context → Context
stood o = S.stood no_context o

abbrev pub slots : Node → List (Option Context)
slots n = map seen n.contexts

-- the same of subscribers
abbrev pub places : Node → List (Option Subscriber)
places n = map (S.seen isAttached) n.subscribers

-- ---- what is written: "each record follows the mark C3 5A"

unfoldable pub marked_octets : Record → List ℕ
marked_octets r = 0xC3 ∷ 0x5A ∷ scdr.enc r

unfoldable pub octets_of : List Record → List ℕ
octets_of rs = each marked_octets rs

-- ---- an event that is accepted

module _ (n : Node) (t : ℕ) (w : Words) where
  unfoldable pub node_after : Node
  node_after = record {
    profile = n.profile;
    settings = settled_by w.replaces n.settings;
    clock = t;
    accepted = n.accepted + 1;
    contexts = map stood (slots_after (handling n.profile) n.settings t w.contexts (slots n));
    subscribers = map stayed (slots_after (subscribing n.profile) tt t w.subscribers (places n));
  }

  -- the S-CDRs that it closes, and the M-CDRs
  unfoldable pub records_of : List Record
  records_of = writes (handling n.profile) n.settings t w.contexts (slots n)

  unfoldable pub mm_records_of : List MmRecord
  mm_records_of = writes (subscribing n.profile) tt t w.subscribers (places n)

  unfoldable pub output : List ℕ
  output = octets_of records_of ++ mmOctetsOf mm_records_of

-- ---- the refusal table

-- what the octets of an event say, as they stand
abbrev pub said_of : List ℕ → Words
said_of s = takes (event_of s) s

-- it names a set that a node with so many does not have; it replaces a set by another edition than the next one
unfoldable pub unknown_set : ℕ → Option ℕ → Bool
unknown_set count None = false
unknown_set count (Some number) = not (has_set count number)

unfoldable pub other_edition : Settings → Option Replacement → Bool
other_edition g None = false
other_edition g (Some r) = not (is_next r.set r.edition g.sets)

-- 01's "Refusal numbers, tried in this order", all that a call gives, each with 01's words; 15 to 17 are those of 02's W4, "16 before 15 before
-- 17, before 11", 18 and 19 of its W6, "both after 7 and before 8". (12 is a fresh node's, 14 a list's, 20 the reader's and 24 the writer's.) Each condition is true or false of any node, octets
-- and buffer.
unfoldable pub refusals : Node → List ℕ → List ℕ → List Row
refusals n s b =
    -- "node breaks a rule under 'A sound node'"
    row 13 (not (sound n))
    -- "event under 7 octets, empty too"
    ∷ row 1 (ltb (length s) 7)
    -- "mark"
    ∷ row 2 (not (marked s))
    -- "kind not 1..7", and now 1..12
    ∷ row 3 (not (known s))
    -- "length not the kind's; activate under 36", and now 37
    ∷ row 4 (not (measured s))
    -- "a field out of range"
    ∷ row 5 (not (fields_ok s))
    -- "time above 3,155,759,999 or below the clock"
    ∷ row 6 (ltb latest (time_of s) || ltb (time_of s) n.clock)
    -- "1,000,000,000,000,000 events accepted already"
    ∷ row 7 (leb most_accepted n.accepted)
    -- kinds 1, 12: "an unknown set"
    ∷ row 18 (unknown_set n.profile.sets (said_of s).set)
    -- kind 12: "an edition not one higher, or with none above 65,535"
    ∷ row 19 (other_edition n.settings (said_of s).replaces)
    -- "kinds 2, 3, 5, 7: name not active"
    ∷ row 8 (not_active (handling n.profile) (said_of s).contexts (slots n))
    -- "kind 1: name active"
    ∷ row 9 (is_active (handling n.profile) (said_of s).contexts (slots n))
    -- "kind 1: all 16 slots taken"
    ∷ row 10 (all_taken (handling n.profile) (said_of s).contexts (slots n))
    -- kinds 9, 10, 11: "not attached"
    ∷ row 16 (not_active (subscribing n.profile) (said_of s).subscribers (places n))
    -- kind 8: "attached already"
    ∷ row 15 (is_active (subscribing n.profile) (said_of s).subscribers (places n))
    -- kind 8: "no free place"
    ∷ row 17 (all_taken (subscribing n.profile) (said_of s).subscribers (places n))
    -- "this event's output .. longer than the output buffer"
    ∷ row 11 (ltb (length b) (length (output n (time_of s) (said_of s))))
    ∷ []

-- ---- the whole call: answer, node, written length, buffer

-- with the number of a refusal, or 0 where none fits
unfoldable pub outcome : ℕ → Node → ℕ → Words → List ℕ → ℕ × (Node × (ℕ × List ℕ))
outcome k n t w b =
    cond (eqb k 0)
    (0, (node_after n t w, (length (output n t w), output n t w ++ drop (length (output n t w)) b)))
    (k, (n, (0, b)))

unfoldable pub step_of : Node → List ℕ → List ℕ → ℕ × (Node × (ℕ × List ℕ))
step_of n s b = outcome (first_fit (refusals n s b)) n (time_of s) (said_of s) b

pub record Steps (n : Node) (s b b' : List ℕ) (answer : ℕ) (n' : Node) (written : ℕ) : Type 0 where
  pub is : ◌≡◌ {A = ℕ × (Node × (ℕ × List ℕ))} (answer, (n', (written, b'))) (step_of n s b)
