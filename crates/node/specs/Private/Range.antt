-- Some of the table's slots, from one place up to another: what is done there, and what that writes.
use Rattle.std.specs.Prelude.{◌≡◌, cond, List, ◌++◌, ℕ, ◌+◌, ◌≤◌, leb, eqb, length, get_or, drop, set}
use Rattle.std.specs.Prelude.{Some}
use Rattle.ber.specs.Private.Wrote.{Put}
use Rattle.profile.specs.declared.Profile.{Profile}
use Rattle.event.specs.declared.Replacement.{Replacement}
use Rattle.context.specs.declared.Context.{Context}
use Rattle.context.specs.Context.{no_context}
use Rattle.history.specs.Slots as S
use Rattle.history.specs.Slots.{across, along}
use Rattle.subscriber.specs.declared.Subscriber.{Subscriber}
use Rattle.subscriber.specs.declared.Notice.{Notice}
use Rattle.subscriber.specs.Subscriber.{no_subscriber}
use Rattle.subscriber.specs.Tell.{told_of}
use Rattle.node.specs.declared.Node.{Node}
use Rattle.node.specs.declared.Message.{Message}
use Rattle.node.specs.declared.Settings.{Settings}
use Rattle.node.specs.Step.{handling, settled_by, taken, octets_of}

-- a slot whose context, if it has one, hears h at t: what then stands in it, and the octets that it writes
unfoldable pub slot_next : Profile → Settings → ℕ → Message → Context → Context
slot_next p g t h c = S.slot_next (handling p) taken no_context g t h c

unfoldable pub slot_out : Profile → Settings → ℕ → Message → Context → List ℕ
slot_out p g t h c = S.slot_out (handling p) taken octets_of g t h c

-- a number of octets, few enough to add up
pub record Counts (x : List ℕ) (n : ℕ) : Type 0 where
  pub is : n ≡ length x
  pub most : n ≤ 1026

-- what stands, and what was written at a place
pub record Stands {A : Type 0} (want : A) (x b b' : List ℕ) (at : ℕ) (got : A) (next : ℕ) : Type 0 where
  pub value : got ≡ want
  pub written : Put x b b' at next

-- what comes of a slot that hears h alone: 11 where there is no room for what it writes
unfoldable pub tried_of : Profile → Settings → ℕ → Message → Context → List ℕ → ℕ × (Context × (ℕ × List ℕ))
tried_of p g t h c b =
    let x = slot_out p g t h c in
    cond (leb (length x) (length b)) (0, (slot_next p g t h c, (length x, x ++ drop (length x) b))) (11, (c, (0, b)))

pub record Tries (p : Profile) (g : Settings) (t : ℕ) (h : Message) (c : Context) (b b' : List ℕ) (answer : ℕ) (c' : Context) (written : ℕ) : Type 0 where
  pub is : ◌≡◌ {A = ℕ × (Context × (ℕ × List ℕ))} (answer, (c', (written, b'))) (tried_of p g t h c b)

-- the same of the whole table
unfoldable pub tried_all : Profile → Settings → ℕ → Message → List Context → List ℕ → ℕ × (List Context × (ℕ × List ℕ))
tried_all p g t h cs b =
    let x = along 0 16 (slot_out p g t h) cs in
    cond (leb (length x) (length b)) (0, (across 0 16 (slot_next p g t h) cs, (length x, x ++ drop (length x) b))) (11, (cs, (0, b)))

pub record TriesAll (p : Profile) (g : Settings) (t : ℕ) (h : Message) (cs : List Context) (b b' : List ℕ) (answer : ℕ) (cs' : List Context) (written : ℕ) : Type 0 where
  pub is : ◌≡◌ {A = ℕ × (List Context × (ℕ × List ℕ))} (answer, (cs', (written, b'))) (tried_all p g t h cs b)

-- the node at a time, one event on, with this table
abbrev pub advanced : Node → ℕ → List Context → Node
advanced n t cs = record { profile = n.profile; settings = n.settings; clock = t; accepted = n.accepted + 1; contexts = cs; subscribers = n.subscribers }

-- one event on, with the same tables
abbrev pub accepted_at : Node → ℕ → Node
accepted_at n t = advanced n t n.contexts

-- the same with another table of subscribers
abbrev pub enrolled : Node → ℕ → List Subscriber → Node
enrolled n t ss = record { profile = n.profile; settings = n.settings; clock = t; accepted = n.accepted + 1; contexts = n.contexts; subscribers = ss }

-- and with what came of one subscriber
abbrev pub told : Node → ℕ → ℕ → ℕ → Subscriber → Node
told n i t answer s = cond (eqb answer 0) (enrolled n t (set n.subscribers i s)) n

-- what is answered where the subscriber in a slot hears m: what is answered of it, and the node with it
unfoldable pub notified_of : Node → ℕ → ℕ → Notice → List ℕ → ℕ × (Node × (ℕ × List ℕ))
notified_of n i t m b =
    let r = told_of n.profile t m (get_or n.subscribers i no_subscriber) b in
    (r.0, (told n i t r.0 r.1.0, (cond (eqb r.0 0) r.1.1.0 0, r.1.1.1)))

-- the same with a set of limits replaced
abbrev pub resettled : Node → ℕ → Replacement → Node
resettled n t r = record {
  profile = n.profile;
  settings = settled_by (Some r) n.settings;
  clock = t;
  accepted = n.accepted + 1;
  contexts = n.contexts;
  subscribers = n.subscribers;
}

-- the same with what came of one slot, or the node as it was where that is a refusal
abbrev pub placed : Node → ℕ → ℕ → ℕ → Context → Node
placed n i t answer c = cond (eqb answer 0) (advanced n t (set n.contexts i c)) n

-- what is answered where the slots from one place up to another hear h: 11 where there is no room for what they write
unfoldable pub served_of : Node → ℕ → ℕ → ℕ → Message → List ℕ → ℕ × (Node × (ℕ × List ℕ))
served_of n from to t h b =
    let x = along from to (slot_out n.profile n.settings t h) n.contexts in
    cond (leb (length x) (length b))
    (0, (advanced n t (across from to (slot_next n.profile n.settings t h) n.contexts), (length x, x ++ drop (length x) b)))
    (11, (n, (0, b)))

pub record Serves (n : Node) (from to t : ℕ) (h : Message) (b b' : List ℕ) (answer : ℕ) (n' : Node) (written : ℕ) : Type 0 where
  pub is : ◌≡◌ {A = ℕ × (Node × (ℕ × List ℕ))} (answer, (n', (written, b'))) (served_of n from to t h b)
