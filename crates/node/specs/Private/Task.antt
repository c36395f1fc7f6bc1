-- What a call is to do, by the names of the slots and the event; and what is answered then.
use Rattle.std.specs.Prelude.{◌≡◌, true, cond, ◌||◌, List, map, ℕ, ◌+◌, ◌≤◌, ◌<◌, leb, ltb, eqb, length, set}
use Rattle.std.specs.Prelude.{Option, None, Some, position, Result, Ok, Err}
use Rattle.event.specs.declared.Name.{Name}
use Rattle.event.specs.declared.Activation.{Activation}
use Rattle.event.specs.declared.Event.{Event}
use Rattle.event.specs.declared.Replacement.{Replacement}
use Rattle.limits.specs.Sets.{has_set, is_next}
use Rattle.event.specs.declared.Refusal as octets
use Rattle.context.specs.Slots.{slot_of, bears}
use Rattle.keys.specs.Slots.{is_free}
use Rattle.event.specs.Fields.{subscriber_imsi}
use Rattle.event.specs.Private.Activated.{Activated}
use Rattle.mcdr.specs.declared.Place.{Place}
use Rattle.keys.specs.declared.Slot.{Slot}
use Rattle.keys.specs.Slots as named
use Rattle.subscriber.specs.declared.Notice.{Notice}
use Rattle.subscriber.specs.Subscriber.{slot_of as imsi_slot}
use Rattle.subscriber.specs.Hear as subscriber
use Rattle.subscriber.specs.Hear.{notice_ok}
use Rattle.node.specs.declared.Node.{Node}
use Rattle.node.specs.declared.Message.{Message}
use Rattle.node.specs.declared.Settings.{Settings}
use Rattle.node.specs.declared.meaning.Meaning.{Meaning}
use Rattle.node.specs.declared.meaning.Meaning.TheVariants as W
use Rattle.node.specs.Meaning.{meaning_of}
use Rattle.node.specs.declared.task.Task.{Task}
use Rattle.node.specs.declared.task.Task.TheVariants.{One, All, Open, Notify, Attach, Replace}
use Rattle.node.specs.Sound.{sound, latest, most_accepted}
use Rattle.node.specs.declared.refusal.Refusal.{Refusal}
use Rattle.node.specs.declared.refusal.Refusal.TheVariants.{Octets, Time, TooMany, NotActive, Active, NoSlot, Unsound, Attached, NotAttached, NoPlace, UnknownSet, Edition}
use Rattle.node.specs.Refusal.{number_of}
use Rattle.node.specs.Step.{brought_by, activated}
use Rattle.node.specs.Held.{Held}
use Rattle.node.specs.Private.Premises.{InRange}
use Rattle.node.specs.Private.Range.{advanced, served_of, enrolled, notified_of, resettled}

-- ---- what is to be done

abbrev pub Tasking : Type 0
Tasking = Result Task Refusal

-- 8, or the slot of the name
abbrev pub one_at : ℕ → Message → Option ℕ → Tasking
one_at t h (Some i) = Ok (One i t h)
one_at t h None = Err NotActive

unfoldable pub named_task : List (Slot Name) → ℕ → Name → Message → Tasking
named_task names t m h = one_at t h (position (bears m) names)

-- 18, then 9, then 10, or the lowest free slot
abbrev pub free_at : ℕ → Activation → Option ℕ → Tasking
free_at t a (Some i) = Ok (Open i t a)
free_at t a None = Err NoSlot

abbrev pub open_at : ℕ → Activation → Option ℕ → Option ℕ → Tasking
open_at t a (Some i) free = Err Active
open_at t a None free = free_at t a free

unfoldable pub open_task : ℕ → List (Slot Name) → ℕ → Activation → Tasking
open_task count names t a =
    cond (has_set count a.set) (open_at t a (position (bears a.name) names) (position is_free names)) (Err UnknownSet)

-- 18, then 19, or the set is replaced
unfoldable pub replace_task : ℕ → Settings → ℕ → Replacement → Tasking
replace_task count g t r =
    cond (has_set count r.set) (cond (is_next r.set r.edition g.sets) (Ok (Replace t r)) (Err Edition)) (Err UnknownSet)

-- of subscribers: 16, or the slot of the name
abbrev pub notify_at : ℕ → Notice → Option ℕ → Tasking
notify_at t m (Some i) = Ok (Notify i t m)
notify_at t m None = Err NotAttached

unfoldable pub notify_task : List (Slot ℕ) → ℕ → ℕ → Notice → Tasking
notify_task imsis t k m = notify_at t m (position (named.bears eqb k) imsis)

-- 15, then 17, or the lowest free slot
abbrev pub vacant_at : ℕ → Place → Option ℕ → Tasking
vacant_at t q (Some i) = Ok (Attach i t q)
vacant_at t q None = Err NoPlace

abbrev pub attach_at : ℕ → Place → Option ℕ → Option ℕ → Tasking
attach_at t q (Some i) free = Err Attached
attach_at t q None free = vacant_at t q free

unfoldable pub attach_task : List (Slot ℕ) → ℕ → ℕ → Place → Tasking
attach_task imsis t k q = attach_at t q (position (named.bears eqb k) imsis) (position is_free imsis)

-- what names the slots of the tables
abbrev pub names_of : Node → List (Slot Name)
names_of n = map slot_of n.contexts

abbrev pub imsis_of : Node → List (Slot ℕ)
imsis_of n = map imsi_slot n.subscribers

unfoldable pub task_of : Node → List (Slot Name) → List (Slot ℕ) → ℕ → Meaning → Tasking
task_of n names imsis t (W.Opens a) = open_task n.profile.sets names t a
task_of n names imsis t (W.Tells m h) = named_task names t m h
task_of n names imsis t (W.TellsAll h) = Ok (All t h)
task_of n names imsis t (W.Attaches k q) = attach_task imsis t k q
task_of n names imsis t (W.Notifies k h) = notify_task imsis t k h
task_of n names imsis t (W.Replaces r) = replace_task n.profile.sets n.settings t r

-- 6, then 7
unfoldable pub timely : Node → ℕ → Result (Unit {0}) Refusal
timely n t = cond (ltb latest t || ltb t n.clock) (Err Time) (cond (leb most_accepted n.accepted) (Err TooMany) (Ok tt))

unfoldable pub timely_task : Node → ℕ → Event → Tasking
timely_task n t e =
    cond (ltb latest t || ltb t n.clock) (Err Time)
    (cond (leb most_accepted n.accepted) (Err TooMany) (task_of n (names_of n) (imsis_of n) t (meaning_of e)))

-- 13, then 1 to 5
unfoldable pub said_task : Node → Result (ℕ × Event) octets.Refusal → Tasking
said_task n (Err refusal) = Err (Octets refusal)
said_task n (Ok x) = timely_task n x.0 x.1

unfoldable pub node_task : Node → Result (ℕ × Event) octets.Refusal → Tasking
node_task n d = cond (sound n) (said_task n d) (Err Unsound)

-- ---- and what is answered then: 11 is found out while it is done

unfoldable pub done_by : Node → List ℕ → List ℕ → Task → ℕ × (Node × (ℕ × List ℕ))
done_by n s b (One i t h) = served_of n i (i + 1) t h b
done_by n s b (All t h) = served_of n 0 16 t h b
done_by n s b (Notify i t m) = notified_of n i t m b
done_by n s b (Attach i t q) =
    (0, (enrolled n t (set n.subscribers i (subscriber.attached n.profile t (subscriber_imsi s) q)), (0, b)))
done_by n s b (Open i t a) = (0, (advanced n t (set n.contexts i (activated n.profile t a.name (brought_by n.settings a s))), (0, b)))
done_by n s b (Replace t r) = (0, (resettled n t r, (0, b)))

unfoldable pub answered_by : Node → List ℕ → List ℕ → Tasking → ℕ × (Node × (ℕ × List ℕ))
answered_by n s b (Err refusal) = (number_of refusal, (n, (0, b)))
answered_by n s b (Ok task) = done_by n s b task

-- a task is done
pub record Does (n : Node) (s : List ℕ) (task : Task) (b b' : List ℕ) (answer : ℕ) (n' : Node) (written : ℕ) : Type 0 where
  pub is : ◌≡◌ {A = ℕ × (Node × (ℕ × List ℕ))} (answer, (n', (written, b'))) (done_by n s b task)

-- ---- what is told is in range

abbrev pub MeaningInRange : Meaning → Type 0
MeaningInRange (W.Opens a) = Unit {0}
MeaningInRange (W.Tells n m) = InRange m
MeaningInRange (W.TellsAll m) = InRange m
MeaningInRange (W.Attaches k q) = Unit {0}
MeaningInRange (W.Notifies k m) = notice_ok m ≡ true
MeaningInRange (W.Replaces r) = Unit {0}

abbrev pub TaskInRange : Task → Type 0
TaskInRange (One i t h) = InRange h
TaskInRange (All t h) = InRange h
TaskInRange (Open i t a) = Unit {0}
TaskInRange (Notify i t m) = notice_ok m ≡ true
TaskInRange (Attach i t q) = Unit {0}
TaskInRange (Replace t r) = Unit {0}

-- ---- what the code may count on while it does it

-- a sound node, at a time that it takes, with room for one accepted event more
pub record Sounding (n : Node) (t : ℕ) : Type 0 where
  pub sound : sound n ≡ true
  pub since : n.clock ≤ t
  pub until : t ≤ latest
  pub few : n.accepted < most_accepted

abbrev pub Fit : Node → List ℕ → Task → Type 0
Fit n s (One i t h) = (i < 16) × Sounding n t
Fit n s (All t h) = Sounding n t
Fit n s (Open i t a) = (i < 16) × (Sounding n t × Activated s a)
Fit n s (Notify i t m) = (i < 16) × Sounding n t
Fit n s (Attach i t q) = (i < 16) × (Sounding n t × (length s ≡ 18))
Fit n s (Replace t r) = Sounding n t

-- a task for the node as it is
pub record Doable (n : Node) (s : List ℕ) (task : Task) : Type 0 where
  pub held : Held n
  pub fit : Fit n s task
  pub in_range : TaskInRange task
