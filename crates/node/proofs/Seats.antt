-- A report does to the node what it does to the slot of its name: so all reports of a list do.
use mathlib.Core.Path.{◌≡◌, refl, sym, ap, ◌∙◌}
use mathlib.Core.Bool.{cond}
use mathlib.Core.List.{List, map}
use Rattle.std.specs.Prelude.{Option, None, Some, position}
use Prim.Native.Nat.{ℕ, ◌+◌, ◌^◌, ◌≤◌, ◌<◌}
use native.Mathlib.Omega.{arith}
use lib.Dec.{leb, eqb}
use lib.ListN.{length, get_or, length-set}
use lib.Seq.{get_or-set_same, map-set_same, set-set}
use borrow.Author.Tests.{le-leb, lt-leb, le-ltb, eqb-true, eqb-false}
use Rattle.format.proofs.Tests.{by, either}
use Rattle.event.specs.declared.Name.{Name}
use Rattle.event.specs.declared.Event.TheVariants as E
use Rattle.std.specs.Prelude.{Ok, Err}
use Rattle.event.specs.Event.{decoded}
use Rattle.event.specs.Traffic.{traffic_event}
use Rattle.event.proofs.Traffics.{traffic_said}
use Rattle.profile.specs.declared.Profile.{Profile}
use Rattle.context.specs.declared.Context.{Context}
use Rattle.context.specs.Slots.{slot_of, bears}
use Rattle.node.specs.declared.Node.{Node}
use Rattle.node.specs.declared.Message.{Message}
use Rattle.node.specs.declared.Settings.{Settings}
use Rattle.node.specs.declared.task.Task.TheVariants as K
use Rattle.node.specs.declared.refusal.Refusal.TheVariants.{TooMany}
use Rattle.node.specs.Meaning.{report}
use Rattle.node.specs.Hear.{closing, after_closing, hear_with, hear}
use Rattle.node.specs.Sound.{latest, most_accepted}
use Rattle.node.specs.Step.{stood, step_of}
use Rattle.node.specs.Held.{Whole}
use Rattle.node.specs.Private.Range.{slot_next, slot_out, tried_of, Tries, served_of}
use Rattle.node.specs.Private.Task.{named_task, task_of, timely_task, said_task, done_by, answered_by}
use Rattle.node.specs.Private.Pairs.{Seat, seated, seat_then, seat_step}
use Rattle.node.proofs.Emits.{slot_active, slot_free}
use Rattle.node.proofs.Tries.{served_one}
use Rattle.node.proofs.Tasks.{Tasked, tasked_sound}
use Rattle.node.proofs.StepKept.{step_kept}
use Rattle.node.proofs.BatchKept.{report_octets}
use Rattle.node.proofs.Ones.{through}

-- ---- the name stays

module _ (p : Profile) (gs : Settings) (t up down : ℕ) (c : Context) where
  next_name : (k : Option ℕ) → slot_of (stood (hear_with p gs c t (report up down) k).next) ≡ slot_of c
  unfolding hear_with after_closing
  next_name None = refl
  next_name (Some cause) = refl

  slot_name : slot_of (slot_next p gs t (report up down) c) ≡ slot_of c
  unfolding hear
  slot_name =
      by (eqb c.active 1)
      (λ e. ap slot_of (slot_active p gs t (report up down) c (eqb-true c.active 1 e)).0 ∙ next_name (closing c.current t (report up down)))
      (λ e. ap slot_of (slot_free p gs t (report up down) c (eqb-false c.active 1 e)).0)

-- ---- one report

module _ (n : Node) (i t : ℕ) (d : Context) (m : Name) (until : t ≤ latest) (id : m.id < 256 ^ 4) (ggsn : m.ggsn < 256 ^ 4) (size : i < length n.contexts)
    (found : position (bears m) (map slot_of n.contexts) ≡ Some i) where
  abbrev N : Seat → Node
  N s = seated n i s

  -- a seat that a call can come to
  pub record Good (s : Seat) : Type 0 where
    pub whole : Whole (seated n i s)
    pub name : slot_of s.context ≡ slot_of (get_or n.contexts i d)
    pub since : s.clock ≤ t

  abbrev pub Fine : ℕ × ℕ → Type 0
  Fine v = (v.0 < 256 ^ 4) × (v.1 < 256 ^ 4)

  abbrev pub event : ℕ × ℕ → List ℕ
  event v = traffic_event m t v.0 v.1

  module _ (s : Seat) (v : ℕ × ℕ) (b : List ℕ) (w : Good s) (f : Fine v) where
    abbrev h : Message
    h = report v.0 v.1

    abbrev r : ℕ × (Context × (ℕ × List ℕ))
    r = tried_of n.profile n.settings t h s.context b

    late : t < 256 ^ 4
    late = omega (arith, until)

    said : decoded (event v) ≡ Ok (t, E.Traffic m v.0 v.1)
    said = traffic_said m t v.0 v.1 late id ggsn f.0 f.1

    names : map slot_of (N s).contexts ≡ map slot_of n.contexts
    names = map-set_same slot_of n.contexts i s.context d w.name

    task : Tasked (N s) (event v) b (cond (leb most_accepted s.accepted) (Err TooMany) (Ok (K.One i t h)))
    unfolding said_task timely_task task_of named_task
    task =
        let x = tasked_sound (N s) (event v) b w.whole.held w.whole.sound (decoded (event v)) refl in
        rw (said, names, le-ltb latest t until, le-ltb t s.clock w.since, found) at x

    there : get_or (N s).contexts i d ≡ s.context
    there = get_or-set_same n.contexts i s.context d size

    served : served_of (N s) i (i + 1) t h b ≡ through (seated n i) (seat_then s t r)
    unfolding seat_then
    served =
        let x : Tries n.profile n.settings t h (get_or (N s).contexts i d) b r.1.1.1 r.0 r.1.0 r.1.1.0 = rw there (record { is = refl }) in
        let l : i < length (N s).contexts = omega (arith, length-set n.contexts i s.context) in
        let y = served_one (N s) i t h d l x refl refl refl in
        sym y.is ∙ by (eqb r.0 0)
        (λ e. let z = eqb-true r.0 0 e in let u = set-set n.contexts i s.context r.1.0 in
        rw e (λ j. (
          z j,
          (
            record { profile = n.profile; settings = n.settings; clock = t; accepted = s.accepted + 1; contexts = u j; subscribers = n.subscribers },
            (r.1.1.0, r.1.1.1),
          ),
        )))
        (λ e. rw e)

    pub same : step_of (N s) (event v) b ≡ through (seated n i) (seat_step n.profile n.settings t s v b)
    unfolding seat_step answered_by done_by
    same =
        by (leb most_accepted s.accepted)
        (λ e. task.done ∙ rw e)
        (λ e. task.done ∙ rw e served)

    -- what stands in the slot then
    tried_name : slot_of (seat_then s t r).1.0.context ≡ slot_of s.context
    unfolding seat_then tried_of
    tried_name =
        let x = slot_out n.profile n.settings t h s.context in
        either (length x) (length b)
        (λ y. rw (le-leb (length x) (length b) y) (slot_name n.profile n.settings t v.0 v.1 s.context))
        (λ y. rw (lt-leb (length x) (length b) y))

    tried_since : (seat_then s t r).1.0.clock ≤ t
    unfolding seat_then
    tried_since = by (eqb r.0 0) (λ e. rw e (omega arith)) (λ e. rw e w.since)

    name_kept : slot_of (seat_step n.profile n.settings t s v b).1.0.context ≡ slot_of (get_or n.contexts i d)
    unfolding seat_step
    name_kept = by (leb most_accepted s.accepted) (λ e. rw e w.name) (λ e. rw e (tried_name ∙ w.name))

    clock_kept : (seat_step n.profile n.settings t s v b).1.0.clock ≤ t
    unfolding seat_step
    clock_kept = by (leb most_accepted s.accepted) (λ e. rw e w.since) (λ e. rw e tried_since)

    pub kept : Good (seat_step n.profile n.settings t s v b).1.0
    kept =
        let k = step_kept (N s) (event v) b w.whole (report_octets m t v.0 v.1) in
        record { whole = rw same at k; name = name_kept; since = clock_kept }
