-- What a call is to do is what the table of refusals and the rules say.
use mathlib.Core.Path.{◌≡◌, refl, sym, ap, ◌∙◌}
use mathlib.Core.Bool.{true, false, cond}
use mathlib.Core.List.{List, map}
use Rattle.std.specs.Prelude.{Option, None, Some, position}
use Prim.Native.Nat.{ℕ, ◌+◌, ◌<◌}
use native.Mathlib.Omega.{arith}
use lib.Dec.{eqb}
use lib.ListN.{length, get_or, set}
use borrow.Author.Tests.{le-leb, lt-leb, le-ltb, lt-ltb, ne_eqb}
use Rattle.format.proofs.Tests.{by, either}
use Rattle.limits.specs.Sets.{has_set, is_next}
use Rattle.event.specs.declared.Name.{Name}
use Rattle.event.specs.declared.Activation.{Activation}
use Rattle.event.specs.declared.Replacement.{Replacement}
use Rattle.event.specs.declared.Event.{Event}
use Rattle.event.specs.declared.Event.TheVariants as E
use Rattle.std.specs.Prelude.{Result, Ok, Err}
use Rattle.event.specs.declared.Refusal as octets
use Rattle.event.specs.Event.{decoded}
use Rattle.event.specs.Private.Activated.{Activated}
use Rattle.event.specs.Fields.{subscriber_imsi}
use Rattle.event.proofs.Theorems.{activated as activate-in, attached as attach-in}
use Rattle.context.specs.declared.Context.{Context}
use Rattle.context.specs.Slots.{slot_of, bears}
use Rattle.history.specs.Slots.{along}
use Rattle.history.proofs.Scans.{first_below}
use Rattle.history.specs.Log.{activates, tells, tells_all}
use Rattle.mcdr.specs.declared.Place.{Place}
use Rattle.keys.specs.declared.Slot.{Slot}
use Rattle.keys.specs.Slots as keys
use Rattle.subscriber.specs.declared.Subscriber.{Subscriber}
use Rattle.subscriber.specs.declared.Notice.{Notice}
use Rattle.subscriber.specs.Subscriber.{slot_of as imsiSlot, no_subscriber}
use Rattle.subscriber.specs.Hear.{attached, notice_ok}
use Rattle.subscriber.specs.Tell.{Tells}
use Rattle.node.specs.declared.Node.{Node}
use Rattle.node.specs.declared.Message.{Message}
use Rattle.node.specs.declared.meaning.Meaning.{Meaning}
use Rattle.node.specs.declared.meaning.Meaning.TheVariants as W
use Rattle.node.specs.Meaning.{meaning_of}
use Rattle.node.specs.declared.task.Task.{Task}
use Rattle.node.specs.declared.task.Task.TheVariants as K
use Rattle.node.specs.declared.refusal.Refusal.{Refusal}
use Rattle.node.specs.declared.refusal.Refusal.TheVariants as R
use Rattle.node.specs.Refusal.{number_of}
use Rattle.node.specs.Sound.{sound, latest, most_accepted}
use Rattle.node.specs.Step.{brought_by, Words, to_contexts, to_subscribers, to_settings, saying, takes, activated, step_of, Steps}
use Rattle.node.specs.Held.{Held}
use Rattle.node.specs.Private.Range.{slot_out, advanced, enrolled, told, Tries, tried_all, TriesAll, served_of, Serves, notified_of, resettled}
use Rattle.node.specs.Private.Task.{Tasking, Sounding, Fit, Does, one_at, named_task, open_at, open_task, notify_at, notify_task, attach_at, attach_task, replace_task, task_of, timely_task, said_task, node_task, done_by, answered_by}
use Rattle.node.proofs.RefusalRows.{table_rows}
use Rattle.node.proofs.Tries.{get_d_any, served_one}
use Rattle.node.proofs.Found.{named_at, none_named, free_at_lem, all_taken_lem}
use Rattle.node.proofs.Brings.{fair_meaning}
use Rattle.node.proofs.Attached.{bearing_at, none_bearing, vacant_at_lem, none_vacant}
use Rattle.node.proofs.Notified.{outs_notify, outs_attach, outs_15, outs_16, outs_17}
use Rattle.node.proofs.Served.{Outs, outs_tell, outs_all, outs_activate, outs_8, outs_9, outs_10, outs_18, outs_19, outs_replace}
use Rattle.node.proofs.Calls.{outs_late, outs_early, outs_many, outs_timely, steps_13, steps_octets, steps_said}

-- what an activation brings is in range
abbrev OpensWell : List ℕ → Meaning → Type 0
OpensWell s (W.Opens a) = Activated s a
OpensWell s (W.Tells m h) = Unit {0}
OpensWell s (W.TellsAll h) = Unit {0}
OpensWell s (W.Attaches k q) = length s ≡ 18
OpensWell s (W.Notifies k m) = notice_ok m ≡ true
OpensWell s (W.Replaces r) = Unit {0}

opens_well : (s : List ℕ) (e : Event) {t : ℕ} → decoded s ≡ Ok (t, e) → OpensWell s (meaning_of e)
opens_well s (E.Activate a) q = activate-in s q
opens_well s (E.Traffic n up down) q = tt
opens_well s (E.Qos n p) q = tt
opens_well s E.Tariff q = tt
opens_well s (E.Release n c) q = tt
opens_well s E.Tick q = tt
opens_well s (E.Management n) q = tt
opens_well s (E.Attach k l r) q = (attach-in s q).long
opens_well s (E.Location k l r) q = fair_meaning s (E.Location k l r) q
opens_well s (E.ManageSubscriber k) q = fair_meaning s (E.ManageSubscriber k) q
opens_well s (E.Detach k c) q = fair_meaning s (E.Detach k c) q
opens_well s (E.Replace r) q = tt

-- ---- the task is what the table says

-- what the code may count on while it does it
abbrev pub FitTo : Node → List ℕ → Tasking → Type 0
FitTo n s (Err refusal) = Unit {0}
FitTo n s (Ok task) = Fit n s task

pub record Tasked (n : Node) (s b : List ℕ) (k : Tasking) : Type 0 where
  pub done : step_of n s b ≡ answered_by n s b k
  pub fit : FitTo n s k

module _ (n : Node) (s b : List ℕ) (z : Held n) where
  refused_task : (refusal : Refusal) → Steps n s b b (number_of refusal) n 0 → Tasked n s b (Err refusal)
  unfolding answered_by
  refused_task refusal w = record { done = sym w.is; fit = tt }

  module _ (t : ℕ) (so : Sounding n t) where
    abbrev names : List (Slot Name)
    names = map slot_of n.contexts

    abbrev imsis : List (Slot ℕ)
    imsis = map imsiSlot n.subscribers

    module _ (w : Words)
        (conv : (b' : List ℕ) (a k : ℕ) (r : Node) → Outs (table_rows n t w b) n t w b b' a r k → Steps n s b b' a r k) where
      tell_task : (m : Name) (h : Message) → w ≡ to_contexts None (tells m h) → (f : Option ℕ) → position (bears m) names ≡ f → Tasked n s b (one_at t h f)
      unfolding answered_by done_by
      tell_task m h e (Some i) q =
          let f = named_at n.contexts m q in
          let r = served_of n i (i + 1) t h b in
          let v : Serves n i (i + 1) t h b r.1.1.1 r.0 r.1.0 r.1.1.0 = record { is = refl } in
          let o : Outs (table_rows n t w b) n t w b r.1.1.1 r.0 r.1.0 r.1.1.0 = rw e (outs_tell n t b so z m h f v) in
          record { done = sym (conv _ _ _ _ o).is; fit = (omega (arith, first_below f, z.size), so) }
      tell_task m h e None q = refused_task R.NotActive (conv _ _ _ _ (rw e (outs_8 n t b m refl refl h (none_named n.contexts m q) refl)))

      all_task : (h : Message) → w ≡ to_contexts None (tells_all h) → Tasked n s b (Ok (K.All t h))
      unfolding answered_by done_by
      all_task h e =
          let r = served_of n 0 16 t h b in
          let v : Serves n 0 16 t h b r.1.1.1 r.0 r.1.0 r.1.1.0 = record { is = refl } in
          let o : Outs (table_rows n t w b) n t w b r.1.1.1 r.0 r.1.0 r.1.1.0 = rw e (outs_all n t b so z h v) in
          record { done = sym (conv _ _ _ _ o).is; fit = so }

      open_task_lem : (a : Activation) → w ≡ to_contexts (Some a.set) (activates a.name (λ g. brought_by g a s)) → has_set n.profile.sets a.set ≡ true → Activated s a
          → (f g : Option ℕ) → position (bears a.name) names ≡ f
          → position keys.is_free names ≡ g
          → Tasked n s b (open_at t a f g)
      unfolding answered_by done_by
      open_task_lem a e have x (Some i) g q r =
          refused_task R.Active (conv _ _ _ _ (rw e (outs_9 n t b a.name refl refl (λ g. brought_by g a s) a.set have (named_at n.contexts a.name q) refl)))
      open_task_lem a e have x None (Some i) q r =
          let f = free_at_lem n.contexts r in
          let new = activated n.profile t a.name (brought_by n.settings a s) in
          let o = outs_activate n t b so z a.name (λ g. brought_by g a s) a.set have (none_named n.contexts a.name q) f {c = new} refl refl refl refl in
          record { done = sym (conv _ _ _ _ (rw e o)).is; fit = (omega (arith, first_below f, z.size), (so, x)) }
      open_task_lem a e have x None None q r =
          refused_task R.NoSlot (conv _ _ _ _ (rw e
          (outs_10 n t b a.name refl refl (λ g. brought_by g a s) a.set have (none_named n.contexts a.name q) (all_taken_lem n.contexts r) refl)))

      unknown_task : (j : ℕ) → w.set ≡ Some j → has_set n.profile.sets j ≡ false → Tasked n s b (Err R.UnknownSet)
      unknown_task j e have = refused_task R.UnknownSet (conv _ _ _ _ (outs_18 n t w b j e have))

      notify_task_lem : (k : ℕ) (m : Notice) → w ≡ to_subscribers (tells k m) → notice_ok m ≡ true → (f : Option ℕ) → position (keys.bears eqb k) imsis ≡ f
          → Tasked n s b (notify_at t m f)
      unfolding answered_by done_by
      notify_task_lem k m e right (Some i) q =
          let f = bearing_at n.subscribers k q in
          let r = notified_of n i t m b in
          let o : Outs (table_rows n t w b) n t w b r.1.1.1 r.0 r.1.0 r.1.1.0 = rw e (outs_notify n t b so z k m right f r refl) in
          record { done = sym (conv _ _ _ _ o).is; fit = (omega (arith, first_below f, z.places), so) }
      notify_task_lem k m e right None q = refused_task R.NotAttached (conv _ _ _ _ (rw e (outs_16 n t b k m (none_bearing n.subscribers k q))))

      attach_task_lem : (k : ℕ) (q : Place) → w ≡ to_subscribers (activates k (λ g. record { imsi = subscriber_imsi s; place = q })) → length s ≡ 18
          → (f g : Option ℕ) → position (keys.bears eqb k) imsis ≡ f → position keys.is_free imsis ≡ g → Tasked n s b (attach_at t q f g)
      unfolding answered_by done_by
      attach_task_lem k q e x (Some i) g y r =
          refused_task R.Attached (conv _ _ _ _ (rw e (outs_15 n t b k (λ g. record { imsi = subscriber_imsi s; place = q }) (bearing_at n.subscribers k y))))
      attach_task_lem k q e x None (Some i) y r =
          let f = vacant_at_lem n.subscribers r in
          let o = outs_attach n t b so z k (λ g. record { imsi = subscriber_imsi s; place = q }) (none_bearing n.subscribers k y) f in
          record { done = sym (conv _ _ _ _ (rw e o)).is; fit = (omega (arith, first_below f, z.places), (so, x)) }
      attach_task_lem k q e x None None y r =
          refused_task R.NoPlace (conv _ _ _ _ (rw e
          (outs_17 n t b k (λ g. record { imsi = subscriber_imsi s; place = q }) (none_bearing n.subscribers k y) (none_vacant n.subscribers r))))

    module _ (r : Replacement)
        (conv : (b' : List ℕ) (a k : ℕ) (m : Node) → Outs (table_rows n t (to_settings r) b) n t (to_settings r) b b' a m k → Steps n s b b' a m k) where
      replace_task_lem : Tasked n s b (replace_task n.profile.sets n.settings t r)
      unfolding replace_task answered_by done_by
      replace_task_lem =
          by (has_set n.profile.sets r.set)
          (λ have. by (is_next r.set r.edition n.settings.sets)
          (λ e. rw (have, e) (record { done = sym (conv _ _ _ _ (outs_replace n t b r have so z e)).is; fit = so }))
          (λ e. rw (have, e) (refused_task R.Edition (conv _ _ _ _ (outs_19 n t b r have e)))))
          (λ have. rw have (unknown_task (to_settings r) conv r.set refl have))

    module _ (ok : sound n ≡ true) where
      kind_task : (e : Event) → decoded s ≡ Ok (t, e) → Tasked n s b (task_of n names imsis t (meaning_of e))
      unfolding task_of named_task open_task notify_task attach_task
      kind_task e q = go (meaning_of e) opens later
        where
          later : (b' : List ℕ) (a k : ℕ) (r : Node) → Outs (table_rows n t (takes e s) b) n t (takes e s) b b' a r k → Steps n s b b' a r k
          later b' a k r o = steps_said n s b ok q (outs_timely n t (takes e s) b so.until so.since so.few o)

          opens : OpensWell s (meaning_of e)
          opens = opens_well s e q

          go : (w : Meaning) → OpensWell s w
              → ((b' : List ℕ) (a k : ℕ) (r : Node) → Outs (table_rows n t (saying w s) b) n t (saying w s) b b' a r k → Steps n s b b' a r k)
              → Tasked n s b (task_of n names imsis t w)
          go (W.Opens a) x conv =
              by (has_set n.profile.sets a.set)
              (λ have. rw have
              (open_task_lem (saying (W.Opens a) s) conv a refl have x (position (bears a.name) names) (position keys.is_free names) refl refl))
              (λ have. rw have (unknown_task (saying (W.Opens a) s) conv a.set refl have))
          go (W.Tells m h) x conv = tell_task (saying (W.Tells m h) s) conv m h refl (position (bears m) names) refl
          go (W.TellsAll h) x conv = all_task (saying (W.TellsAll h) s) conv h refl
          go (W.Attaches k q) x conv =
              attach_task_lem (saying (W.Attaches k q) s) conv k q refl x (position (keys.bears eqb k) imsis) (position keys.is_free imsis) refl refl
          go (W.Notifies k m) x conv = notify_task_lem (saying (W.Notifies k m) s) conv k m refl x (position (keys.bears eqb k) imsis) refl
          go (W.Replaces r) x conv = replace_task_lem r conv

  module _ (ok : sound n ≡ true) (t : ℕ) (e : Event) (q : decoded s ≡ Ok (t, e)) where
    abbrev w : Words
    w = takes e s

    timely_task_lem : Tasked n s b (timely_task n t e)
    unfolding timely_task
    timely_task_lem =
        either t latest
        (λ m. either n.clock t
        (λ l. either most_accepted n.accepted
        (λ y. rw (le-ltb latest t m, le-ltb t n.clock l, le-leb most_accepted n.accepted y)
        (refused_task R.TooMany (steps_said n s b ok q (outs_many n t w b refl refl m l y refl))))
        (λ y. rw (le-ltb latest t m, le-ltb t n.clock l, lt-leb most_accepted n.accepted y)
        (kind_task t (record { sound = ok; since = l; until = m; few = y }) ok e q)))
        (λ l. rw (le-ltb latest t m, lt-ltb t n.clock l) (refused_task R.Time (steps_said n s b ok q (outs_early n t w b refl refl m l refl)))))
        (λ m. rw (lt-ltb latest t m) (refused_task R.Time (steps_said n s b ok q (outs_late n t w b refl refl m refl))))

  pub tasked_sound : sound n ≡ true → (d : Result (ℕ × Event) octets.Refusal) → decoded s ≡ d → Tasked n s b (said_task n d)
  unfolding said_task
  tasked_sound ok (Err r) q = refused_task (R.Octets r) (steps_octets n s b ok q refl refl refl)
  tasked_sound ok (Ok x) q = timely_task_lem ok x.0 x.1 q

  pub tasked : Tasked n s b (node_task n (decoded s))
  unfolding node_task
  tasked =
      by (sound n)
      (λ e. rw e (tasked_sound e (decoded s) refl))
      (λ e. rw e (refused_task R.Unsound (steps_13 n s b e refl refl refl)))

-- ---- what the code answers when it has done it

module _ {n : Node} {s b : List ℕ} where
  pub steps_refused : {refusal : Refusal} → Tasked n s b (Err refusal) → Steps n s b b (number_of refusal) n 0
  unfolding answered_by
  steps_refused x = record { is = sym x.done }

  pub steps_done : {task : Task} {b' : List ℕ} {a k : ℕ} {m : Node} → Tasked n s b (Ok task) → Does n s task b b' a m k → Steps n s b b' a m k
  unfolding answered_by
  steps_done x w = record { is = w.is ∙ sym x.done }

module _ (n : Node) (s : List ℕ) {b b' : List ℕ} where
  -- a context hears something alone
  module _ {i t : ℕ} {h : Message} (d : Context) (l : i < length n.contexts) where
    pub does_one : {c : Context} {k : ℕ} → Tries n.profile n.settings t h (get_or n.contexts i d) b b' 0 c k
        → Does n s (K.One i t h) b b' 0 (advanced n t (set n.contexts i c)) k
    unfolding done_by
    does_one w = record { is = (served_one n i t h d l w refl refl refl).is }

    pub does_one_not : {a : ℕ} {c : Context} → (a ≡ 0 → ⊥) → Tries n.profile n.settings t h (get_or n.contexts i d) b b' a c 0
        → Does n s (K.One i t h) b b' a n 0
    unfolding done_by
    does_one_not {a} z w = record { is = (served_one n i t h d l w refl (rw (ne_eqb a 0 z)) (rw (ne_eqb a 0 z))).is }

  -- all of them do
  module _ {t : ℕ} {h : Message} where
    pub does_all : {cs : List Context} {k : ℕ} → TriesAll n.profile n.settings t h n.contexts b b' 0 cs k
        → Does n s (K.All t h) b b' 0 (advanced n t cs) k
    unfolding done_by served_of tried_all
    does_all {cs} {k} v =
        let x = along 0 16 (slot_out n.profile n.settings t h) n.contexts in
        either (length x) (length b)
        (λ y.
        let e = rw (le-leb (length x) (length b) y) at v.is in
        let f = ap (λ (z : ℕ × (List Context × (ℕ × List ℕ))). z.1) e in
        record { is = rw (le-leb (length x) (length b) y) (λ j. (0, (advanced n t (f j).0, (f j).1))) })
        (λ y.
        let e = rw (lt-leb (length x) (length b) y) at v.is in
        let f : 0 ≡ 11 = ap (λ (z : ℕ × (List Context × (ℕ × List ℕ))). z.0) e in
        absurd (omega arith))

    pub does_all_not : {a : ℕ} {cs : List Context} → (a ≡ 0 → ⊥) → TriesAll n.profile n.settings t h n.contexts b b' a cs 0
        → Does n s (K.All t h) b b' a n 0
    unfolding done_by served_of tried_all
    does_all_not {a} {cs} z v =
        let x = along 0 16 (slot_out n.profile n.settings t h) n.contexts in
        either (length x) (length b)
        (λ y.
        let e = rw (le-leb (length x) (length b) y) at v.is in
        absurd (z (ap (λ (z : ℕ × (List Context × (ℕ × List ℕ))). z.0) e)))
        (λ y.
        let e = rw (lt-leb (length x) (length b) y) at v.is in
        record { is = rw (lt-leb (length x) (length b) y) (λ j. ((e j).0, (n, (e j).1.1))) })

  -- a subscriber hears something
  module _ {i t : ℕ} {m : Notice} (d : Subscriber) (l : i < length n.subscribers) where
    pub does_notify : {a : ℕ} {c : Subscriber} {k : ℕ} {r : Node} {w : ℕ} → Tells n.profile t m (get_or n.subscribers i d) b b' a c k
        → r ≡ told n i t a c → w ≡ cond (eqb a 0) k 0 → Does n s (K.Notify i t m) b b' a r w
    unfolding done_by notified_of
    does_notify {a} {c} {k} {r} {w} v p q =
        let e = rw (get_d_any n.subscribers i d no_subscriber l) at v.is in
        let g : ◌≡◌ {A = ℕ × (Node × (ℕ × List ℕ))} (a, (r, (w, b'))) (a, (told n i t a c, (cond (eqb a 0) k 0, b'))) =
        (λ j. (a, (p j, (q j, b')))) in
        record { is = g ∙ ap (λ (r : ℕ × (Subscriber × (ℕ × List ℕ))). (r.0, (told n i t r.0 r.1.0, (cond (eqb r.0 0) r.1.1.0 0, r.1.1.1)))) e }

module _ (n : Node) (s b : List ℕ) where
  pub does_open : {i t : ℕ} {v : Activation} {c : Context} → c ≡ activated n.profile t v.name (brought_by n.settings v s)
      → Does n s (K.Open i t v) b b 0 (advanced n t (set n.contexts i c)) 0
  unfolding done_by
  does_open {i} {t} e = record { is = λ j. (0, (advanced n t (set n.contexts i (e j)), (0, b))) }

  pub does_attach : {i t : ℕ} {q : Place} {c : Subscriber} → c ≡ attached n.profile t (subscriber_imsi s) q
      → Does n s (K.Attach i t q) b b 0 (enrolled n t (set n.subscribers i c)) 0
  unfolding done_by
  does_attach {i} {t} e = record { is = λ j. (0, (enrolled n t (set n.subscribers i (e j)), (0, b))) }

  pub does_replace : {t : ℕ} {r : Replacement} {m : Node} → m ≡ resettled n t r → Does n s (K.Replace t r) b b 0 m 0
  unfolding done_by
  does_replace e = record { is = λ j. (0, (e j, (0, b))) }
