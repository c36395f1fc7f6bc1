-- What a call answers whose event is for a subscriber: contexts are as they were.
use mathlib.Core.Path.{◌≡◌, refl, sym, ◌∙◌}
use mathlib.Core.Bool.{true, false, cond}
use mathlib.Core.List.{List, ◌++◌, map}
use Prim.Native.Nat.{ℕ, ◌+◌, ◌<◌}
use native.Mathlib.Numerals.{add-one}
use native.Mathlib.Omega.{arith}
use lib.Dec.{leb, eqb}
use lib.ListN.{length, get_or, drop, set}
use borrow.Author.Tests.{le-leb, lt-leb}
use Rattle.format.proofs.Tests.{both, either}
use Rattle.event.specs.Rows.{first_fit}
use Rattle.history.specs.Lists.{each, All}
use Rattle.history.specs.Slots.{slot_next, slot_out}
use Rattle.history.specs.Log.{activates, tells}
use Rattle.history.specs.Table.{slots_after, writes, not_active, is_active, all_taken}
use Rattle.history.proofs.Scans.{First, first_below, first_passes, asks_at}
use Rattle.history.proofs.Lists.{all_at}
use Rattle.history.proofs.Ranges.{across_one, along_one}
use Rattle.history.proofs.Slots.{stand_all, found_free, none_free, filled}
use Rattle.history.proofs.Hearing.{found_active, none_active, tells_after, tells_outs}
use Rattle.profile.specs.declared.Profile.{Profile}
use Rattle.context.specs.Context.{no_context}
use Rattle.subscriber.specs.declared.Subscriber.{Subscriber}
use Rattle.subscriber.specs.declared.Notice.{Notice}
use Rattle.subscriber.specs.Subscriber.{name_of, taken as isAttached, no_subscriber}
use Rattle.subscriber.specs.Hear.{attached, notice_ok, hear as notices}
use Rattle.subscriber.specs.Held.{HeldSubscriber}
use Rattle.subscriber.specs.Tell.{stood as stayed, marked_octets as mmMarked, octets_of as mmOctetsOf}
use Rattle.subscriber.proofs.Scans.{slots_ask}
use Rattle.subscriber.proofs.Kept.{told_is}
use Rattle.node.specs.declared.Node.{Node}
use Rattle.node.specs.Step.{Attached, ToSubscribers, Words, to_subscribers, settled_by, subscribing, taken, places, octets_of}
use Rattle.node.specs.Step.{node_after, records_of, mm_records_of, output, unknown_set, other_edition}
use Rattle.node.specs.Held.{Held}
use Rattle.node.specs.Private.Range.{enrolled, notified_of}
use Rattle.node.proofs.RefusalRows.{table_rows}
use Rattle.node.proofs.Rules.{rules}
use Rattle.node.proofs.Attached.{bearing, vacant, exactly}
use Rattle.node.specs.Private.Task.{Sounding}
use Rattle.node.proofs.Served.{settleds, stays, lone, Outs, outs_refused, outs_done, outs_by}

module _ (n : Node) (t : ℕ) (v : ToSubscribers) where
  abbrev w : Words
  w = to_subscribers v

  subscribers_out : mmOctetsOf (writes (subscribing n.profile) tt t v (places n)) ≡ output n t w
  unfolding output records_of mm_records_of octets_of
  subscribers_out = refl

  subscribers_after : Sounding n t → Held n → {ss : List Subscriber} → ss ≡ map stayed (slots_after (subscribing n.profile) tt t v (places n))
      → enrolled n t ss ≡ node_after n t w
  unfolding node_after settled_by
  subscribers_after s z e =
      let u = sym (stand_all taken no_context n.contexts (settleds n t s z)) in
      λ i. record { profile = n.profile; settings = n.settings; clock = t; accepted = n.accepted + 1; contexts = u i; subscribers = e i }

-- ---- a subscriber hears

-- the changes of a subscriber that was found
long : {n : Node} → Held n → (k : ℕ) {i : ℕ} → First (bearing k) n.subscribers i → length (get_or n.subscribers i no_subscriber).changes ≡ 15
long {n} z k {i} f = (all_at HeldSubscriber n.subscribers z.subscribers i no_subscriber (first_below f)).changes

module _ (n : Node) (t : ℕ) (b : List ℕ) (s : Sounding n t) (z : Held n) where
  module _ (k : ℕ) (m : Notice) (right : notice_ok m ≡ true) {i : ℕ} (f : First (bearing k) n.subscribers i) where
    abbrev p : Profile
    p = n.profile

    abbrev here : Subscriber
    here = get_or n.subscribers i no_subscriber

    below : i < length n.subscribers
    below = first_below f

    active : isAttached here ≡ true
    active = (both (isAttached here) (eqb k (name_of here)) (first_passes f no_subscriber)).0

    abbrev x : List ℕ
    x = mmOctetsOf (notices p here t m).out

    after : map stayed (slots_after (subscribing p) tt t (tells k m) (places n)) ≡ set n.subscribers i (stayed (notices p here t m).next)
    after =
        let e = tells_after (subscribing p) isAttached no_subscriber tt t mmMarked m exactly k f (stays n t s z) (lone n t s) in
        let g = across_one (slot_next (subscribing p) isAttached no_subscriber tt t m) i n.subscribers no_subscriber below in
        e ∙ (rw add-one at g) ∙ rw active

    outs : mmOctetsOf (writes (subscribing p) tt t (tells k m) (places n)) ≡ x
    unfolding mmOctetsOf
    outs =
        let e = tells_outs (subscribing p) isAttached no_subscriber tt t mmMarked m exactly k f (stays n t s z) (lone n t s) in
        let g = along_one (slot_out (subscribing p) isAttached (λ rs. each mmMarked rs) tt t m) i n.subscribers no_subscriber below in
        e ∙ (rw add-one at g) ∙ rw active

    plain : notified_of n i t m b
        ≡ cond (leb (length x) (length b)) (0, (enrolled n t (set n.subscribers i (stayed (notices p here t m).next)), (length x, x ++ drop (length x) b)))
        (11, (n, (0, b)))
    unfolding notified_of
    plain =
        let r = rules n s.sound in
        let g = told_is p r.profile n.clock n.accepted t s.since s.until s.few here (long z k f) m right active
        (asks_at (slots_ask p.zone n.clock n.accepted) n.subscribers i no_subscriber r.places below) b in
        either (length x) (length b)
        (λ l. let e = rw (le-leb (length x) (length b) l) at g in rw (e, le-leb (length x) (length b) l))
        (λ l. let e = rw (lt-leb (length x) (length b) l) at g in rw (e, lt-leb (length x) (length b) l))

    pub outs_notify : (r : ℕ × (Node × (ℕ × List ℕ))) → r ≡ notified_of n i t m b
        → Outs (table_rows n t (to_subscribers (tells k m)) b) n t (to_subscribers (tells k m)) b r.1.1.1 r.0 r.1.0 r.1.1.0
    unfolding unknown_set other_edition not_active is_active all_taken
    outs_notify r e =
        outs_by n t (to_subscribers (tells k m)) b
        (record { named = refl; edition = refl; known = refl; new = refl; room = refl; attached = rw (found_active (subscribing p) isAttached k f); detached = refl; vacant = refl })
        x (enrolled n t (set n.subscribers i (stayed (notices p here t m).next)))
        (subscribers_after n t (tells k m) s z (sym after)) (sym outs ∙ subscribers_out n t (tells k m)) (e ∙ plain)

  -- ---- an attach

  module _ (k : ℕ) (f : Unit {0} → Attached) where
    pub outs_attach : {i : ℕ} → All (λ s. bearing k s ≡ false) n.subscribers → First vacant n.subscribers i
        → Outs (table_rows n t (to_subscribers (activates k f)) b) n t (to_subscribers (activates k f)) b b 0
        (enrolled n t (set n.subscribers i (attached n.profile t (f tt).imsi (f tt).place))) 0
    unfolding unknown_set other_edition not_active is_active all_taken output records_of mm_records_of octets_of mmOctetsOf
    outs_attach {i} none free =
        outs_done n t (to_subscribers (activates k f)) b
        (record {
          named = refl;
          edition = refl;
          known = refl;
          new = refl;
          room = refl;
          attached = refl;
          detached = none_active (subscribing n.profile) isAttached k n.subscribers none;
          vacant = rw (found_free isAttached no_subscriber free);
        })
        (omega arith) refl
        (subscribers_after n t (activates k f) s z
        (sym (filled isAttached no_subscriber (attached n.profile t (f tt).imsi (f tt).place) free (stays n t s z)))) refl refl

-- ---- the refusals

module _ (n : Node) (t : ℕ) (b : List ℕ) (k : ℕ) where
  pub outs_16 : (m : Notice) → All (λ s. bearing k s ≡ false) n.subscribers
      → Outs (table_rows n t (to_subscribers (tells k m)) b) n t (to_subscribers (tells k m)) b b 16 n 0
  unfolding table_rows first_fit unknown_set other_edition not_active is_active all_taken
  outs_16 m none =
      outs_refused n t (to_subscribers (tells k m)) b (table_rows n t (to_subscribers (tells k m)) b) 16
      (rw (none_active (subscribing n.profile) isAttached k n.subscribers none)) (λ i. omega arith) refl refl refl

  module _ (f : Unit {0} → Attached) where
    pub outs_15 : {i : ℕ} → First (bearing k) n.subscribers i
        → Outs (table_rows n t (to_subscribers (activates k f)) b) n t (to_subscribers (activates k f)) b b 15 n 0
    unfolding table_rows first_fit unknown_set other_edition not_active is_active all_taken
    outs_15 g =
        outs_refused n t (to_subscribers (activates k f)) b (table_rows n t (to_subscribers (activates k f)) b) 15
        (rw (found_active (subscribing n.profile) isAttached k g)) (λ i. omega arith) refl refl refl

    pub outs_17 : All (λ s. bearing k s ≡ false) n.subscribers → All (λ s. vacant s ≡ false) n.subscribers
        → Outs (table_rows n t (to_subscribers (activates k f)) b) n t (to_subscribers (activates k f)) b b 17 n 0
    unfolding table_rows first_fit unknown_set other_edition not_active is_active all_taken
    outs_17 none full =
        outs_refused n t (to_subscribers (activates k f)) b (table_rows n t (to_subscribers (activates k f)) b) 17
        (rw (none_active (subscribing n.profile) isAttached k n.subscribers none, none_free isAttached no_subscriber n.subscribers full))
        (λ i. omega arith) refl refl refl
