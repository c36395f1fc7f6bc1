-- What the code does with a list of reports is what the list's events do one by one.
use mathlib.Core.Path.{◌≡◌, refl, sym, ap, ◌∙◌}
use mathlib.Core.Bool.{true, false, ◌||◌}
use mathlib.Core.List.{List, [], ◌∷◌, map}
use Prim.Native.Nat.{ℕ, zero, suc, ◌+◌, ◌%◌, ◌^◌, ◌≤◌, ◌<◌}
use native.Mathlib.Omega.{arith}
use lib.Dec.{leb, ltb, eqb}
use lib.ListN.{length, get_or}
use lib.Seq.{set-get_or}
use borrow.Author.Tests.{eqb-true, eqb-false, leb-false, ltb-false, ne_eqb}
use Rattle.format.proofs.Tests.{by, both}
use Rattle.event.specs.declared.Name.{Name}
use Rattle.event.specs.declared.Event.TheVariants as E
use Rattle.event.specs.Rows.{first_fit}
use Rattle.event.specs.Traffic.{traffic_event}
use Rattle.event.proofs.Traffics.{traffic_said}
use Rattle.context.specs.declared.Context.{Context}
use Rattle.context.specs.Slots.{slot_of, bears}
use Rattle.context.proofs.Scans.{slots_ask}
use Rattle.context.proofs.Sounds.{slot_active}
use Rattle.history.specs.Lists.{All}
use Rattle.history.proofs.Lists.{all_at}
use Rattle.history.proofs.Scans.{first_passes, first_below, asks_at}
use Rattle.history.proofs.Slots.{neither}
use Rattle.node.specs.declared.Node.{Node}
use Rattle.std.specs.Prelude.{Option, None, Some, position, Ok, Err}
use Rattle.event.specs.Event.{decoded}
use Rattle.node.specs.Refusal.{number_of}
use Rattle.node.specs.Private.Pairs as Reports
use Rattle.node.specs.Sound.{sound, latest, most_accepted}
use Rattle.node.specs.Step.{taken, step_of}
use Rattle.node.specs.Held.{Shaped, Held}
use Rattle.node.specs.Batch.{Done, pairs_of, reports_of, and_then, one_by_one, list_refusals, batch_by, batch_of, Batches}
use Rattle.node.specs.Private.Task.{named_task, task_of, timely_task, said_task, done_by, answered_by}
use Rattle.node.specs.Private.Pairs.{Seat, seated, seat_at, moved, seat_step, Listens, Tells, tell_at, first_pair, reports_for}
use Rattle.node.proofs.Rules.{rules}
use Rattle.node.proofs.Found.{named_at}
use Rattle.node.proofs.TableKept.{shapes}
use Rattle.node.proofs.Tasks.{Tasked, tasked_sound}
use Rattle.node.proofs.Ones.{through_all, alike}
use Rattle.node.proofs.Seats.{Good, Fine, event, same, kept}

-- ---- the numbers of a list are of four octets each

abbrev pub Word : ℕ → Type 0
Word x = x < 2 ^ 32

pub words : (vs : List ℕ) → ((i : ℕ) → get_or vs i 0 < 2 ^ 32) → All Word vs
words [] h = tt
words (v ∷ vs) h = (h zero, words vs (λ i. h (suc i)))

pairs_fine : (vs : List ℕ) → All Word vs → All (λ v. (v.0 < 256 ^ 4) × (v.1 < 256 ^ 4)) (pairs_of vs)
unfolding pairs_of
pairs_fine [] a = tt
pairs_fine (u ∷ []) a = tt
pairs_fine (u ∷ (d ∷ vs)) a = ((omega (arith, a.0), omega (arith, a.1.0)), pairs_fine vs a.1.1)

-- ---- before any pair

module _ (n : Node) (m : Name) (t : ℕ) (vs b : List ℕ) (h : Held n) (tl : Word t) (id : Word m.id) (ggsn : Word m.ggsn) (w : All Word vs) where
  -- nothing applied
  abbrev pub still : ℕ → Done Node
  still j = record { answer = j; applied = 0; left = n; written = 0; buffer = b }

  nothing_done : (vs : List ℕ) → length vs ≡ 0 → one_by_one step_of n (reports_of m t vs) b ≡ still 0
  unfolding pairs_of one_by_one
  nothing_done [] e = refl
  nothing_done (v ∷ vs) e = absurd (omega arith)

  first_stops : (vs : List ℕ) → All Word vs → eqb (length vs % 2) 1 ≡ false → (length vs ≡ 0 → ⊥) → {j : ℕ} → (j ≡ 0 → ⊥)
      → ((u d : ℕ) → Word u → Word d → step_of n (traffic_event m t u d) b ≡ (j, (n, (0, b)))) → one_by_one step_of n (reports_of m t vs) b ≡ still j
  unfolding pairs_of one_by_one and_then
  first_stops [] a o z k f = absurd (z refl)
  first_stops (u ∷ []) a o z k f = absurd (eqb-false (length (u ∷ []) % 2) 1 o (omega arith))
  first_stops (u ∷ (d ∷ vs)) a o z {j} k f = rw (f u d a.0 a.1.0, ne_eqb j 0 k)

  -- the first pair's event, as the node takes it
  task : (u d : ℕ) → Word u → Word d → sound n ≡ true
      → Tasked n (traffic_event m t u d) b (timely_task n t (E.Traffic m u d))
  unfolding said_task
  task u d ul dl ok =
      let s = traffic_said m t u d (omega (arith, tl)) (omega (arith, id)) (omega (arith, ggsn)) (omega (arith, ul)) (omega (arith, dl)) in
      rw s at (tasked_sound n (traffic_event m t u d) b h ok (decoded (traffic_event m t u d)) refl)

  -- the context in the slot i is told
  pub record Telling (i : ℕ) : Type 0 where
    pub sound : sound n ≡ true
    pub even : eqb (length vs % 2) 1 ≡ false
    pub until : t ≤ latest
    pub since : n.clock ≤ t
    pub few : n.accepted < most_accepted
    pub found : position (bears m) (map slot_of n.contexts) ≡ Some i

  abbrev pub Means : Reports.Telling → Type 0
  Means (Err refusal) = batch_of n m t vs b ≡ still (number_of refusal)
  Means (Ok None) = batch_of n m t vs b ≡ still 0
  Means (Ok (Some i)) = Telling i

  batch_13 : sound n ≡ false → batch_of n m t vs b ≡ still 13
  unfolding batch_of batch_by list_refusals first_fit
  batch_13 e = rw e

  module _ (ok : sound n ≡ true) where
    batch_14 : eqb (length vs % 2) 1 ≡ true → batch_of n m t vs b ≡ still 14
    unfolding batch_of batch_by list_refusals first_fit
    batch_14 o = rw (ok, o)

    module _ (o : eqb (length vs % 2) 1 ≡ false) where
      pub goes : batch_of n m t vs b ≡ one_by_one step_of n (reports_of m t vs) b
      unfolding batch_of batch_by list_refusals first_fit
      goes = rw (ok, o)

      none : length vs ≡ 0 → batch_of n m t vs b ≡ still 0
      none e = goes ∙ nothing_done vs e

      -- the first pair is refused
      module _ (z : eqb (length vs) 0 ≡ false) where
        refused : {j : ℕ} → (j ≡ 0 → ⊥) → ((u d : ℕ) → Word u → Word d → step_of n (traffic_event m t u d) b ≡ (j, (n, (0, b)))) → batch_of n m t vs b ≡ still j
        refused k f = goes ∙ first_stops vs w o (eqb-false (length vs) 0 z) k f

        late : (ltb latest t || ltb t n.clock) ≡ true → batch_of n m t vs b ≡ still 6
        unfolding timely_task answered_by done_by
        late y = refused (λ i. omega arith) (λ u d k l. (task u d k l ok).done ∙ rw y)

        module _ (y : (ltb latest t || ltb t n.clock) ≡ false) where
          many : leb most_accepted n.accepted ≡ true → batch_of n m t vs b ≡ still 7
          unfolding timely_task answered_by done_by
          many x = refused (λ i. omega arith) (λ u d k l. (task u d k l ok).done ∙ rw (y, x))

          module _ (x : leb most_accepted n.accepted ≡ false) where
            looked : (f : Option ℕ) → position (bears m) (map slot_of n.contexts) ≡ f → Means (tell_at f)
            unfolding timely_task task_of named_task answered_by done_by
            looked (Some i) q =
                let v = neither (ltb latest t) (ltb t n.clock) y in
                record {
                  sound = ok;
                  even = o;
                  until = ltb-false latest t v.0;
                  since = ltb-false t n.clock v.1;
                  few = leb-false most_accepted n.accepted x;
                  found = q;
                }
            looked None q = refused (λ i. omega arith) (λ u d k l. (task u d k l ok).done ∙ rw (y, x, q))

  pub means : Means (reports_for n m t (length vs))
  unfolding reports_for first_pair
  means =
      by (sound n) (λ e.
      by (eqb (length vs % 2) 1) (λ o. rw (e, o) (batch_14 e o)) (λ o.
      by (eqb (length vs) 0) (λ z. rw (e, o, z) (none e o (eqb-true (length vs) 0 z))) (λ z.
      by (ltb latest t || ltb t n.clock) (λ y. rw (e, o, z, y) (late e o z y)) (λ y.
      by (leb most_accepted n.accepted) (λ x. rw (e, o, z, y, x) (many e o z y x)) (λ x.
      rw (e, o, z, y, x) (looked e o z y x (position (bears m) (map slot_of n.contexts)) refl))))))
      (λ e. rw e (batch_13 e))

-- ---- the context that is told

module _ {n : Node} {m : Name} {t : ℕ} {vs b : List ℕ} {h : Held n} {tl : Word t} {id : Word m.id} {ggsn : Word m.ggsn} {w : All Word vs} {i : ℕ}
    (k : Telling n m t vs b h tl id ggsn w i) where
  place : i < length n.contexts
  place = first_below (named_at n.contexts m k.found)

  pub below : i < 16
  below = omega (arith, place, h.size)

  module _ (d : Context) where
    active : (get_or n.contexts i d).active ≡ 1
    active =
        let c = get_or n.contexts i d in
        eqb-true c.active 1 (both (taken c) _ (first_passes (named_at n.contexts m k.found) d)).0

    pub listens : Listens n.profile n.settings n.clock n.accepted (get_or n.contexts i d) t
    listens =
        let c = get_or n.contexts i d in
        let r = rules n k.sound in
        let s = asks_at (slots_ask n.profile.sets n.profile.zone n.clock n.accepted) n.contexts i d r.slots place in
        record {
          profile = r.profile;
          sets = r.sets;
          since = k.since;
          until = k.until;
          few = omega (arith, k.few);
          active = active;
          sound = sym (slot_active n.profile.sets n.profile.zone n.clock n.accepted c active) ∙ s;
          shape = all_at Shaped n.contexts (shapes n.contexts h.contexts) i d place;
        }

    -- at first the seat is the node
    abbrev seat : Seat
    seat = seat_at n.clock n.accepted t 0 (get_or n.contexts i d)

    seated_first : seated n i seat ≡ n
    seated_first =
        let a : n.accepted + 0 ≡ n.accepted = omega arith in
        let c = set-get_or n.contexts i d in
        λ j. record { profile = n.profile; settings = n.settings; clock = n.clock; accepted = a j; contexts = c j; subscribers = n.subscribers }

    id_four : m.id < 256 ^ 4
    id_four = omega (arith, id)

    ggsn_four : m.ggsn < 256 ^ 4
    ggsn_four = omega (arith, ggsn)

    good_first : Good n i t d m k.until id_four ggsn_four place k.found seat
    good_first = record { whole = rw seated_first (record { sound = k.sound; held = h }); name = refl; since = k.since }

    -- what comes of the slot is what the list's events do one by one
    seated_all : one_by_one step_of (seated n i seat) (reports_of m t vs) b ≡ through_all (seated n i) (one_by_one (seat_step n.profile n.settings t) seat (pairs_of vs) b)
    seated_all =
        alike (seated n i) step_of (seat_step n.profile n.settings t) (event n i t d m k.until id_four ggsn_four place k.found)
        (Good n i t d m k.until id_four ggsn_four place k.found) (Fine n i t d m k.until id_four ggsn_four place k.found)
        (same n i t d m k.until id_four ggsn_four place k.found) (kept n i t d m k.until id_four ggsn_four place k.found)
        (pairs_of vs) seat b good_first (pairs_fine vs w)

    pub batches_told : {b' : List ℕ} {answer applied written a c l : ℕ} {x : Context} {n' : Node}
        → Tells n.profile n.settings n.clock n.accepted (get_or n.contexts i d) t vs b b' answer applied x written
        → (a ≡ answer) × ((c ≡ applied) × ((n' ≡ moved n i t applied x) × (l ≡ written))) → Batches n m t vs b b' a c n' l
    batches_told {b'} {answer} {applied} {written} {x = x} y e =
        let first : one_by_one step_of (seated n i seat) (reports_of m t vs) b ≡ one_by_one step_of n (reports_of m t vs) b
        = ap (λ (z : Node). one_by_one step_of z (reports_of m t vs) b) seated_first in
        let q : ◌≡◌ {A = Done Node}
        (record { answer = answer; applied = applied; left = moved n i t applied x; written = written; buffer = b' }) (batch_of n m t vs b)
        = ap (through_all (seated n i)) y.is ∙ sym seated_all ∙ first ∙ sym (goes n m t vs b h tl id ggsn w k.sound k.even) in
        record { is = rw (e.0, e.1.0, e.1.1.0, e.1.1.1) q }

-- ---- as the code finds it

pub means_at : (n : Node) (m : Name) (t : ℕ) (vs b : List ℕ) (h : Held n) (tl : Word t) (id : Word m.id) (ggsn : Word m.ggsn)
    (fit : (i : ℕ) → get_or vs i 0 < 2 ^ 32) {k : Reports.Telling} → k ≡ reports_for n m t (length vs) → Means n m t vs b h tl id ggsn (words vs fit) k
means_at n m t vs b h tl id ggsn fit e = rw e (means n m t vs b h tl id ggsn (words vs fit))

pub batches_still : {n : Node} {m : Name} {t : ℕ} {vs b : List ℕ} {j a c l : ℕ} {n' : Node}
    → batch_of n m t vs b ≡ record { answer = j; applied = 0; left = n; written = 0; buffer = b }
    → (a ≡ j) × ((c ≡ 0) × ((n' ≡ n) × (l ≡ 0))) → Batches n m t vs b b a c n' l
batches_still y e = record { is = rw (e.0, e.1.0, e.1.1.0, e.1.1.1) (sym y) }
