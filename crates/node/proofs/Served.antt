-- What a call answers, by what the table did.
use mathlib.Core.Path.{◌≡◌, refl, sym, ap, ◌∙◌}
use mathlib.Core.Bool.{true, false, cond}
use mathlib.Core.List.{List, ◌++◌, map, append-nil}
use Prim.Native.Nat.{ℕ, suc, ◌+◌, ◌≤◌, ◌<◌}
use native.Mathlib.Numerals.{add-one}
use native.Mathlib.Omega.{arith}
use lib.Dec.{leb}
use lib.ListN.{length, drop, set}
use borrow.Author.Tests.{le-leb, lt-leb, le-ltb, lt-ltb, ne_eqb}
use Rattle.format.proofs.Tests.{either}
use Rattle.event.specs.declared.Name.{Name}
use Rattle.event.specs.Rows.{Row, first_fit}
use Rattle.context.specs.declared.Context.{Context}
use Rattle.context.specs.Context.{no_context}
use Rattle.history.specs.Lists.{All}
use Rattle.history.specs.Slots.{distinct, across, along}
use Rattle.history.specs.Log.{activates, tells, tells_all}
use Rattle.history.specs.Table.{slots_after, writes, not_active, is_active, all_taken}
use Rattle.history.proofs.Scans.{First}
use Rattle.history.proofs.Lists.{all_map}
use Rattle.history.proofs.Slots.{stand_all, found_free, none_free, filled}
use Rattle.subscriber.specs.Subscriber.{taken as isAttached, no_subscriber}
use Rattle.subscriber.specs.Tell.{octets_of as mmOctetsOf}
use Rattle.history.proofs.Hearing.{found_active, none_active}
use Rattle.node.specs.declared.Node.{Node}
use Rattle.node.specs.declared.Message.{Message}
use Rattle.node.specs.declared.Settings.{Settings}
use Rattle.limits.specs.Sets.{has_set, is_next}
use Rattle.event.specs.declared.Replacement.{Replacement}
use Rattle.std.specs.Prelude.{Option, None, Some}
use Rattle.node.specs.Step.{Brought, ToContexts, Words, to_contexts, to_settings, settled_by, handling, subscribing, taken, stood, slots, places, octets_of, activated}
use Rattle.node.specs.Step.{node_after, records_of, mm_records_of, output, unknown_set, other_edition, outcome}
use Rattle.node.specs.Held.{Shaped, HeldContext, Held}
use Rattle.node.specs.Private.Premises.{SoundTable}
use Rattle.node.specs.Private.Task.{Sounding}
use Rattle.node.specs.Private.Range.{slot_next, slot_out, Stands, advanced, resettled, served_of, Serves}
use Rattle.node.proofs.RefusalRows.{table_rows}
use Rattle.node.proofs.Rules.{rules}
use Rattle.node.proofs.TableKept.{shapes}
use Rattle.node.proofs.Found.{contexts, named, idle}
use Rattle.node.proofs.Found as found
use Rattle.node.proofs.Attached as attached
use Rattle.node.proofs.Attached.{subscribers, Vacant, all_vacant}
use Rattle.node.proofs.Hearing.{Settled, all_settled, all_after, all_outs, tells_after, tells_outs}

-- ---- a sound node

module _ (n : Node) (t : ℕ) (s : Sounding n t) where
  pub ready : Held n → SoundTable n.profile n.settings t n.contexts
  ready h = record {
    due = record { clock = n.clock; accepted = n.accepted; profile = (rules n s.sound).profile; sets = (rules n s.sound).sets; since = s.since; until = s.until; few = s.few };
    sound = (rules n s.sound).slots;
    shapes = shapes n.contexts h.contexts;
  }

  pub apart : distinct contexts n.contexts ≡ true
  apart = sym (found.apart n.contexts) ∙ (rules n s.sound).names

  pub settleds : Held n → All Settled n.contexts
  settleds z =
      all_settled n.profile.sets n.profile.zone n.clock n.accepted n.contexts
      (all_map HeldContext Shaped (λ c k. k.shape) n.contexts z.contexts) (rules n s.sound).slots

  -- the same of subscribers
  pub lone : distinct subscribers n.subscribers ≡ true
  lone = sym (attached.apart n.subscribers) ∙ (rules n s.sound).imsis

  pub stays : Held n → All Vacant n.subscribers
  stays z = all_vacant n.profile.zone n.clock n.accepted n.subscribers z.subscribers (rules n s.sound).places

-- ---- some slots heard

module _ (n : Node) (from to t : ℕ) (h : Message) (b : List ℕ) where
  abbrev x : List ℕ
  x = along from to (slot_out n.profile n.settings t h) n.contexts

  pub serves_full : {size a k : ℕ} {m : Node} → size ≡ length x → length b < size → a ≡ 11 → m ≡ n → k ≡ 0 → Serves n from to t h b b a m k
  unfolding served_of
  serves_full e l p q r = record { is = rw (lt-leb (length x) (length b) (omega arith)) (λ i. (p i, (q i, (r i, b)))) }

  pub serves_done : {b' : List ℕ} {a at k : ℕ} {cs : List Context} {m : Node} → length x ≤ length b
      → Stands (across from to (slot_next n.profile n.settings t h) n.contexts) x b b' 0 cs at
      → a ≡ 0 → m ≡ advanced n t cs → k ≡ at → Serves n from to t h b b' a m k
  unfolding served_of
  serves_done {b'} {a} {at} {k} {cs} {m} l w p q r =
      let e = w.written.end in
      let z : at ≡ length x = omega arith in
      let y : k ≡ length x = r ∙ z in
      let v : m ≡ advanced n t (across from to (slot_next n.profile n.settings t h) n.contexts) = q ∙ ap (λ (l : List Context). advanced n t l) w.value in
      let u : b' ≡ x ++ drop (length x) b = w.written.buf ∙ ap (λ (j : ℕ). x ++ drop j b) z in
      record { is = rw (le-leb (length x) (length b) l) (λ i. (p i, (v i, (y i, u i)))) }

-- ---- what the call answers then

-- what a call answers by some rows of the table
pub record Outs (rs : List Row) (n : Node) (t : ℕ) (w : Words) (b b' : List ℕ) (answer : ℕ) (n' : Node) (written : ℕ) : Type 0 where
  pub is : ◌≡◌ {A = ℕ × (Node × (ℕ × List ℕ))} (answer, (n', (written, b'))) (outcome (first_fit rs) n t w b)

module _ (n : Node) (t : ℕ) (w : Words) (b : List ℕ) where
  pub outs_refused : (rs : List Row) (j : ℕ) {a k : ℕ} {m : Node} → first_fit rs ≡ j → (j ≡ 0 → ⊥) → a ≡ j → m ≡ n → k ≡ 0 → Outs rs n t w b b a m k
  unfolding outcome
  outs_refused rs j e z p q r = record { is = rw (e, ne_eqb j 0 z) (λ i. (p i, (q i, (r i, b)))) }

  -- neither of 18 and 19 fits, none of 8, 9 and 10, nor of 16, 15 and 17
  pub record Admitted : Type 0 where
    pub named : unknown_set n.profile.sets w.set ≡ false
    pub edition : other_edition n.settings w.replaces ≡ false
    pub known : not_active (handling n.profile) w.contexts (slots n) ≡ false
    pub new : is_active (handling n.profile) w.contexts (slots n) ≡ false
    pub room : all_taken (handling n.profile) w.contexts (slots n) ≡ false
    pub attached : not_active (subscribing n.profile) w.subscribers (places n) ≡ false
    pub detached : is_active (subscribing n.profile) w.subscribers (places n) ≡ false
    pub vacant : all_taken (subscribing n.profile) w.subscribers (places n) ≡ false

  fits_none : Admitted → length (output n t w) ≤ length b → first_fit (table_rows n t w b) ≡ 0
  unfolding table_rows first_fit
  fits_none a l = rw (a.named, a.edition, a.known, a.new, a.room, a.attached, a.detached, a.vacant, le-ltb (length b) (length (output n t w)) l)

  fits_11 : Admitted → length b < length (output n t w) → first_fit (table_rows n t w b) ≡ 11
  unfolding table_rows first_fit
  fits_11 a l = rw (a.named, a.edition, a.known, a.new, a.room, a.attached, a.detached, a.vacant, lt-ltb (length b) (length (output n t w)) l)

  -- the node after it, by both tables
  pub outs_done : Admitted → {b' : List ℕ} {a k : ℕ} {m : Node} → length (output n t w) ≤ length b → a ≡ 0 → m ≡ node_after n t w
      → k ≡ length (output n t w) → b' ≡ output n t w ++ drop (length (output n t w)) b → Outs (table_rows n t w b) n t w b b' a m k
  unfolding outcome
  outs_done ad l p q r u = record { is = rw (fits_none ad l) (λ i. (p i, (q i, (r i, u i)))) }

  -- done where there is room for x, and else 11
  pub outs_by : Admitted → (x : List ℕ) (new : Node) → new ≡ node_after n t w → x ≡ output n t w → {b' : List ℕ} {a k : ℕ} {m : Node}
      → ◌≡◌ {A = ℕ × (Node × (ℕ × List ℕ))} (a, (m, (k, b')))
      (cond (leb (length x) (length b)) (0, (new, (length x, x ++ drop (length x) b))) (11, (n, (0, b))))
      → Outs (table_rows n t w b) n t w b b' a m k
  outs_by ad x new e o {b'} {a} {k} {m} s =
      either (length x) (length b)
      (λ l.
      let q = rw (le-leb (length x) (length b) l) at s in
      outs_done ad (rw o at l) (ap (λ (z : ℕ × (Node × (ℕ × List ℕ))). z.0) q) (ap (λ (z : ℕ × (Node × (ℕ × List ℕ))). z.1.0) q ∙ e)
      (rw o at (ap (λ (z : ℕ × (Node × (ℕ × List ℕ))). z.1.1.0) q)) (rw o at (ap (λ (z : ℕ × (Node × (ℕ × List ℕ))). z.1.1.1) q)))
      (λ l.
      let q = rw (lt-leb (length x) (length b) l) at s in
      let z : b' ≡ b = ap (λ (z : ℕ × (Node × (ℕ × List ℕ))). z.1.1.1) q in
      rw z (outs_refused (table_rows n t w b) 11 (fits_11 ad (rw o at l)) (λ i. omega arith) (ap (λ (z : ℕ × (Node × (ℕ × List ℕ))). z.0) q)
      (ap (λ (z : ℕ × (Node × (ℕ × List ℕ))). z.1.0) q) (ap (λ (z : ℕ × (Node × (ℕ × List ℕ))). z.1.1.0) q)))

-- ---- an event for contexts: subscribers are as they were

module _ (n : Node) (t : ℕ) (j : Option ℕ) (v : ToContexts) where
  abbrev w : Words
  w = to_contexts j v

  contexts_out : octets_of (writes (handling n.profile) n.settings t v (slots n)) ≡ output n t w
  unfolding output records_of mm_records_of mmOctetsOf
  contexts_out = sym (append-nil (octets_of (writes (handling n.profile) n.settings t v (slots n))))

  contexts_after : Sounding n t → Held n → {cs : List Context} → cs ≡ map stood (slots_after (handling n.profile) n.settings t v (slots n))
      → advanced n t cs ≡ node_after n t w
  unfolding node_after settled_by
  contexts_after s z e =
      let u = sym (stand_all isAttached no_subscriber n.subscribers (stays n t s z)) in
      λ i. record { profile = n.profile; settings = n.settings; clock = t; accepted = n.accepted + 1; contexts = e i; subscribers = u i }

  outs_served : (b : List ℕ) → Admitted n t w b → Sounding n t → Held n → (from to : ℕ) (h : Message)
      → map stood (slots_after (handling n.profile) n.settings t v (slots n)) ≡ across from to (slot_next n.profile n.settings t h) n.contexts
      → octets_of (writes (handling n.profile) n.settings t v (slots n)) ≡ along from to (slot_out n.profile n.settings t h) n.contexts
      → {b' : List ℕ} {a k : ℕ} {m : Node} → Serves n from to t h b b' a m k → Outs (table_rows n t w b) n t w b b' a m k
  unfolding served_of
  outs_served b ad s z from to h e o v =
      outs_by n t w b ad (along from to (slot_out n.profile n.settings t h) n.contexts) (advanced n t (across from to (slot_next n.profile n.settings t h) n.contexts))
      (contexts_after s z (sym e)) (sym o ∙ contexts_out) v.is

-- ---- the three kinds of them

module _ (n : Node) (t : ℕ) (b : List ℕ) (s : Sounding n t) (z : Held n) where
  pub outs_tell : (m : Name) (h : Message) {i : ℕ} → First (named m) n.contexts i
      → {b' : List ℕ} {a k : ℕ} {r : Node} → Serves n i (i + 1) t h b b' a r k
      → Outs (table_rows n t (to_contexts None (tells m h)) b) n t (to_contexts None (tells m h)) b b' a r k
  unfolding unknown_set other_edition not_active is_active all_taken
  outs_tell m h {i} f {b'} {a} {k} {r} v =
      outs_served n t None (tells m h) b
      (record { named = refl; edition = refl; known = rw (found_active (handling n.profile) taken m f); new = refl; room = refl; attached = refl; detached = refl; vacant = refl })
      s z i (suc i) h (tells_after n.profile n.settings t h m f (settleds n t s z) (apart n t s))
      (tells_outs n.profile n.settings t h m f (settleds n t s z) (apart n t s)) (rw (add-one i) at v)

  pub outs_all : (h : Message) → {b' : List ℕ} {a k : ℕ} {r : Node} → Serves n 0 16 t h b b' a r k
      → Outs (table_rows n t (to_contexts None (tells_all h)) b) n t (to_contexts None (tells_all h)) b b' a r k
  unfolding unknown_set other_edition not_active is_active all_taken
  outs_all h {b'} {a} {k} {r} v =
      outs_served n t None (tells_all h) b (record { named = refl; edition = refl; known = refl; new = refl; room = refl; attached = refl; detached = refl; vacant = refl }) s z 0 16 h
      (rw z.size at (all_after n.profile n.settings t h n.contexts (settleds n t s z)))
      (rw z.size at (all_outs n.profile n.settings t h n.contexts (settleds n t s z))) v

  module _ (m : Name) (f : Settings → Brought) (j : ℕ) (have : has_set n.profile.sets j ≡ true) where
    pub outs_activate : {i : ℕ} → All (λ c. named m c ≡ false) n.contexts → First idle n.contexts i
        → {c : Context} {a k : ℕ} {r : Node} → c ≡ activated n.profile t m (f n.settings) → a ≡ 0 → r ≡ advanced n t (set n.contexts i c) → k ≡ 0
        → Outs (table_rows n t (to_contexts (Some j) (activates m f)) b) n t (to_contexts (Some j) (activates m f)) b b a r k
    unfolding unknown_set other_edition not_active is_active all_taken output records_of mm_records_of octets_of mmOctetsOf
    outs_activate {i} unnamed free {c} {a} {k} {r} e p q u =
        let g : set n.contexts i c ≡ map stood (slots_after (handling n.profile) n.settings t (activates m f) (slots n)) =
        ap (λ (d : Context). set n.contexts i d) e ∙ sym (filled taken no_context (activated n.profile t m (f n.settings)) free (settleds n t s z)) in
        outs_done n t (to_contexts (Some j) (activates m f)) b
        (record {
          named = rw have;
          edition = refl;
          known = refl;
          new = none_active (handling n.profile) taken m n.contexts unnamed;
          room = rw (found_free taken no_context free);
          attached = refl;
          detached = refl;
          vacant = refl;
        })
        (omega arith) p (q ∙ contexts_after n t (Some j) (activates m f) s z g) u refl

module _ (n : Node) (t : ℕ) (b : List ℕ) (m : Name) {a k : ℕ} {r : Node} (q : r ≡ n) (u : k ≡ 0) where
  pub outs_8 : (h : Message) → All (λ c. named m c ≡ false) n.contexts → a ≡ 8
      → Outs (table_rows n t (to_contexts None (tells m h)) b) n t (to_contexts None (tells m h)) b b a r k
  unfolding table_rows first_fit unknown_set other_edition not_active
  outs_8 h unnamed p =
      outs_refused n t (to_contexts None (tells m h)) b (table_rows n t (to_contexts None (tells m h)) b) 8
      (rw (none_active (handling n.profile) taken m n.contexts unnamed)) (λ i. omega arith) p q u

  module _ (f : Settings → Brought) (j : ℕ) (have : has_set n.profile.sets j ≡ true) where
    pub outs_9 : {i : ℕ} → First (named m) n.contexts i → a ≡ 9
        → Outs (table_rows n t (to_contexts (Some j) (activates m f)) b) n t (to_contexts (Some j) (activates m f)) b b a r k
    unfolding table_rows first_fit unknown_set other_edition not_active is_active
    outs_9 g p =
        outs_refused n t (to_contexts (Some j) (activates m f)) b (table_rows n t (to_contexts (Some j) (activates m f)) b) 9
        (rw (have, found_active (handling n.profile) taken m g)) (λ i. omega arith) p q u

    pub outs_10 : All (λ c. named m c ≡ false) n.contexts → All (λ c. idle c ≡ false) n.contexts → a ≡ 10
        → Outs (table_rows n t (to_contexts (Some j) (activates m f)) b) n t (to_contexts (Some j) (activates m f)) b b a r k
    unfolding table_rows first_fit unknown_set other_edition not_active is_active all_taken
    outs_10 unnamed full p =
        outs_refused n t (to_contexts (Some j) (activates m f)) b (table_rows n t (to_contexts (Some j) (activates m f)) b) 10
        (rw (have, none_active (handling n.profile) taken m n.contexts unnamed, none_free taken no_context n.contexts full)) (λ i. omega arith) p q u

-- an activation, or a replacement, of a set that the node does not have
pub outs_18 : (n : Node) (t : ℕ) (w : Words) (b : List ℕ) (j : ℕ) → w.set ≡ Some j → has_set n.profile.sets j ≡ false → Outs (table_rows n t w b) n t w b b 18 n 0
unfolding table_rows first_fit unknown_set
outs_18 n t w b j e have = outs_refused n t w b (table_rows n t w b) 18 (rw (e, have)) (λ i. omega arith) refl refl refl

-- ---- a set of limits is replaced: contexts and subscribers are as they were

module _ (n : Node) (t : ℕ) (b : List ℕ) (r : Replacement) (have : has_set n.profile.sets r.set ≡ true) where
  pub outs_19 : is_next r.set r.edition n.settings.sets ≡ false → Outs (table_rows n t (to_settings r) b) n t (to_settings r) b b 19 n 0
  unfolding table_rows first_fit unknown_set other_edition
  outs_19 e = outs_refused n t (to_settings r) b (table_rows n t (to_settings r) b) 19 (rw (have, e)) (λ i. omega arith) refl refl refl

  settings_after_lem : Sounding n t → Held n → resettled n t r ≡ node_after n t (to_settings r)
  unfolding node_after
  settings_after_lem s z =
      let c = sym (stand_all taken no_context n.contexts (settleds n t s z)) in
      let u = sym (stand_all isAttached no_subscriber n.subscribers (stays n t s z)) in
      λ i. record {
        profile = n.profile;
        settings = settled_by (Some r) n.settings;
        clock = t;
        accepted = n.accepted + 1;
        contexts = c i;
        subscribers = u i;
      }

  pub outs_replace : Sounding n t → Held n → is_next r.set r.edition n.settings.sets ≡ true
      → Outs (table_rows n t (to_settings r) b) n t (to_settings r) b b 0 (resettled n t r) 0
  unfolding unknown_set other_edition not_active is_active all_taken output records_of mm_records_of octets_of mmOctetsOf
  outs_replace s z e =
      outs_done n t (to_settings r) b
      (record {
        named = rw have;
        edition = rw e;
        known = refl;
        new = refl;
        room = refl;
        attached = refl;
        detached = refl;
        vacant = refl;
      })
      (omega arith) refl (settings_after_lem s z) refl refl
