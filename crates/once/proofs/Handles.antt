-- How the node handles contexts, in the words of the histories; and that this is sound: names are kept, an activation stores and
-- hearing does what the history says.
use mathlib.Core.Path.{◌≡◌, refl, sym, ap, ◌∙◌}
use mathlib.Core.Logic.{◌↔◌}
use mathlib.Core.Bool.{Bool, true, false, cond}
use Rattle.std.specs.Prelude.{Option, None, Some}
use mathlib.Core.List.{List, [], map}
use Prim.Native.Nat.{ℕ, ◌+◌}
use native.Mathlib.Omega.{arith}
use lib.Dec.{eqb}
use borrow.Author.Tests.{eqb-true}
use Rattle.format.proofs.Tests.{by}
use Rattle.scdr.specs.declared.Record as scdr
use Rattle.limits.specs.Sets.{limits_of}
use Rattle.profile.specs.declared.Profile.{Profile}
use Rattle.event.specs.declared.Name.{Name}
use Rattle.event.specs.declared.Event.{Event}
use Rattle.event.specs.Fields.{kind_of}
use Rattle.context.specs.declared.Context.{Context}
use Rattle.context.specs.Context.{no_context}
use Rattle.context.specs.Slots.{same_name}
use Rattle.history.specs.Log.{Said, activates, tells, tells_all, nothing, heard}
use Rattle.history.proofs.Lists.{none≢some}
use Rattle.history.specs.Table as table
use Rattle.history.proofs.Tables.{Bears, NextIs, Sound, admits}
use Rattle.node.specs.declared.Message as node
use Rattle.node.specs.declared.Settings.{Settings}
use Rattle.node.specs.Meaning.{quiet}
use Rattle.node.specs.Hear.{reported, change_of, limit_met, closing, going, record_of, goes_on, closed_by, after_closing, hear_with, hear}
use Rattle.node.specs.Step as step
use Rattle.node.proofs.Hearing as heards
use Rattle.once.specs.Charging.{Force, Heard, number_of, new_set, same, says, settles, meaning, after, rules, forms}
use Rattle.once.specs.Once.{sight}
use Rattle.once.proofs.Hears.{nodes, hears_told}
use Rattle.once.proofs.Alike as alike

-- ---- what the node is set to: what is in force knows it, since every context hears what changes it

-- a replacement, by its kind
says_replaces : (v : List ℕ) → eqb (kind_of v) 12 ≡ true → says v ≡ tells_all (Heard.replaces (number_of v) (new_set v))
unfolding says
says_replaces v e = rw (eqb-true (kind_of v) 12 e)

-- what holds of either of two is what holds of the one that a test picks
either_way : {A : Type 0} (P : A → Type 0) (b : Bool) (x y : A) → P x → P y → P (cond b x y)
either_way P true x y f g = f
either_way P false x y f g = g

-- What no replacement says: an activation starts with what the node is set to, and nothing else changes that.
abbrev Calm : Heard → Type 0
Calm e = (s : Force) → (after s e).settings ≡ s.settings

abbrev Still : Settings → Said Settings Name Force Heard → Type 0
Still g (activates m s) = (s g).settings ≡ g
Still g (tells m e) = Calm e
Still g (tells_all e) = Calm e
Still g nothing = Unit {0}

says_still : (g : Settings) (v : List ℕ) → eqb (kind_of v) 12 ≡ false → Still g (says v)
unfolding says
says_still g v e =
    rw e
    (either_way (Still g) (eqb (kind_of v) 1) _ _ refl
    (either_way (Still g) (eqb (kind_of v) 2) _ _ (λ s. refl)
    (either_way (Still g) (eqb (kind_of v) 3) _ _ (λ s. refl)
    (either_way (Still g) (eqb (kind_of v) 4) _ _ (λ s. refl)
    (either_way (Still g) (eqb (kind_of v) 5) _ _ (λ s. refl)
    (either_way (Still g) (eqb (kind_of v) 6) _ _ (λ s. refl)
    (either_way (Still g) (eqb (kind_of v) 7) _ _ (λ s. refl) tt)))))))

not_activates : {e : Heard} {m : Name} {s : Settings → Force} → ◌≡◌ {A = Said Settings Name Force Heard} (tells_all e) (activates m s) → ⊥
not_activates q = let z : ◌≡◌ {A = ℕ} 0 1 = cc in omega arith

starts_with : (g : Settings) (v : List ℕ) (m : Name) (s : Settings → Force) → says v ≡ activates m s → (s g).settings ≡ settles g v
unfolding settles
starts_with g v m s e =
    by (eqb (kind_of v) 12)
    (λ r. absurd (not_activates (sym (says_replaces v r) ∙ e)))
    (λ r. rw r (rw e at (says_still g v r)))

heard_calm : (g : Settings) (n : Name) (w : Said Settings Name Force Heard) (e : Heard) → Still g w → heard rules meaning n w ≡ Some e → Calm e
heard_calm g n (activates m s) e k i = absurd (none≢some i)
heard_calm g n (tells m x) e k i =
    by (same n m)
    (λ r. let j : Some x ≡ Some e = rw r at i in let q : x ≡ e = cc in rw q at k)
    (λ r. absurd (none≢some (rw r at i)))
heard_calm g n (tells_all x) e k i = let q : x ≡ e = cc in rw q at k
heard_calm g n nothing e k i = absurd (none≢some i)

hears_of : (n : Name) (s : Force) (v : List ℕ) (e : Heard) → heard rules meaning n (says v) ≡ Some e → (after s e).settings ≡ settles s.settings v
unfolding settles
hears_of n s v e i =
    by (eqb (kind_of v) 12)
    (λ r.
    let j : Some (Heard.replaces (number_of v) (new_set v)) ≡ Some e = rw (says_replaces v r) at i in
    let q : Heard.replaces (number_of v) (new_set v) ≡ e = cc in
    rw (r, ← q))
    (λ r. rw r (heard_calm s.settings n (says v) e (says_still s.settings v r) i s))

none_hears : (n : Name) (g : Settings) (v : List ℕ) → heard rules meaning n (says v) ≡ None → settles g v ≡ g
unfolding settles
none_hears n g v i =
    by (eqb (kind_of v) 12)
    (λ r. let j : Some (Heard.replaces (number_of v) (new_set v)) ≡ None = rw (says_replaces v r) at i in absurd (none≢some (sym j)))
    (λ r. rw r)

-- ---- the same in the node's words

abbrev pub brings : Force → step.Brought
brings s = record {
  flags = s.brought.flags;
  imsi = s.brought.imsi;
  apn = s.brought.apn;
  pdptype = s.brought.pdptype;
  address = s.brought.address;
  set = s.brought.set;
  qos = s.qos;
  limits = limits_of s.brought.set s.settings.sets;
}

-- what all contexts are told: a replacement is nothing to them
abbrev pub to_all : Heard → Option node.Message
to_all (Heard.traffic u d) = Some (nodes (Heard.traffic u d))
to_all (Heard.qos q) = Some (nodes (Heard.qos q))
to_all Heard.tariff = Some (nodes Heard.tariff)
to_all (Heard.release cause) = Some (nodes (Heard.release cause))
to_all Heard.tick = Some (nodes Heard.tick)
to_all Heard.management = Some (nodes Heard.management)
to_all (Heard.replaces i x) = None

abbrev pub handling : Profile → table.Handling Settings Name Force Heard (List ℕ) Context scdr.Record
handling p = record {
  same = same;
  name = λ c. c.name;
  says = says;
  settles = settles;
  opening = λ t n s. step.activated p t n (brings s);
  hear = λ g c t e. hear p g c t (nodes e);
}

module _ (p : Profile) where
  abbrev K : table.Handling Settings Name Force Heard (List ℕ) Context scdr.Record
  K = handling p

  abbrev K' : table.Handling Settings Name step.Brought node.Message (Event × List ℕ) Context scdr.Record
  K' = step.handling p

  -- the node says and hears the same
  pub same_alike : (m : Name) (c : Context) → same_name m c.name ≡ same m c.name
  same_alike m c = refl

  pub same_too : (c : Context) (m : Name) → same_name c.name m ≡ same c.name m
  same_too c m = refl

  -- a context that hears nothing is as it was
  quiet_keeps : (g : Settings) (c : Context) (t : ℕ) → ◌≡◌ {A = table.Step Context scdr.Record} (record { next = Some c; out = [] }) (hear p g c t quiet)
  unfolding hear hear_with closing limit_met change_of goes_on reported
  quiet_keeps g c t =
      let u : c.current.uplink ≡ c.current.uplink + 0 = omega arith in
      let d : c.current.downlink ≡ c.current.downlink + 0 = omega arith in
      λ i. record {
        next = Some (going c (record {
          opening = c.current.opening;
          qos = c.current.qos;
          limits = c.current.limits;
          uplink = u i;
          downlink = d i;
          changes = c.current.changes;
          containers = c.current.containers;
          count = c.current.count;
        }) c.closed);
        out = [];
      }

  pub all_hear : (g : Settings) (c : Context) (t : ℕ) (e : Heard) → table.listen K' g c t (to_all e) ≡ K.hear g c t e
  all_hear g c t (Heard.traffic u d) = refl
  all_hear g c t (Heard.qos q) = refl
  all_hear g c t Heard.tariff = refl
  all_hear g c t (Heard.release cause) = refl
  all_hear g c t Heard.tick = refl
  all_hear g c t Heard.management = refl
  all_hear g c t (Heard.replaces i x) = quiet_keeps g c t

  abbrev pub said : Said Settings Name Force Heard → step.ToContexts
  said w = alike.said K K' nodes to_all same_alike same_too (λ g c t e. refl) all_hear brings w

  pub after_alike : (g : Settings) (t : ℕ) (w : Said Settings Name Force Heard) (os : List (Option Context))
      → table.slots_after K' g t (said w) os ≡ table.slots_after K g t w os
  after_alike g t w os = alike.after_alike K K' nodes to_all same_alike same_too (λ g c t e. refl) all_hear brings g t w os (opens w)
    where
      opens : (w : Said Settings Name Force Heard) → alike.Opens K K' nodes to_all same_alike same_too (λ g c t e. refl) all_hear brings g t w
      opens (activates m s) = refl
      opens (tells m e) = tt
      opens (tells_all e) = tt
      opens nothing = tt

  pub writes_alike : (g : Settings) (t : ℕ) (w : Said Settings Name Force Heard) (os : List (Option Context))
      → table.writes K' g t (said w) os ≡ table.writes K g t w os
  writes_alike = alike.writes_alike K K' nodes to_all same_alike same_too (λ g c t e. refl) all_hear brings

  pub admitted : (w : Said Settings Name Force Heard) (os : List (Option Context)) → table.not_active K' (said w) os ≡ false
      → table.is_active K' (said w) os ≡ false → table.all_taken K' (said w) os ≡ false → admits K w os ≡ true
  admitted = alike.admitted K K' nodes to_all same_alike same_too (λ g c t e. refl) all_hear brings

  -- ---- what hearing keeps: the name, and that the slot is taken

  abbrev pub Taken : ℕ → Option Context → Type 0
  Taken a None = Unit {0}
  Taken a (Some c) = c.active ≡ a

  pub record Keeps (c : Context) (s : table.Step Context scdr.Record) : Type 0 where
    pub bears : Bears K sight.name_of c.name s
    pub taken : Taken c.active s.next

  module _ (g : Settings) (c : Context) (t : ℕ) (h : node.Message) where
    after_closing_lem : (r : Bool) (d : Context) → d.name ≡ c.name → d.active ≡ c.active
        → NextIs K sight.name_of c.name (cond r None (Some d)) × Taken c.active (cond r None (Some d))
    after_closing_lem true d n a = (tt, tt)
    after_closing_lem false d n a = (n, a)

    keeps_by : (o : Option ℕ) → Keeps c (hear_with p g c t h o)
    unfolding hear_with closed_by after_closing record_of
    keeps_by None = record { bears = record { next = refl; out = tt }; taken = refl }
    keeps_by (Some cause) =
        let w = after_closing_lem h.releases (going c _ (c.closed + 1)) refl refl in
        record { bears = record { next = w.0; out = (refl, tt) }; taken = w.1 }

    pub keeps : Keeps c (hear p g c t h)
    unfolding hear
    keeps = keeps_by (closing c.current t h)

  -- ---- the slots that the node has are those that are taken

  stay : (g : Settings) (c : Context) (t : ℕ) (e : Heard) → step.taken c ≡ true → alike.Taken K step.taken (K.hear g c t e).next
  stay g c t e a = go (K.hear g c t e).next (keeps g c t (nodes e)).taken
    where
      go : (o : Option Context) → Taken c.active o → alike.Taken K step.taken o
      go None k = tt
      go (Some d) k = ap (λ (x : ℕ). eqb x 1) k ∙ a

  -- what the node sees of the slots after an event is what stands there
  pub seen_after : (g : Settings) (t : ℕ) (w : Said Settings Name Force Heard) (cs : List Context)
      → map step.seen (map step.stood (table.slots_after K g t w (map step.seen cs))) ≡ table.slots_after K g t w (map step.seen cs)
  unfolding step.activated
  seen_after g t w cs =
      alike.seen_stood K step.taken no_context refl (table.slots_after K g t w (map step.seen cs))
      (alike.after_taken K step.taken g (stay g) t (λ m s. refl) w (map step.seen cs) (alike.slots_taken K step.taken cs))

  -- ---- the kind is sound

  same_exactly : (m n : Name) → (same m n ≡ true) ↔ (m ≡ n)
  same_exactly m n = heards.same_exactly m n

  pub sound : Sound rules meaning (forms p) K sight.name_of (λ s. s.settings)
  unfolding step.activated
  sound = record {
    same_exactly = same_exactly;
    same_meant = λ m n. refl;
    says_meant = λ v. refl;
    settles_meant = λ g v. refl;
    stored_name = λ n o. refl;
    bears = λ g c t e. (keeps g c t (nodes e)).bears;
    opens = λ n t s. refl;
    hears_told = λ n h t e. hears_told p n h t e;
    settings_activated = λ g v m s e. starts_with g v m s e;
    settings_heard = λ n s v e i. hears_of n s v e i;
    settings_unheard = λ n g v i. none_hears n g v i;
  }
