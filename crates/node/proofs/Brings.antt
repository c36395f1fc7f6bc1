-- What an accepted event brings is in range, and the context that an activate opens is as it must be.
use mathlib.Core.Path.{◌≡◌, refl, sym, ◌∙◌}
use mathlib.Core.Bool.{true, false}
use mathlib.Core.List.{List, [], ◌∷◌}
use Rattle.std.specs.Prelude.{Option, None, Some}
use Prim.Native.Nat.{ℕ, zero, suc, ◌+◌, ◌^◌, ◌≤◌, ◌<◌}
use native.Mathlib.Omega.{arith}
use lib.ListN.{length, get_or}
use borrow.Author.Tests.{lt-ltb}
use Rattle.format.proofs.Tests.{true_T}
use Rattle.ber.specs.Int.{spelt, octets_from, number_in}
use Rattle.ber.specs.Imsi.{imsi_ok}
use Rattle.ber.proofs.Imsis.{imsi_rules}
use Rattle.container.specs.Qos.{qos_ok}
use Rattle.container.proofs.OpenRules.{opened_sound}
use Rattle.octets.specs.Names.{apn_ok}
use Rattle.octets.specs.Filled.{fill_to}
use Rattle.octets.proofs.Filled.{fill_length}
use Rattle.octets.proofs.NameRules.{spelled_rules}
use Rattle.octets.proofs.Lowered.{lowered_length}
use Rattle.octets.proofs.Checked.{lowered_stored}
use Rattle.container.proofs.Padded.{padded_length}
use Rattle.profile.specs.declared.Profile.{Profile}
use Rattle.limits.specs.Limits.{limits_ok}
use Rattle.limits.specs.Sets.{has_set, sets_ok}
use Rattle.limits.proofs.Numbers.{limits_in_range}
use Rattle.event.specs.declared.Name.{Name}
use Rattle.event.specs.declared.Activation.{Activation}
use Rattle.event.specs.declared.Replacement.{Replacement}
use Rattle.event.specs.declared.Event.{Event}
use Rattle.event.specs.declared.Event.TheVariants as E
use Rattle.std.specs.Prelude.{Ok}
use Rattle.event.specs.Event.{decoded}
use Rattle.event.proofs.Numbers.{number_more}
use Rattle.event.specs.Fields.{spelling_of, lac_of, rac_of, detach}
use Rattle.event.proofs.Theorems.{activated as activate-in, reported as reports, qos_changed, released, attached as attach-in, located as moved_in, detached, replaced as replaced-in}
use Rattle.mcdr.specs.declared.Place.{Place}
use Rattle.mcdr.specs.Change.{place_ok}
use Rattle.mcdr.specs.Rules as mm
use Rattle.subscriber.specs.declared.Notice.TheVariants.{Moved, Managed, Detached}
use Rattle.subscriber.specs.Hear.{notice_ok}
use Rattle.subscriber.specs.Held.{notice_held}
use Rattle.context.specs.Sound.{context_ok}
use Rattle.context.proofs.Sounds.{good_is}
use Rattle.history.specs.Log.{activates, tells, tells_all, nothing}
use Rattle.node.specs.declared.Message.{Message}
use Rattle.node.specs.declared.Settings.{Settings}
use Rattle.node.specs.Step.{Brought, brought_by, Attached, ToContexts, ToSubscribers, Words, takes, activated}
use Rattle.node.specs.Meaning.{report, tariff_change, tick, place_with, meaning_of}
use Rattle.node.specs.Private.Premises.{InRange, ReportFits}
use Rattle.node.specs.Private.Task.{MeaningInRange}
use Rattle.node.specs.Held.{Octets, HeldContext}

-- ---- numbers in octets

pub octet_at : (s : List ℕ) → Octets s → (i : ℕ) → get_or s i 0 < 256
octet_at [] o i = omega arith
octet_at (x ∷ s) o zero = o.0
octet_at (x ∷ s) o (suc i) = octet_at s o.1 i

number_below : (k at : ℕ) (s : List ℕ) → Octets s → number_in k at s < 256 ^ k
unfolding number_in octets_from spelt
number_below zero at s o = omega arith
number_below (suc k) at s o = rw (number_more k at s) (omega (arith, number_below k at s o, octet_at s o (at + k)))

-- ---- what is brought

-- what an activate of this name must bring
pub record Brings (m : Name) (b : Brought) : Type 0 where
  pub flags : b.flags ≤ 3
  pub imsi : imsi_ok b.imsi ≡ true
  pub apn : apn_ok (fill_to 63 0 b.apn) (length b.apn) ≡ true
  pub most : length b.apn ≤ 63
  pub qos : qos_ok b.qos ≡ true
  pub id : m.id < 2 ^ 32
  pub ggsn : m.ggsn < 2 ^ 32
  pub pdptype : b.pdptype < 2 ^ 16
  pub address : b.address < 2 ^ 32

-- Of what is said to contexts, and to subscribers.
abbrev pub AllInRange : Settings → ToContexts → Type 0
AllInRange gs (activates m b) = Brings m (b gs)
AllInRange gs (tells m h) = InRange h × ReportFits h
AllInRange gs (tells_all h) = InRange h × ReportFits h
AllInRange gs nothing = Unit {0}

-- what an attach of this name must bring
pub record Comes (k : ℕ) (a : Attached) : Type 0 where
  pub imsi : imsi_ok a.imsi ≡ true
  pub name : spelt 0 a.imsi ≡ k
  pub place : place_ok a.place ≡ true

abbrev pub NoticesInRange : ToSubscribers → Type 0
NoticesInRange (activates k a) = Comes k (a tt)
NoticesInRange (tells k m) = (notice_ok m ≡ true) × (notice_held m ≡ true)
NoticesInRange (tells_all m) = ⊥
NoticesInRange nothing = Unit {0}

-- what replaces a set has limits in range
abbrev pub ReplacesInRange : Option Replacement → Type 0
ReplacesInRange None = Unit {0}
ReplacesInRange (Some r) = limits_ok r.limits ≡ true

pub record Fair (gs : Settings) (w : Words) : Type 0 where
  pub contexts : AllInRange gs w.contexts
  pub subscribers : NoticesInRange w.subscribers
  pub replaces : ReplacesInRange w.replaces

-- what each kind of event in range is to a context
differ : true ≡ false → ⊥
differ e = let z : ◌≡◌ {A = ℕ} 0 1 = cc in omega arith

plain : (m : Message) → m.counts ≡ false → m.up ≡ 0 → m.down ≡ 0 → m.brings ≡ false → m.closes ≡ false → m.releases ≡ false → InRange m
plain m c u d b k r = record {
  uncounted = λ e. (u, d);
  qos = λ e. absurd (differ (sym e ∙ b));
  released = λ e. absurd (differ (sym e ∙ r));
  managed = λ e. absurd (differ (sym e ∙ k));
}

pub report_in_range : (up down : ℕ) → InRange (report up down)
report_in_range up down = record {
  uncounted = λ e. absurd (differ e);
  qos = λ e. absurd (differ (sym e));
  released = λ e. absurd (differ (sym e));
  managed = λ e. absurd (differ (sym e));
}

moved_ok : (q : Place) → notice_ok (Moved q) ≡ true
unfolding notice_ok
moved_ok q = refl

managed_ok : notice_ok Managed ≡ true
unfolding notice_ok
managed_ok = refl

-- an event's causes of a detach are a record's
detached_ok : (c : ℕ) → detach c ≡ true → notice_ok (Detached c) ≡ true
unfolding notice_ok detach mm.detach
detached_ok c e = e

-- octets that no row refuses say what is in range
pub fair_meaning : (s : List ℕ) (e : Event) {t : ℕ} → decoded s ≡ Ok (t, e) → MeaningInRange (meaning_of e)
fair_meaning s (E.Activate a) d = tt
fair_meaning s (E.Traffic n up down) d = report_in_range up down
fair_meaning s (E.Qos n q) d =
    record { uncounted = λ e. (refl, refl); qos = λ e. qos_changed s d; released = λ e. absurd (differ (sym e)); managed = λ e. absurd (differ (sym e)) }
fair_meaning s E.Tariff d = plain tariff_change refl refl refl refl refl refl
fair_meaning s (E.Release n c) d =
    record { uncounted = λ e. (refl, refl); qos = λ e. absurd (differ (sym e)); released = λ e. (refl, released s d); managed = λ k e. absurd (differ e) }
fair_meaning s E.Tick d = plain tick refl refl refl refl refl refl
fair_meaning s (E.Management n) d =
    record { uncounted = λ e. (refl, refl); qos = λ e. absurd (differ (sym e)); released = λ e. absurd (differ (sym e)); managed = λ k e. refl }
fair_meaning s (E.Attach k l r) d = tt
fair_meaning s (E.Location k l r) d = moved_ok (place_with l r)
fair_meaning s (E.ManageSubscriber k) d = managed_ok
fair_meaning s (E.Detach k c) d = detached_ok c (detached s d)
fair_meaning s (E.Replace r) d = tt

small : {m : Message} → m.up ≡ 0 → m.down ≡ 0 → ReportFits m
small u d = record { up = omega arith; down = omega arith }

-- a place that an event says is one
there : (s : List ℕ) → Octets s → {l r : ℕ} → l ≡ lac_of s → r ≡ rac_of s → place_ok (place_with l r) ≡ true
unfolding place_ok
there s o {l} {r} p q =
    rw (lt-ltb l (256 ^ 2) (rw p (number_below 2 15 s o)), lt-ltb r 256 (rw q (octet_at s o 17)))

there_noticed : (s : List ℕ) → Octets s → {l r : ℕ} → l ≡ lac_of s → r ≡ rac_of s → notice_held (Moved (place_with l r)) ≡ true
unfolding notice_held
there_noticed s o p q = there s o p q

managed_held : notice_held Managed ≡ true
unfolding notice_held
managed_held = refl

detached_held : (c : ℕ) → notice_held (Detached c) ≡ true
unfolding notice_held
detached_held c = refl

pub fair_said : (gs : Settings) (s : List ℕ) (e : Event) {t : ℕ} → Octets s → decoded s ≡ Ok (t, e) → Fair gs (takes e s)
fair_said gs s (E.Activate a) o d =
    let x = activate-in s d in
    record {
      contexts = record {
        flags = x.flags;
        imsi = x.imsi;
        apn = lowered_stored (spelling_of s) x.name;
        most = omega (arith, lowered_length (spelling_of s), (spelled_rules (spelling_of s) x.name).most);
        qos = x.qos;
        id = rw x.is (number_below 4 7 s o);
        ggsn = rw x.is (number_below 4 11 s o);
        pdptype = rw x.is (number_below 2 24 s o);
        address = rw x.is (number_below 4 26 s o);
      };
      subscribers = tt;
      replaces = tt;
    }
fair_said gs s (E.Traffic n up down) o d =
    let x = reports s d in
    record {
      contexts = (fair_meaning s (E.Traffic n up down) d, record { up = rw x.0 (number_below 4 15 s o); down = rw x.1 (number_below 4 19 s o) });
      subscribers = tt;
      replaces = tt;
    }
fair_said gs s (E.Qos n q) o d = record { contexts = (fair_meaning s (E.Qos n q) d, small refl refl); subscribers = tt; replaces = tt }
fair_said gs s E.Tariff o d = record { contexts = (fair_meaning s E.Tariff d, small refl refl); subscribers = tt; replaces = tt }
fair_said gs s (E.Release n c) o d = record { contexts = (fair_meaning s (E.Release n c) d, small refl refl); subscribers = tt; replaces = tt }
fair_said gs s E.Tick o d = record { contexts = (fair_meaning s E.Tick d, small refl refl); subscribers = tt; replaces = tt }
fair_said gs s (E.Management n) o d = record { contexts = (fair_meaning s (E.Management n) d, small refl refl); subscribers = tt; replaces = tt }
fair_said gs s (E.Attach k l r) o d =
    let x = attach-in s d in
    record { contexts = tt; subscribers = record { imsi = x.imsi; name = x.name ∙ sym x.key; place = there s o x.lac x.rac }; replaces = tt }
fair_said gs s (E.Location k l r) o d =
    let x = moved_in s d in
    record { contexts = tt; subscribers = (fair_meaning s (E.Location k l r) d, there_noticed s o x.0 x.1); replaces = tt }
fair_said gs s (E.ManageSubscriber k) o d = record { contexts = tt; subscribers = (fair_meaning s (E.ManageSubscriber k) d, managed_held); replaces = tt }
fair_said gs s (E.Detach k c) o d = record { contexts = tt; subscribers = (fair_meaning s (E.Detach k c) d, detached_held c); replaces = tt }
fair_said gs s (E.Replace r) o d = record { contexts = tt; subscribers = tt; replaces = replaced-in s d }

-- ---- the context that it opens

module _ (p : Profile) (t : ℕ) (m : Name) (b : Brought) (r : Brings m b) where
  pub activated_sound : has_set p.sets b.set ≡ true → limits_ok b.limits ≡ true → (accepted : ℕ) → context_ok p.sets p.zone t (accepted + 1) (activated p t m b) ≡ true
  unfolding activated
  activated_sound have ok accepted =
      good_is p.sets p.zone t (accepted + 1) (activated p t m b) (record {
        flags = r.flags;
        imsi = r.imsi;
        apn = r.apn;
        set = have;
        closed = omega arith;
        current = opened_sound p.zone t b.qos b.limits r.qos ok;
      })

  pub activated_held : HeldContext (activated p t m b)
  unfolding activated
  activated_held = record {
    shape = record {
      imsi = (imsi_rules b.imsi (true_T (imsi_ok b.imsi) r.imsi)).eight;
      apn = fill_length 63 0 b.apn r.most;
      containers = padded_length [] (omega arith);
    };
    id = r.id;
    ggsn = r.ggsn;
    pdptype = r.pdptype;
    address = r.address;
  }

-- so of an activate that is said, of a set that the node has
pub activate_sound : (p : Profile) (gs : Settings) (s : List ℕ) {t : ℕ} {a : Activation} → sets_ok p.sets gs.sets ≡ true
    → has_set p.sets a.set ≡ true → Octets s → decoded s ≡ Ok (t, E.Activate a) → (accepted : ℕ)
    → context_ok p.sets p.zone t (accepted + 1) (activated p t a.name (brought_by gs a s)) ≡ true
activate_sound p gs s {t} {a} ok have o d accepted =
    activated_sound p t a.name (brought_by gs a s) (fair_said gs s (E.Activate a) o d).contexts have
    (limits_in_range p.sets gs.sets a.set ok have) accepted
