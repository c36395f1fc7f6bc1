-- A context that hears an event stays as it must be, and so is the record that it closes.
use mathlib.Core.Path.{◌≡◌, refl, sym, ◌∙◌}
use mathlib.Core.Bool.{Bool, true, false, cond, ◌&&◌}
use Rattle.std.specs.Prelude.{Option, None, Some}
use mathlib.Core.List.{[], ◌∷◌}
use Prim.Native.Nat.{ℕ, ◌+◌, ◌≤◌, ◌<◌}
use native.Mathlib.Omega.{arith}
use lib.ListN.{length, length-append}
use borrow.Author.Tests.{leb-false}
use Rattle.format.proofs.Tests.{by, true_T, and_i}
use Rattle.calendar.specs.declared.Stamp.{Stamp}
use Rattle.container.specs.declared.OpenRecord.{OpenRecord}
use Rattle.container.specs.Qos.{qos_ok, same_qos}
use Rattle.container.specs.Container.{container_ok}
use Rattle.container.specs.List.{changes}
use Rattle.container.specs.Open as O
use Rattle.container.specs.Open.{volume_of, used, running, ended_all}
use Rattle.container.proofs.Formats.{qos_same}
use Rattle.container.proofs.OpenRules.{SoundOpen, counted_sound, later_sound, changed_sound, running_ok, opened_sound, used_length}
use Rattle.container.proofs.Padded.{padded_length}
use Rattle.scdr.specs.declared.Record.{Record}
use Rattle.scdr.specs.Rules.{shaped, within}
use Rattle.scdr.specs.Layout.{scdr}
use Rattle.scdr.proofs.Answering.{shaped_is}
use Rattle.scdr.proofs.Theorems.{at_most_1024, round_trip}
use Rattle.limits.specs.Sets.{limits_of}
use Rattle.limits.proofs.Numbers.{limits_in_range}
use Rattle.profile.specs.declared.Profile.{Profile}
use Rattle.profile.proofs.Ranges.{parts}
use Rattle.context.specs.declared.Context.{Context}
use Rattle.context.specs.Sound.{context_ok}
use Rattle.context.proofs.Sounds.{good, good_is}
use Rattle.history.specs.Lists.{is_some, or_else, test, All}
use Rattle.history.specs.Table.{Step}
use Rattle.history.proofs.Lists.{none≢some}
use Rattle.node.specs.declared.Message.{Message}
use Rattle.node.specs.declared.Settings.{Settings}
use Rattle.node.specs.Hear.{reported, qos_after, change_of, limit_met, closing, time_at, going, record_of, goes_on, closed_by, after_closing, hear_with, hear}
use Rattle.node.specs.Private.Premises.{InRange, ReportFits, SoundContext}
use Rattle.node.specs.Held.{Shaped, HeldContext, HeldProfile}
use Rattle.node.proofs.Fits.{apt_good, apt_limits, apt_few}
use Rattle.node.proofs.ClosedRecord.{closed_within}
use Rattle.node.proofs.FirstOf.{test_none, neither_none}
use Rattle.node.proofs.Causes.{closing_once, closing_limit}

-- ---- what is to be shown

-- d follows the context c, at the time t, with m events accepted
pub record Keeps (p : Profile) (t m : ℕ) (c d : Context) : Type 0 where
  pub sound : context_ok p.sets p.zone t m d ≡ true
  pub active : d.active ≡ c.active
  pub name : d.name ≡ c.name
  pub pdptype : d.pdptype ≡ c.pdptype
  pub address : d.address ≡ c.address
  pub shape : Shaped d

-- so it is as the types have it
pub keeps_held : {p : Profile} {t m : ℕ} {c d : Context} → Keeps p t m c d → HeldContext c → HeldContext d
keeps_held k w = record {
  shape = k.shape;
  id = rw k.name w.id;
  ggsn = rw k.name w.ggsn;
  pdptype = rw k.pdptype w.pdptype;
  address = rw k.address w.address;
}

-- a record within the rules, as the types have it: it reads back, and is short
pub record Fine (r : Record) : Type 0 where
  pub within : within r ≡ true
  pub shaped : shaped r ≡ true
  pub back : scdr.dec (scdr.enc r) ≡ Some r
  pub short : length (scdr.enc r) ≤ 1024

pub fine : (r : Record) → within r ≡ true → shaped r ≡ true → Fine r
fine r w s =
    let t = and_i (shaped r) (within r) (true_T (shaped r) s) (true_T (within r) w) in
    record { within = w; shaped = s; back = round_trip r t; short = at_most_1024 r t }

abbrev pub NextKeeps : Profile → ℕ → ℕ → Context → Option Context → Type 0
NextKeeps p t m c None = Unit {0}
NextKeeps p t m c (Some d) = Keeps p t m c d

pub record Leaves (p : Profile) (t m : ℕ) (c : Context) (s : Step Context Record) : Type 0 where
  pub next : NextKeeps p t m c s.next
  pub out : All Fine s.out

-- ---- a later clock

-- a context that does not hear
pub later_context : (l z clock accepted : ℕ) (c : Context) → context_ok l z clock accepted c ≡ true → (t m : ℕ) → clock ≤ t → accepted ≤ m
    → context_ok l z t m c ≡ true
later_context l z clock accepted c h t m since few =
    let g = good l z clock accepted c h in
    good_is l z t m c (record {
      flags = g.flags;
      imsi = g.imsi;
      apn = g.apn;
      set = g.set;
      closed = omega (arith, g.closed);
      current = later_sound z clock c.current g.current t since;
    })

pub same_keeps : (p : Profile) (gs : Settings) (t : ℕ) (c : Context) (a : SoundContext p gs t c) → Shaped c → Keeps p t (a.due.accepted + 1) c c
same_keeps p gs t c a w = record {
  sound = later_context p.sets p.zone a.due.clock a.due.accepted c a.sound t (a.due.accepted + 1) a.due.since (omega arith);
  active = refl;
  name = refl;
  pdptype = refl;
  address = refl;
  shape = w;
}

-- ---- one that hears

-- what is known where nothing closes
record Still (o : OpenRecord) (t : ℕ) (m : Message) : Type 0 where
  volume : (m.counts && O.volume_met (reported o m)) ≡ false
  changes : (is_some (change_of o m) && O.changes_met o) ≡ false

still : (o : OpenRecord) (t : ℕ) (m : Message) → closing o t m ≡ None → Still o t m
unfolding limit_met
still o t m e = by m.closes (λ y. absurd (none≢some (sym e ∙ closing_once o t m y))) (λ n. go (sym (closing_limit o t m n) ∙ e))
  where
    go : or_else (test (m.counts && O.volume_met (reported o m)) 16)
        (or_else (test (m.ticks && O.time_met t o) 17) (test (is_some (change_of o m) && O.changes_met o) 19)) ≡ None → Still o t m
    go i =
        let a = neither_none (m.counts && O.volume_met (reported o m)) 16 _ i in
        let b = neither_none (m.ticks && O.time_met t o) 17 _ a.1 in
        record { volume = a.0; changes = test_none (is_some (change_of o m) && O.changes_met o) 19 b.1 }

-- which change it is: to another QoS, or of the tariff
record Changes (o : OpenRecord) (m : Message) (k : ℕ) : Type 0 where
  small : k < 2
  right : (x : OpenRecord) → x.qos ≡ o.qos → (time : Stamp) → changes (running x k time) (qos_after o m) ≡ true

module _ (p : Profile) (gs : Settings) (t : ℕ) (c : Context) (a : SoundContext p gs t c) (w : Shaped c) (m : Message) (f : InRange m) (u : ReportFits m) where
  abbrev o : OpenRecord
  o = c.current

  range : qos_ok (qos_after o m) ≡ true
  unfolding qos_after
  range = by m.brings (λ y. rw y (f.qos y)) (λ n. rw n (apt_good p gs t c a).current.qos)

  -- the report leaves the record open
  report_sound : (m.counts && O.volume_met (reported o m)) ≡ false
      → SoundOpen p.zone t (reported o m)
  unfolding reported
  report_sound e =
      counted_sound p.zone a.due.clock o (apt_good p gs t c a).current t a.due.since m.up m.down
      (by m.counts (λ y. leb-false o.limits.volume (volume_of (used o) + (o.uplink + m.up) + (o.downlink + m.down)) (rw y at e)) (λ n.
      let z = f.uncounted n in
      omega (arith, z.0, z.1, (apt_good p gs t c a).current.volume)))

  keeps : (d : OpenRecord) (closed : ℕ) → closed ≤ c.closed + 1 → length d.containers ≡ 15
      → SoundOpen p.zone t d → Keeps p t (a.due.accepted + 1) c (going c d closed)
  keeps d closed l size s =
      let g = apt_good p gs t c a in
      record {
        sound = good_is p.sets p.zone t (a.due.accepted + 1) (going c d closed) (record {
          flags = g.flags;
          imsi = g.imsi;
          apn = g.apn;
          set = g.set;
          closed = omega (arith, g.closed);
          current = s;
        });
        active = refl;
        name = refl;
        pdptype = refl;
        address = refl;
        shape = record { imsi = w.imsi; apn = w.apn; containers = size };
      }

  used_few : length (used o) ≡ o.count
  used_few = used_length o (omega (arith, apt_few p gs t c a)) w.containers

  cut_ok : (k : ℕ) → k ≤ 2 → container_ok (running (reported o m) k (time_at p t)) ≡ true
  unfolding reported
  cut_ok k h =
      let g = (apt_good p gs t c a).current in
      let x = parts p a.due.profile in
      let l = apt_limits p gs t c a in
      running_ok (reported o m) k t p.zone h g.qos (omega (arith, g.volume, l.few_octets, u.up)) (omega (arith, g.volume, l.few_octets, u.down))
      a.due.until x.zone

  -- a change leaves it open: one container and one change more, both below the limit
  changed_size : (k : ℕ) → length (O.changed (reported o m) k (time_at p t) (qos_after o m)).containers ≡ 15
  unfolding reported
  changed_size k =
      padded_length (ended_all (reported o m) k (time_at p t))
      (omega (arith, length-append (used o) (running (reported o m) k (time_at p t) ∷ []), used_few, apt_few p gs t c a))

  -- where nothing closes
  goes_on_lem : (k : Option ℕ) → change_of o m ≡ k → closing o t m ≡ None
      → Keeps p t (a.due.accepted + 1) c (going c (goes_on p o t m k) c.closed)
  unfolding goes_on reported change_of qos_after
  goes_on_lem None i e = keeps (reported o m) c.closed (omega arith) (report_size w.containers) (report_sound (still o t m e).volume)
    where
      report_size : length o.containers ≡ 15 → length (reported o m).containers ≡ 15
      report_size l = l
  goes_on_lem (Some k) i e =
      let s = still o t m e in
      let h = changes_is k i in
      let below : o.changes + 1 < o.limits.changes = leb-false o.limits.changes (o.changes + 1) (rw i at s.changes) in
      keeps (O.changed (reported o m) k (time_at p t) (qos_after o m)) c.closed (omega arith) (changed_size k) (sound k h below (report_sound s.volume))
    where
      changes_is : (k : ℕ) → change_of o m ≡ Some k → Changes o m k
      changes_is k i =
          by m.brings
          (λ y. by (same_qos o.qos m.qos) (λ z. absurd (none≢some (rw (y, z) at i))) (λ z.
          let j : Some 0 ≡ Some k = rw (y, z) at i in
          let l : 0 ≡ k = cc in
          record { small = omega arith; right = λ x q time. rw (y, ← l, q, z) }))
          (λ y. by m.tariff (λ z.
          let j : Some 1 ≡ Some k = rw (y, z) at i in
          let l : 1 ≡ k = cc in
          record { small = omega arith; right = λ x q time. rw (y, ← l, q, qos_same o.qos o.qos refl) })
          (λ z. absurd (none≢some (rw (y, z) at i))))

      sound : (k : ℕ) → Changes o m k → o.changes + 1 < o.limits.changes → SoundOpen p.zone t (reported o m)
          → SoundOpen p.zone t (O.changed (reported o m) k (time_at p t) (qos_after o m))
      sound k h below s =
          changed_sound p.zone t (reported o m) s t (omega arith) used_few k (qos_after o m)
          (cut_ok k (omega (arith, h.small)))
          h.small range (h.right (reported o m) refl (time_at p t)) below

  -- where the record closes
  after_closing_lem : NextKeeps p t (a.due.accepted + 1) c (after_closing p gs c t m)
  unfolding after_closing
  after_closing_lem = go m.releases
    where
      go : (b : Bool) → NextKeeps p t (a.due.accepted + 1) c (cond b None (Some (going c (O.opened (time_at p t) (qos_after o m) (limits_of c.set gs.sets)) (c.closed + 1))))
      go true = tt
      go false =
          keeps (O.opened (time_at p t) (qos_after o m) (limits_of c.set gs.sets)) (c.closed + 1) (omega arith) (padded_length [] (omega arith))
          (opened_sound p.zone t (qos_after o m) (limits_of c.set gs.sets) range
          (limits_in_range p.sets gs.sets c.set a.due.sets (apt_good p gs t c a).set))

  next_keeps : NextKeeps p t (a.due.accepted + 1) c (hear p gs c t m).next
  unfolding hear hear_with
  next_keeps = go (closing o t m) refl
    where
      go : (k : Option ℕ) → closing o t m ≡ k → NextKeeps p t (a.due.accepted + 1) c (hear_with p gs c t m k).next
      go None e = goes_on_lem (change_of o m) refl e
      go (Some cause) e = after_closing_lem

  -- whatever it hears, what stands after it follows it
  pub heard_sound : {d : Context} → (hear p gs c t m).next ≡ Some d → Keeps p t (a.due.accepted + 1) c d
  heard_sound {d} e = go (hear p gs c t m).next next_keeps e
    where
      go : (x : Option Context) → NextKeeps p t (a.due.accepted + 1) c x → x ≡ Some d → Keeps p t (a.due.accepted + 1) c d
      go None k i = absurd (none≢some i)
      go (Some y) k i = let z : y ≡ d = cc in rw z at k

module _ (p : Profile) (gs : Settings) (t : ℕ) (c : Context) (a : SoundContext p gs t c) (w : HeldContext c) (h : HeldProfile p) (m : Message) (f : InRange m)
    (u : ReportFits m) where
  closed_shaped : (cause : ℕ) → shaped (closed_by p c t m cause) ≡ true
  unfolding closed_by record_of reported
  closed_shaped cause =
      let cs = ended_all (reported c.current m) 2 (time_at p t) in
      let v = used_length c.current (omega (arith, apt_few p gs t c a)) w.shape.containers in
      let n : length cs ≤ 15 = omega (arith, length-append (used c.current) (running (reported c.current m) 2 (time_at p t) ∷ []), v, apt_few p gs t c a) in
      shaped_is (closed_by p c t m cause) w.shape.apn (padded_length cs n) h.nodeid h.sgsn w.id w.ggsn w.pdptype w.address

  -- and what it writes keeps the rules of records
  pub out_fine : All Fine (hear p gs c t m).out
  unfolding hear hear_with
  out_fine = go (closing c.current t m) refl
    where
      go : (k : Option ℕ) → closing c.current t m ≡ k → All Fine (hear_with p gs c t m k).out
      go None e = tt
      go (Some cause) e = (fine (closed_by p c t m cause) (closed_within p gs t c a w.shape.containers m f u cause e) (closed_shaped cause), tt)

  pub leaves : Leaves p t (a.due.accepted + 1) c (hear p gs c t m)
  leaves = record { next = next_keeps p gs t c a w.shape m f u; out = out_fine }
