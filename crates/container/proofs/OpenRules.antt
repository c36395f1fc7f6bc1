-- The rules of an open record in a sound node: each by itself, how the code finds them, and that a report, a change, a closing and time leave
-- them as they must be.
use mathlib.Core.Path.{◌≡◌, refl, sym, ap, ◌∙◌}
use mathlib.Core.Bool.{Bool, true, false, ◌&&◌, and-true, and-false}
use mathlib.Core.List.{[], ◌∷◌}
use Prim.Native.Nat.{ℕ, ◌+◌, ◌-◌, ◌^◌, ◌≤◌, ◌<◌}
use native.Mathlib.Omega.{arith}
use lib.Dec.{leb, ltb, eqb}
use lib.ListN.{length, drop, set, length-append}
use lib.Seq.{length-take-le}
use borrow.Author.Tests.{ltb-true, leb-true, leb-false, eqb-true, le-leb, lt-leb, lt-ltb, eq-eqb}
use Rattle.format.proofs.Tests.{both, by}
use Rattle.calendar.specs.declared.Stamp.{Stamp}
use Rattle.calendar.specs.Stamp.{stamp_ok}
use Rattle.limits.specs.declared.Limits.{Limits}
use Rattle.limits.specs.Limits.{limits_ok, blank_limits}
use Rattle.limits.proofs.Ranges.{limits_hold, blank_limits_lem}
use Rattle.container.specs.declared.Qos.{Qos}
use Rattle.container.specs.declared.Container.{Container}
use Rattle.container.specs.declared.OpenRecord.{OpenRecord}
use Rattle.container.specs.Qos.{qos_ok, same_qos, no_qos}
use Rattle.container.specs.Container.{container_ok}
use Rattle.container.specs.List.{changes, list_ok, no_containers, padded, blanks, is_blank}
use Rattle.container.specs.Open.{used, opened, no_open, reported, running, ended_all, changed, volume_of, open_ok, volume_met}
use Rattle.container.specs.Open.{unused_ok, count_ok, containers_ok, volume_ok, sound_open, blank_open}
use Rattle.container.specs.Private.Held.{held_ok}
use Rattle.container.proofs.Formats.{same_qos_lem}
use Rattle.container.proofs.Padded.{blanks_are, take_padded, padded_rest, padded_more}
use Rattle.container.proofs.Opens.{below_left, volume_more, open_none, open_later, open_more, open_closes, open_since}

-- ---- the rules one by one

pub record SoundOpen (z clock : ℕ) (o : OpenRecord) : Type 0 where
  pub limits : limits_ok o.limits ≡ true
  pub qos : qos_ok o.qos ≡ true
  pub unused : blanks (drop o.count o.containers) ≡ true
  pub count : o.count ≡ o.changes
  pub changes : o.changes < o.limits.changes
  pub zone : o.opening.zone ≡ z
  pub containers : open_ok z o.opening.seconds o.qos clock (used o) ≡ true
  pub volume : volume_of (used o) + o.uplink + o.downlink < o.limits.volume

module _ (z clock : ℕ) (o : OpenRecord) where
  pub sound_open_lem : sound_open z clock o ≡ true → SoundOpen z clock o
  unfolding sound_open unused_ok count_ok containers_ok volume_ok
  sound_open_lem h =
      let l = limits_ok o.limits in
      let q = qos_ok o.qos in
      let u = unused_ok o in
      let n = count_ok o in
      let k = containers_ok z clock o in
      let h₄ = both (l && q && u && n && k) (volume_ok o) h in
      let h₃ = both (l && q && u && n) k h₄.0 in
      let h₂ = both (l && q && u) n h₃.0 in
      let h₁ = both (l && q) u h₂.0 in
      let h₀ = both l q h₁.0 in
      let n₁ = both (eqb o.count o.changes) (ltb o.changes o.limits.changes) h₂.1 in
      let k₁ = both (eqb o.opening.zone z) (open_ok z o.opening.seconds o.qos clock (used o)) h₃.1 in
      record {
        limits = h₀.0;
        qos = h₀.1;
        unused = h₁.1;
        count = eqb-true o.count o.changes n₁.0;
        changes = ltb-true o.changes o.limits.changes n₁.1;
        zone = eqb-true o.opening.zone z k₁.0;
        containers = k₁.1;
        volume = ltb-true (volume_of (used o) + o.uplink + o.downlink) o.limits.volume h₄.1;
      }

  pub sound_open_is : SoundOpen z clock o → sound_open z clock o ≡ true
  unfolding sound_open unused_ok count_ok containers_ok volume_ok
  sound_open_is g =
      rw (
        g.limits,
        g.qos,
        g.unused,
        eq-eqb o.count o.changes g.count,
        lt-ltb o.changes o.limits.changes g.changes,
        eq-eqb o.opening.zone z g.zone,
        g.containers,
        lt-ltb (volume_of (used o) + o.uplink + o.downlink) o.limits.volume g.volume,
      )

-- ---- how the code finds them

-- what is left of the limit for the containers, once the running one is spent, suffices for them
module _ (o : OpenRecord) where
  abbrev volume : ℕ
  volume = o.limits.volume

  volume_left_lem : volume_ok o ≡ ltb (volume_of (used o)) (volume - o.uplink - o.downlink)
  unfolding volume_ok
  volume_left_lem =
      let e : volume_of (used o) + o.uplink + o.downlink ≡ volume_of (used o) + (o.uplink + o.downlink) = omega arith in
      ap (λ (x : ℕ). ltb x volume) e ∙ below_left (volume_of (used o)) o.uplink o.downlink volume

  joined : (m q n l z k u v : Bool) → (m && q && n && l && z && (k && u && v)) ≡ (m && q && u && (n && l) && (z && k) && v)
  joined false q n l z k u v = refl
  joined true false n l z k u v = refl
  joined true true false l z k true v = refl
  joined true true false l z k false v = refl
  joined true true true false z k true v = refl
  joined true true true false z k false v = refl
  joined true true true true false k true v = refl
  joined true true true true false k false v = refl
  joined true true true true true k true v = ap (λ (b : Bool). b && v) (and-true k)
  joined true true true true true k false v = ap (λ (b : Bool). b && v) (and-false k)

  pub rules_found : (z clock : ℕ) {m q r : Bool} {x y : ℕ} → m ≡ limits_ok o.limits → q ≡ qos_ok o.qos → x ≡ volume - o.uplink → y ≡ x - o.downlink
      → r ≡ held_ok z o.opening.seconds o.qos clock y o.count o.containers
      → (m && q && eqb o.count o.changes && ltb o.changes o.limits.changes && eqb o.opening.zone z && r) ≡ sound_open z clock o
  unfolding held_ok sound_open unused_ok count_ok containers_ok
  rules_found z clock m a b d e =
      rw (m, a, e, d, b, volume_left_lem)
      (joined (limits_ok o.limits) (qos_ok o.qos) (eqb o.count o.changes) (ltb o.changes o.limits.changes) (eqb o.opening.zone z)
      (open_ok z o.opening.seconds o.qos clock (used o)) (blanks (drop o.count o.containers))
      (ltb (volume_of (used o)) (volume - o.uplink - o.downlink)))

  -- what is left of a limit that is met is no more than the last counter
  pub limit_met_lem : {a b : ℕ} → a ≡ volume - volume_of (used o) → b ≡ a - o.uplink → leb b o.downlink ≡ volume_met o
  limit_met_lem {a} {b} p q =
      let sum = volume_of (used o) + o.uplink + o.downlink in
      by (leb volume sum)
      (λ t. rw t (le-leb b o.downlink (omega (arith, leb-true volume sum t))))
      (λ t. rw t (lt-leb b o.downlink (omega (arith, leb-false volume sum t))))

-- ---- a slot that is free holds none

pub is_blank_lem : blank_open no_open ≡ true
unfolding blank_open blanks is_blank same_qos no_containers blank_limits
is_blank_lem = refl

pub blank_open_lem : (o : OpenRecord) → length o.containers ≡ 15 → blank_open o ≡ true → o ≡ no_open
unfolding blank_open
blank_open_lem o size h =
    let a₁ = eqb o.opening.seconds 0 in
    let a₂ = a₁ && eqb o.opening.zone 0 in
    let a₃ = a₂ && same_qos o.qos no_qos in
    let a₃' = a₃ && blank_limits o.limits in
    let a₄ = a₃' && eqb o.uplink 0 in
    let a₅ = a₄ && eqb o.downlink 0 in
    let a₆ = a₅ && eqb o.changes 0 in
    let a₇ = a₆ && blanks o.containers in
    let h₇ = both a₇ (eqb o.count 0) h in
    let h₆ = both a₆ (blanks o.containers) h₇.0 in
    let h₅ = both a₅ (eqb o.changes 0) h₆.0 in
    let h₄ = both a₄ (eqb o.downlink 0) h₅.0 in
    let h₃ = both a₃' (eqb o.uplink 0) h₄.0 in
    let h₃' = both a₃ (blank_limits o.limits) h₃.0 in
    let h₂ = both a₂ (same_qos o.qos no_qos) h₃'.0 in
    let h₁ = both a₁ (eqb o.opening.zone 0) h₂.0 in
    let seconds = eqb-true o.opening.seconds 0 h₁.0 in
    let zone = eqb-true o.opening.zone 0 h₁.1 in
    let qos = same_qos_lem o.qos no_qos h₂.1 in
    let none = blank_limits_lem o.limits h₃'.1 in
    let uplink = eqb-true o.uplink 0 h₃.1 in
    let downlink = eqb-true o.downlink 0 h₄.1 in
    let changes = eqb-true o.changes 0 h₅.1 in
    let containers : o.containers ≡ no_containers 15 = blanks_are o.containers h₆.1 ∙ ap no_containers size in
    let count = eqb-true o.count 0 h₇.1 in
    λ i. record {
      opening = record { seconds = seconds i; zone = zone i };
      qos = qos i;
      limits = none i;
      uplink = uplink i;
      downlink = downlink i;
      changes = changes i;
      containers = containers i;
      count = count i;
    }

-- ---- what becomes of it

module _ (z clock : ℕ) (o : OpenRecord) (g : SoundOpen z clock o) (t : ℕ) (since : clock ≤ t) where
  -- later, with other counters
  pub counted_sound : (up down : ℕ) → volume_of (used o) + (o.uplink + up) + (o.downlink + down) < o.limits.volume → SoundOpen z t (reported o up down)
  counted_sound up down v = record {
    limits = g.limits;
    qos = g.qos;
    unused = g.unused;
    count = g.count;
    changes = g.changes;
    zone = g.zone;
    containers = open_later z o.opening.seconds o.qos clock (used o) g.containers t since;
    volume = v;
  }

  pub later_sound : SoundOpen z t o
  later_sound = record {
    limits = g.limits;
    qos = g.qos;
    unused = g.unused;
    count = g.count;
    changes = g.changes;
    zone = g.zone;
    containers = open_later z o.opening.seconds o.qos clock (used o) g.containers t since;
    volume = g.volume;
  }

  -- a change leaves it open: one container and one change more, both below the limit
  pub changed_sound : (size : length (used o) ≡ o.count) (k : ℕ) (q : Qos) → container_ok (running o k (record { seconds = t; zone = z })) ≡ true → k < 2
      → qos_ok q ≡ true → changes (running o k (record { seconds = t; zone = z })) q ≡ true → o.changes + 1 < o.limits.changes
      → SoundOpen z t (changed o k (record { seconds = t; zone = z }) q)
  changed_sound size k q ok h range e below =
      let x = running o k (record { seconds = t; zone = z }) in
      let cs = ended_all o k (record { seconds = t; zone = z }) in
      record {
        limits = g.limits;
        qos = range;
        unused = padded_rest cs;
        count = omega (arith, length-append (used o) (x ∷ []), size, g.count);
        changes = below;
        zone = g.zone;
        containers = rw (take_padded cs)
            (open_more z o.opening.seconds o.qos clock (used o) g.containers x ok refl refl since h q t (omega arith) e);
        volume = rw (take_padded cs, volume_more x (used o)) (omega (arith, g.volume));
      }

  -- the record closes: its list keeps the rules of records
  pub closed_list : length (used o) ≤ 14 → (up down : ℕ) → container_ok (running (reported o up down) 2 (record { seconds = t; zone = z })) ≡ true
      → list_ok o.opening (ended_all (reported o up down) 2 (record { seconds = t; zone = z })) ≡ true
  closed_list few up down ok =
      let x = running (reported o up down) 2 (record { seconds = t; zone = z }) in
      open_closes o.opening.zone o.opening.seconds o.qos clock (used o) (rw g.zone g.containers) x ok refl (sym g.zone) since refl few

  pub opening_ok : t ≤ 3155759999 → z ≤ 1560 → stamp_ok o.opening ≡ true
  unfolding stamp_ok
  opening_ok until zone =
      let s = open_since z o.opening.seconds o.qos clock (used o) g.containers in
      rw (lt-ltb o.opening.seconds 3155760000 (omega (arith, s)), g.zone, le-leb z 1560 zone)

-- the running container, ended now
pub running_ok : (o : OpenRecord) (k t z : ℕ) → k ≤ 2 → qos_ok o.qos ≡ true → o.uplink < 2 ^ 40 → o.downlink < 2 ^ 40 → t ≤ 3155759999 → z ≤ 1560
    → container_ok (running o k (record { seconds = t; zone = z })) ≡ true
unfolding container_ok stamp_ok
running_ok o k t z h q u d l w =
    rw (q, lt-ltb o.uplink (2 ^ 40) u, lt-ltb o.downlink (2 ^ 40) d, le-leb k 2 h, lt-ltb t 3155760000 (omega arith), le-leb z 1560 w)

-- the next record, with nothing counted, under limits in range
pub opened_sound : (z t : ℕ) (q : Qos) (l : Limits) → qos_ok q ≡ true → limits_ok l ≡ true → SoundOpen z t (opened (record { seconds = t; zone = z }) q l)
unfolding volume_of
opened_sound z t q l range ok =
    let k = limits_hold l ok in
    record {
      limits = ok;
      qos = range;
      unused = padded_rest [];
      count = refl;
      changes = k.some_changes;
      zone = refl;
      containers = open_none z t q t (omega arith);
      volume = k.some_octets;
    }

-- ---- one container more, in its array

pub used_length : (o : OpenRecord) → o.count ≤ 15 → length o.containers ≡ 15 → length (used o) ≡ o.count
used_length o h l = length-take-le o.count o.containers (omega arith)

module _ (o : OpenRecord) (few : o.count < 15) (unused : blanks (drop o.count o.containers) ≡ true) (l : length o.containers ≡ 15) where
  pub places : (k : ℕ) (now : Stamp) {x : Container} → x ≡ running o k now → set o.containers o.count x ≡ padded (ended_all o k now)
  places k now e =
      ap (λ (x : Container). set o.containers o.count x) e ∙ padded_more o.containers o.count (running o k now) l few unused

  pub more : (k : ℕ) (now : Stamp) → o.count + 1 ≡ length (ended_all o k now)
  more k now =
      let u = used_length o (omega arith) l in
      sym (length-append (used o) (running o k now ∷ []) ∙ ap (λ (n : ℕ). n + 1) u)
