-- A context whose record is full: the record that closes, the context that goes on, and what is written.
use mathlib.Core.Path.{◌≡◌, refl, sym, ap, ◌∙◌}
use mathlib.Core.Bool.{true}
use mathlib.Core.List.{List, [], ◌∷◌, ◌++◌}
use Prim.Native.Nat.{ℕ, suc, ◌+◌, ◌-◌, ◌≤◌, ◌<◌}
use native.Mathlib.Omega.{arith}
use lib.Dec.{ltb}
use lib.ListN.{length, take, drop, set, length-append, length-drop, length-set, take-append-drop}
use lib.Seq.{length-take-le}
use borrow.Author.Tests.{le-leb, lt-leb, ltb-true}
use borrow.Rule.Slice.PartMut.{mid_of, put_mid}
use Rattle.format.proofs.Tests.{both, either}
use Rattle.container.specs.declared.Container.{Container}
use Rattle.container.specs.declared.OpenRecord.{OpenRecord}
use Rattle.container.specs.List.{padded, blanks}
use Rattle.container.specs.Open.{used, roomy, running}
use Rattle.container.specs.Open as O
use Rattle.container.proofs.Padded.{padded_used, padded_more}
use Rattle.limits.specs.declared.Limits.{Limits}
use Rattle.profile.specs.declared.Profile.{Profile}
use Rattle.context.specs.declared.Context.{Context}
use Rattle.scdr.specs.declared.Record.{Record}
use Rattle.scdr.specs.Rules.{within}
use Rattle.scdr.specs.Layout.{scdr}
use Rattle.std.specs.Prelude.{Result, Ok, Err}
use Rattle.ber.specs.declared.written.NotWritten.{NotWritten}
use Rattle.ber.proofs.Records.{Answers, answer_room, answer_long}
use Rattle.scdr.specs.Answers.{Writes}
use Rattle.scdr.proofs.Answering.{writes_answers}
use Rattle.node.specs.declared.Message.{Message}
use Rattle.node.specs.declared.Settings.{Settings}
use Rattle.node.specs.Meaning.{report}
use Rattle.node.specs.Hear.{reported, time_at, going, number_for, record_of, closed_by}
use Rattle.node.specs.Step.{marked_octets}
use Rattle.node.specs.Private.Range.{slot_next, slot_out, tried_of, Tries}
use Rattle.node.specs.Private.Full.{marked_in, Marks}
use Rattle.node.proofs.Parts.{part_is, put_is}

-- ---- the places of the containers

module _ (o : OpenRecord) (size : length o.containers ≡ 15) (r : roomy o ≡ true) where
  pub below : o.count < 15
  below = ltb-true o.count 15 (both (ltb o.count 15) (blanks (drop o.count o.containers)) r).0

  unused : blanks (drop o.count o.containers) ≡ true
  unused = (both (ltb o.count 15) (blanks (drop o.count o.containers)) r).1

  -- one container more
  placed : (x : Container) → set o.containers o.count x ≡ padded (used o ++ (x ∷ []))
  placed x = padded_more o.containers o.count x size below unused

  one_more : (x : Container) → o.count + 1 ≡ length (used o ++ (x ∷ []))
  one_more x =
      omega (arith, length-append (used o) (x ∷ []), length-take-le o.count o.containers (omega (arith, below)))

  -- none: every place is blank
  blank_places : o.count ≡ 0 → o.containers ≡ padded []
  blank_places e = padded_used o.containers 0 size (omega arith) (rw e at unused)

-- ---- what the code makes

module _ (p : Profile) (c : Context) (t : ℕ) (size : length c.current.containers ≡ 15) (r : roomy c.current ≡ true) where
  abbrev last : ℕ → ℕ → Container
  last up down = running (O.reported c.current up down) 2 (time_at p t)

  -- a record with other containers
  abbrev holding : Record → List Container → ℕ → Record
  holding r cs n = record {
    network = r.network;
    imsi = r.imsi;
    sgsn = r.sgsn;
    charging = r.charging;
    ggsn = r.ggsn;
    apn = r.apn;
    apnlen = r.apnlen;
    pdptype = r.pdptype;
    address = r.address;
    containers = cs;
    count = n;
    opening = r.opening;
    change = r.change;
    cause = r.cause;
    number = r.number;
    nodeid = r.nodeid;
    nodelen = r.nodelen;
  }

  pub full_record : {r : Record} (up down : ℕ) → r ≡ record_of p c c.current 16 (c.closed + 1)
      → holding r (set r.containers c.current.count (last up down)) (c.current.count + 1) ≡ closed_by p c t (report up down) 16
  unfolding closed_by record_of reported number_for
  full_record up down e =
      ap (λ (r : Record). holding r (set r.containers c.current.count (last up down)) (c.current.count + 1)) e
      ∙ rw (placed c.current size r (last up down), one_more c.current size r (last up down))

  pub goes_on_lem : (l : Limits) → c.current.count ≡ 0
      → going c (record {
        opening = time_at p t;
        qos = c.current.qos;
        limits = l;
        uplink = 0;
        downlink = 0;
        changes = 0;
        containers = c.current.containers;
        count = c.current.count;
      }) (c.closed + 1)
      ≡ going c (O.opened (time_at p t) c.current.qos l) (c.closed + 1)
  goes_on_lem l e =
      let b = blank_places c.current size r e in
      λ i. going c (record {
        opening = time_at p t;
        qos = c.current.qos;
        limits = l;
        uplink = 0;
        downlink = 0;
        changes = 0;
        containers = b i;
        count = e i;
      }) (c.closed + 1)

-- ---- a record after its mark

same_Ok : {m n : ℕ} → ◌≡◌ {A = Result ℕ NotWritten} (Ok m) (Ok n) → m ≡ n
same_Ok e = cc

pub marks_same : {r : Record} {b b' : List ℕ} {n : ℕ} → Marks r b b' n → length b' ≡ length b
unfolding marked_in
marks_same {r} {b} {b'} {n} m =
    let x = marked_octets r in
    either (length x) (length b)
    (λ l.
    let e = ap (λ (q : ℕ × List ℕ). length q.1) (rw (le-leb (length x) (length b) l) at m.is) in
    omega (arith, length-append x (drop (length x) b), length-drop (length x) b))
    (λ l. ap (λ (q : ℕ × List ℕ). length q.1) (rw (lt-leb (length x) (length b) l) at m.is))

module _ (r : Record) where
  abbrev x : List ℕ
  x = scdr.enc r

  marked_fits : (b : List ℕ) → 2 ≤ length b → length x ≤ length (drop 2 b)
      → marked_in r b ≡ (2 + length x, 0xC3 ∷ 0x5A ∷ (x ++ drop (length x) (drop 2 b)))
  unfolding marked_in marked_octets
  marked_fits [] h l = absurd (omega arith)
  marked_fits (y ∷ []) h l = absurd (omega arith)
  marked_fits (y ∷ (z ∷ b)) h l =
      let e : suc (suc (length x)) ≡ 2 + length x = omega arith in
      rw (le-leb (length (0xC3 ∷ 0x5A ∷ x)) (length (y ∷ (z ∷ b))) (omega arith)) (λ i. (e i, 0xC3 ∷ 0x5A ∷ (x ++ drop (length x) b)))

  marked_not : (b : List ℕ) → length b < 2 + length x → marked_in r b ≡ (0, b)
  unfolding marked_in marked_octets
  marked_not b h = rw (lt-leb (length (0xC3 ∷ 0x5A ∷ x)) (length b) (omega arith))

  mark_set : (b ys : List ℕ) → 2 ≤ length b → set (set (take 2 b ++ ys) 0 0xC3) 1 0x5A ≡ 0xC3 ∷ 0x5A ∷ ys
  mark_set [] ys h = absurd (omega arith)
  mark_set (y ∷ []) ys h = absurd (omega arith)
  mark_set (y ∷ (z ∷ b)) ys h = refl

  pub marks_short : {b : List ℕ} → length b < 2 → Marks r b b 0
  marks_short {b} h = record { is = sym (marked_not b (omega arith)) }

  module _ (b : List ℕ) {ys : List ℕ} {a : Result ℕ NotWritten} (h : 2 ≤ length b) (w : within r ≡ true)
      (y : Writes r (mid_of 2 (length b - 2) b) ys a) where
    answers : Answers true x (drop 2 b) ys a
    answers = rw (← w, ← part_is b ys 2 0 h) (writes_answers y)

    long : length (drop 2 b) ≡ length b - 2
    long = length-drop 2 b

    pub marks_full : {e : NotWritten} → a ≡ Err e → Marks r b (put_mid 2 (length b - 2) b ys) 0
    marks_full z =
        either (length x) (length (drop 2 b))
        (λ l. absurd (let e = (answer_room answers refl l).0 in cc))
        (λ l.
        let f : ys ≡ drop 2 b = (answer_long answers refl l).1 in
        let g : put_mid 2 (length b - 2) b ys ≡ b = put_is b ys 2 0 h ∙ rw f (take-append-drop 2 b) in
        record { is = (λ i. (0, g i)) ∙ sym (marked_not b (omega (arith, long))) })

    -- what was written
    record Written (n : ℕ) : Type 0 where
      room : length x ≤ length (drop 2 b)
      size : n ≡ length x
      buffer : ys ≡ x ++ drop (length x) (drop 2 b)

    written : {n : ℕ} → a ≡ Ok n → Written n
    written {n} z =
        either (length x) (length (drop 2 b))
        (λ l.
        let q = answer_room answers refl l in
        record { room = l; size = same_Ok (sym z ∙ q.0); buffer = q.1 })
        (λ l. absurd (let e = (answer_long answers refl l).0 in cc))

    pub marks_done : {n : ℕ} → a ≡ Ok n → Marks r b (set (set (put_mid 2 (length b - 2) b ys) 0 0xC3) 1 0x5A) (2 + n)
    marks_done {n} z =
        let d = written z in
        let f = d.size in
        let s : set (set (put_mid 2 (length b - 2) b ys) 0 0xC3) 1 0x5A ≡ 0xC3 ∷ 0x5A ∷ (x ++ drop (length x) (drop 2 b)) =
        ap (λ (q : List ℕ). set (set q 0 0xC3) 1 0x5A) (put_is b ys 2 n h) ∙ mark_set b ys h ∙ ap (λ (q : List ℕ). 0xC3 ∷ 0x5A ∷ q) d.buffer in
        record { is = (λ i. (2 + f i, s i)) ∙ sym (marked_fits b h d.room) }

    -- between the two octets of the mark
    pub marks_second : {n : ℕ} → a ≡ Ok n → 1 < length (set (put_mid 2 (length b - 2) b ys) 0 0xC3)
    marks_second z = omega (arith, h, length-set (set (put_mid 2 (length b - 2) b ys) 0 0xC3) 1 0x5A, marks_same (marks_done z))

    -- what was written ends within the buffer
    pub marks_within : {n : ℕ} → a ≡ Ok n → 2 + n ≤ length b
    marks_within z = let d = written z in omega (arith, long, d.room, d.size)

-- ---- so a slot that writes that record

some_octets : (r : Record) → 2 ≤ length (marked_octets r)
unfolding marked_octets
some_octets r = omega arith

module _ {p : Profile} {gs : Settings} {t : ℕ} {h : Message} {c : Context} {r : Record} {b b' : List ℕ} {n : ℕ} (e : slot_out p gs t h c ≡ marked_octets r) (m : Marks r b b' n)
  where
    pub tries_not : n ≡ 0 → Tries p gs t h c b b' 11 c 0
    unfolding tried_of marked_in
    tries_not z =
        either (length (marked_octets r)) (length b)
        (λ l.
        let f = ap (λ (q : ℕ × List ℕ). q.0) (rw (le-leb (length (marked_octets r)) (length b) l) at m.is) in
        absurd (omega (arith, some_octets r)))
        (λ l.
        let f : b' ≡ b = ap (λ (q : ℕ × List ℕ). q.1) (rw (lt-leb (length (marked_octets r)) (length b) l) at m.is) in
        record { is = rw (e, lt-leb (length (marked_octets r)) (length b) l) (λ i. (11, (c, (0, f i)))) })

    pub tries_closed : (n ≡ 0 → ⊥) → {d : Context} → d ≡ slot_next p gs t h c → Tries p gs t h c b b' 0 d n
    unfolding tried_of marked_in
    tries_closed z {d} q =
        either (length (marked_octets r)) (length b)
        (λ l.
        let f = rw (le-leb (length (marked_octets r)) (length b) l) at m.is in
        record { is = rw (e, le-leb (length (marked_octets r)) (length b) l) (λ i. (0, (q i, ((f i).0, (f i).1)))) })
        (λ l.
        let f = ap (λ (q : ℕ × List ℕ). q.0) (rw (lt-leb (length (marked_octets r)) (length b) l) at m.is) in absurd (z f))
