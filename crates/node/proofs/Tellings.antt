-- The loop over the pairs of a list: what was done of those before a pair, and what the pair does.
use mathlib.Core.Path.{◌≡◌, refl, sym, ap, ◌∙◌}
use mathlib.Core.Bool.{true, false, cond}
use mathlib.Core.List.{List, [], ◌∷◌, append-nil}
use Rattle.std.specs.Prelude.{None, Some}
use Prim.Native.Nat.{ℕ, suc, ◌+◌, ◌-◌, ◌*◌, ◌/◌, ◌^◌, ◌≤◌, ◌<◌}
use native.Mathlib.Omega.{arith}
use lib.Dec.{eqb}
use lib.ListN.{length, take, drop, get_or, length-append, length-drop, take-append-drop}
use lib.Seq.{drop-cons}
use borrow.Author.Tests.{le-leb, lt-leb, ne_eqb}
use borrow.Rule.Slice.PartMut.{mid_of, put_mid, same_len_mid}
use Rattle.format.proofs.Tests.{either}
use Rattle.container.specs.Open.{volume_of, used, volume_left}
use Rattle.container.specs.Open as O
use Rattle.profile.specs.declared.Profile.{Profile}
use Rattle.profile.specs.Profile.{profile_ok}
use Rattle.limits.specs.Sets.{sets_ok, limits_of}
use Rattle.limits.proofs.Ranges.{limits_hold}
use Rattle.context.specs.declared.Context.{Context}
use Rattle.context.specs.Sound.{context_ok}
use Rattle.history.specs.Table.{Step}
use Rattle.scdr.specs.declared.Record.{Record}
use Rattle.node.specs.declared.Message.{Message}
use Rattle.node.specs.declared.Settings.{Settings}
use Rattle.node.specs.Meaning.{report}
use Rattle.node.specs.Hear.{reported, qos_after, change_of, limit_met, closing, time_at, going, number_for, goes_on, record_of, closed_by, after_closing, hear}
use Rattle.node.specs.Sound.{latest, most_accepted}
use Rattle.node.specs.Step.{stood, marked_octets}
use Rattle.node.specs.Held.{Shaped}
use Rattle.node.specs.Batch.{pairs_of, one_by_one}
use Rattle.node.specs.Private.Premises.{SoundContext}
use Rattle.node.specs.Private.Range.{slot_next, slot_out, tried_of, Tries}
use Rattle.node.specs.Private.Pairs.{Seat, seat_at, seat_then, seat_step, counted, Listens, Tells}
use Rattle.node.specs.Private.Full.{Full, Marks}
use Rattle.node.proofs.Emits.{hear_closes, hear_on, octets_closes, octets_on, slot_active}
use Rattle.context.proofs.Sounds.{good}
use Rattle.node.proofs.Fits.{apt_grows}
use Rattle.node.proofs.ClosedRecord.{closed_within}
use Rattle.node.proofs.Parts.{part_is, put_is, front_is, rest_is, ends_within}
use Rattle.node.proofs.FullRecords.{tries_not, tries_closed, marks_same}
use Rattle.node.proofs.Brings.{report_in_range}
use Rattle.node.proofs.ContextKept.{Keeps, heard_sound}
use Rattle.node.proofs.Ones.{joined, joined_more, joined_stop, joined_end, joined_none}

-- ---- the pairs of a list, from one on

pub pairs_at : (vs : List ℕ) (k : ℕ) → k < length vs / 2 → pairs_of (drop (2 * k) vs)
    ≡ (get_or vs (2 * k) 0, get_or vs (2 * k + 1) 0) ∷ pairs_of (drop (2 * (k + 1)) vs)
unfolding pairs_of
pairs_at vs k h =
    let a = drop-cons vs (2 * k) 0 (omega arith) in
    let b = drop-cons vs (suc (2 * k)) 0 (omega arith) in
    let e : suc (2 * k) ≡ 2 * k + 1 = omega arith in
    let f : suc (2 * k + 1) ≡ 2 * (k + 1) = omega arith in
    rw (a, b, e, f)

short : (l : List ℕ) → length l ≤ 1 → pairs_of l ≡ []
unfolding pairs_of
short [] h = refl
short (x ∷ []) h = refl
short (x ∷ (y ∷ l)) h = absurd (omega arith)

pub pairs_end : (vs : List ℕ) (k : ℕ) → length vs / 2 ≤ k → pairs_of (drop (2 * k) vs) ≡ []
pairs_end vs k h = short (drop (2 * k) vs) (omega (arith, length-drop (2 * k) vs))

-- ---- what a slot answers

-- what comes of a slot that hears alone, by its answer
pub record Tried (p : Profile) (gs : Settings) (t : ℕ) (h : Message) (c : Context) (b b' : List ℕ) (d : Context) (w : ℕ) : Type 0 where
  pub next : d ≡ slot_next p gs t h c
  pub few : w ≤ length b'

module _ {p : Profile} {gs : Settings} {t : ℕ} {h : Message} {c : Context} {b b' : List ℕ} {a : ℕ} {d : Context} {w : ℕ} (y : Tries p gs t h c b b' a d w) where
  abbrev x : List ℕ
  x = slot_out p gs t h c

  pub tried_done : a ≡ 0 → Tried p gs t h c b b' d w
  unfolding tried_of
  tried_done z =
      either (length x) (length b)
      (λ l.
      let e = rw (le-leb (length x) (length b) l) at y.is in
      let f = ap (λ (r : ℕ × (Context × (ℕ × List ℕ))). r.1.1.0) e in
      let g = ap (λ (r : ℕ × (Context × (ℕ × List ℕ))). length r.1.1.1) e in
      record {
        next = ap (λ (r : ℕ × (Context × (ℕ × List ℕ))). r.1.0) e;
        few = omega (arith, f, g, length-append x (drop (length x) b));
      })
      (λ l. let e = rw (lt-leb (length x) (length b) l) at y.is in
      let f = ap (λ (r : ℕ × (Context × (ℕ × List ℕ))). r.0) e in absurd (omega arith))

  pub tried_same : length b' ≡ length b
  unfolding tried_of
  tried_same =
      either (length x) (length b)
      (λ l.
      let e = ap (λ (r : ℕ × (Context × (ℕ × List ℕ))). length r.1.1.1) (rw (le-leb (length x) (length b) l) at y.is) in
      omega (arith, length-append x (drop (length x) b), length-drop (length x) b))
      (λ l. ap (λ (r : ℕ × (Context × (ℕ × List ℕ))). length r.1.1.1) (rw (lt-leb (length x) (length b) l) at y.is))

-- ---- one pair

-- a context that hears at t, of a node that has accepted m events
pub record Sounds (p : Profile) (t m : ℕ) (c : Context) : Type 0 where
  pub clock : ℕ
  pub since : clock ≤ t
  pub active : c.active ≡ 1
  pub sound : context_ok p.sets p.zone clock m c ≡ true
  pub shape : Shaped c

-- all that is counted in its record, with so much more
abbrev pub volume : Context → ℕ → ℕ → ℕ
volume c up down = volume_of (used c.current) + (c.current.uplink + up) + (c.current.downlink + down)

-- the context with these in its counters
abbrev counting : Context → ℕ → ℕ → Context
counting c up down = going c (record {
  opening = c.current.opening;
  qos = c.current.qos;
  limits = c.current.limits;
  uplink = up;
  downlink = down;
  changes = c.current.changes;
  containers = c.current.containers;
  count = c.current.count;
}) c.closed

pub counted_more : (c : Context) (up down u d : ℕ) → counted (counted c up down) u d ≡ counted c (up + u) (down + d)
counted_more c up down u d =
    let a : c.current.uplink + up + u ≡ c.current.uplink + (up + u) = omega arith in
    let b : c.current.downlink + down + d ≡ c.current.downlink + (down + d) = omega arith in
    λ i. counting c (a i) (b i)

pub counted_none : (c : Context) → counted c 0 0 ≡ c
counted_none c =
    let a : c.current.uplink + 0 ≡ c.current.uplink = omega arith in
    let b : c.current.downlink + 0 ≡ c.current.downlink = omega arith in
    λ i. counting c (a i) (b i)

module _ (p : Profile) (gs : Settings) (t : ℕ) (ok : profile_ok p ≡ true) (sets : sets_ok p.sets gs.sets ≡ true) (until : t ≤ latest) where
  ready : {m : ℕ} {c : Context} → m < most_accepted → Sounds p t m c → SoundContext p gs t c
  ready {m} few s = record { due = record { clock = s.clock; accepted = m; profile = ok; sets = sets; since = s.since; until = until; few = few }; sound = s.sound }

  module _ (c : Context) (m up down : ℕ) (few : m < most_accepted) (s : Sounds p t m c) (u : up < 2 ^ 32) (d : down < 2 ^ 32) where
    abbrev h : Message
    h = report up down

    kept : {x : Context} → (hear p gs c t h).next ≡ Some x → Sounds p t (m + 1) x
    unfolding ready
    kept {x} e =
        let k : Keeps p t (m + 1) c x = heard_sound p gs t c (ready few s) s.shape h (report_in_range up down) (record { up = u; down = d }) e in
        record { clock = t; since = omega arith; active = k.active ∙ s.active; sound = k.sound; shape = k.shape }

    next_is : slot_next p gs t h c ≡ stood (hear p gs c t h).next
    next_is = (slot_active p gs t h c s.active).0

    -- below the limit nothing closes
    module _ (below : volume c up down < c.current.limits.volume) where
      open_on : closing c.current t h ≡ None
      unfolding closing limit_met change_of reported
      open_on = rw (lt-leb c.current.limits.volume (volume c up down) below)

      on_is : (hear p gs c t h).next ≡ Some (counted c up down)
      unfolding goes_on change_of reported
      on_is = ap (λ (z : Step Context Record). z.next) (hear_on p gs c t h open_on)

      pub on_kept : Sounds p t (m + 1) (counted c up down)
      on_kept = kept on_is

      pub on_tried : (b : List ℕ) → tried_of p gs t h c b ≡ (0, (counted c up down, (0, b)))
      unfolding tried_of
      on_tried b =
          let e : slot_out p gs t h c ≡ [] = (slot_active p gs t h c s.active).1 ∙ octets_on p gs c t h open_on in
          let f : slot_next p gs t h c ≡ counted c up down = next_is ∙ rw on_is in
          rw (e, f, le-leb 0 (length b) (omega arith))

    -- at the limit the record closes
    module _ (met : c.current.limits.volume ≤ volume c up down) where
      closes_now : closing c.current t h ≡ Some 16
      unfolding closing limit_met change_of reported
      closes_now = rw (le-leb c.current.limits.volume (volume c up down) met)

      after_is : (hear p gs c t h).next ≡ Some (going c (O.opened (time_at p t) c.current.qos (limits_of c.set gs.sets)) (c.closed + 1))
      unfolding after_closing qos_after
      after_is = ap (λ (z : Step Context Record). z.next) (hear_closes p gs c t h closes_now)

      pub closed_next : slot_next p gs t h c ≡ going c (O.opened (time_at p t) c.current.qos (limits_of c.set gs.sets)) (c.closed + 1)
      closed_next = next_is ∙ rw after_is

      pub closed_kept : {x : Context} → x ≡ slot_next p gs t h c → Sounds p t (m + 1) x
      closed_kept e = rw (e ∙ closed_next) (kept after_is)

      pub closed_empty : {x : Context} → x ≡ slot_next p gs t h c → volume x 0 0 ≡ 0
      unfolding volume_of
      closed_empty e = rw (e ∙ closed_next)

-- what the code hands back is what came of them
pub tells_so : {p : Profile} {gs : Settings} {clock accepted : ℕ} {c : Context} {t : ℕ} {vs b b' : List ℕ} {answer applied written a k n : ℕ} {d x y : Context}
    → Tells p gs clock accepted c t vs b b' answer applied d written → (a ≡ answer) × ((k ≡ applied) × ((x ≡ y) × (n ≡ written))) → y ≡ d
    → Tells p gs clock accepted c t vs b b' a k x n
tells_so w e q = rw (e.0, e.1.0, e.1.1.0, e.1.1.1, q) w

-- ---- the loop

-- The loop over the pairs vs, come to the pair k: last is the context as it was after the last closing, up and down what was reported since, left
-- what all of it leaves of the limit, at how many octets were written.
pub record Telling (p : Profile) (gs : Settings) (clock accepted : ℕ) (c : Context) (t : ℕ) (vs b out : List ℕ) (last : Context) (up down left at k : ℕ) : Type 0 where
  -- what is done of all pairs is what was done of those before k, and then what is done of the others
  pub rest : one_by_one (seat_step p gs t) (seat_at clock accepted t 0 c) (pairs_of vs) b
      ≡ joined k at (take at out) (one_by_one (seat_step p gs t) (seat_at clock accepted t k (counted last up down)) (pairs_of (drop (2 * k) vs)) (drop at out))
  pub few : accepted + k ≤ most_accepted
  pub now : Sounds p t (accepted + k) (counted last up down)
  -- its record has limits of its own
  pub left_is : left + volume last up down ≡ last.current.limits.volume
  pub within : at ≤ length out

-- the pair k, of 32-bit numbers, while fewer events were accepted than may be
pub record Due (vs : List ℕ) (accepted k : ℕ) : Type 0 where
  pub pair : k < length vs / 2
  pub few : accepted + k < most_accepted
  pub up : get_or vs (2 * k) 0 < 2 ^ 32
  pub down : get_or vs (2 * k + 1) 0 < 2 ^ 32

pub due_at : {vs : List ℕ} {accepted k : ℕ} → ((i : ℕ) → get_or vs i 0 < 2 ^ 32) → k < length vs / 2 → accepted + k < most_accepted → Due vs accepted k
due_at {vs} {accepted} {k} fit pair few = record { pair = pair; few = few; up = fit (2 * k); down = fit (2 * k + 1) }

module _ {p : Profile} {gs : Settings} {clock accepted : ℕ} {c : Context} {t : ℕ} (w : Listens p gs clock accepted c t) (vs b : List ℕ) where
  sounds_first : Sounds p t accepted c
  sounds_first = record { clock = clock; since = w.since; active = w.active; sound = w.sound; shape = w.shape }

  -- before the first pair
  pub telling_none : {left : ℕ} → left ≡ volume_left c.current → Telling p gs clock accepted c t vs b b c 0 0 left 0 0
  telling_none {left} e =
      let z : counted c 0 0 ≡ c = counted_none c in
      let g : accepted + 0 ≡ accepted = omega arith in
      let x = (good p.sets p.zone clock accepted c w.sound).current.volume in
      record {
        rest = rw z (joined_none _);
        few = omega (arith, w.few);
        now = rw (z, g) sounds_first;
        left_is = omega (arith, x);
        within = omega arith;
      }

module _ {p : Profile} {gs : Settings} {clock accepted : ℕ} {c : Context} {t : ℕ} (w : Listens p gs clock accepted c t) {vs b out : List ℕ} {last : Context}
    {up down left at k : ℕ} (s : Telling p gs clock accepted c t vs b out last up down left at k) where
  abbrev here : Context
  here = counted last up down

  abbrev seat : Seat
  seat = seat_at clock accepted t k here

  -- the limits of its record
  few_octets : last.current.limits.volume ≤ 10 ^ 12
  few_octets = (limits_hold last.current.limits (good p.sets p.zone s.now.clock (accepted + k) here s.now.sound).current.limits).few_octets

  -- what is counted can be added to the context
  pub counters_fit : (last.current.uplink + up < 2 ^ 64) × (last.current.downlink + down < 2 ^ 64)
  counters_fit = (omega (arith, s.left_is, few_octets), omega (arith, s.left_is, few_octets))

  -- after the last pair
  pub telling_end : length vs / 2 ≤ k → Tells p gs clock accepted c t vs b out 0 k here at
  telling_end h = record {
    is = sym (s.rest ∙ rw (pairs_end vs k h) (joined_end k at (take at out) (seat_step p gs t) seat (drop at out) ∙ rw (take-append-drop at out)));
    few = s.few;
  }

  abbrev u : ℕ
  u = get_or vs (2 * k) 0

  abbrev d : ℕ
  d = get_or vs (2 * k + 1) 0

  abbrev others : List (ℕ × ℕ)
  others = pairs_of (drop (2 * (k + 1)) vs)

  rest_at : k < length vs / 2 → one_by_one (seat_step p gs t) (seat_at clock accepted t 0 c) (pairs_of vs) b
      ≡ joined k at (take at out) (one_by_one (seat_step p gs t) seat ((u, d) ∷ others) (drop at out))
  rest_at h = s.rest ∙ rw (pairs_at vs k h)

  -- so many were accepted already
  step_7 : most_accepted ≤ accepted + k → seat_step p gs t seat (u, d) (drop at out) ≡ (7, (seat, (0, drop at out)))
  unfolding seat_step
  step_7 l = rw (le-leb most_accepted (accepted + k) l)

  pub telling_7 : k < length vs / 2 → most_accepted ≤ accepted + k → Tells p gs clock accepted c t vs b out 7 k here at
  telling_7 h l = record {
    is = sym (rest_at h ∙ joined_stop k at (take at out) (seat_step p gs t) others (λ z. omega arith) (step_7 l) ∙ rw (take-append-drop at out));
    few = s.few;
  }

  module _ (due : Due vs accepted k) where
    clock_then : t ≡ cond (eqb (k + 1) 0) clock t
    clock_then = rw (ne_eqb (k + 1) 0 (λ z. omega arith))

    accepted_then : accepted + k + 1 ≡ accepted + (k + 1)
    accepted_then = omega arith

    -- the pair can be added to what is counted
    pub sums_fit : (up + u < 2 ^ 64) × (down + d < 2 ^ 64)
    sums_fit = (omega (arith, s.left_is, few_octets, due.up), omega (arith, s.left_is, few_octets, due.down))

    -- below the limit
    module _ (below : u + d < left) where
      not_met : volume here u d < here.current.limits.volume
      not_met = omega (arith, s.left_is)

      step_on : seat_step p gs t seat (u, d) (drop at out) ≡ (0, (seat_at clock accepted t (k + 1) (counted last (up + u) (down + d)), (0, drop at out)))
      unfolding seat_step seat_then
      step_on =
          rw (
            lt-leb most_accepted (accepted + k) due.few,
            on_tried p gs t w.profile w.sets w.until here (accepted + k) u d due.few s.now due.up due.down not_met (drop at out),
          )
          (λ i. (0, (record { clock = clock_then i; accepted = accepted_then i; context = counted_more last up down u d i }, (0, drop at out))))

      pub telling_on : Telling p gs clock accepted c t vs b out last (up + u) (down + d) (left - (u + d)) at (k + 1)
      telling_on =
          let e : at + 0 ≡ at = omega arith in
          record {
            rest = rest_at due.pair ∙ joined_more k at (take at out) (seat_step p gs t) others step_on ∙ rw (append-nil (take at out), e);
            few = omega (arith, due.few);
            now = rw (counted_more last up down u d, accepted_then) at
                (on_kept p gs t w.profile w.sets w.until here (accepted + k) u d due.few s.now due.up due.down not_met);
            left_is = omega (arith, s.left_is);
            within = s.within;
          }

    -- at the limit
    module _ (met : left ≤ u + d) where
      over : here.current.limits.volume ≤ volume here u d
      over = omega (arith, s.left_is)

      apt : SoundContext p gs t here
      apt = ready p gs t w.profile w.sets w.until due.few s.now

      closes : closing here.current t (report u d) ≡ Some 16
      closes = closes_now p gs t w.profile w.sets w.until here (accepted + k) u d due.few s.now due.up due.down over

      -- the record, as the code makes it
      abbrev full : Record
      full = closed_by p last t (report (up + u) (down + d)) 16

      full_is : closed_by p here t (report u d) 16 ≡ full
      unfolding closed_by record_of reported
      full_is =
          ap (λ (x : Context). record_of p last (O.ended x.current 2 (time_at p t)) 16 (number_for last.closed false))
          (counted_more last up down u d)

      pub full_ready : Full p last t (up + u) (down + d)
      full_ready =
          let g = apt_grows p gs t here apt in
          record {
            can = record {
              uplink = omega (arith, s.left_is, few_octets, due.up);
              downlink = omega (arith, s.left_is, few_octets, due.down);
              place = g.place;
              closed = g.closed;
            };
            within = rw full_is at
                (closed_within p gs t here apt s.now.shape.containers (report u d) (report_in_range u d)
                (record { up = due.up; down = due.down }) 16 closes);
          }

      -- what came of the slot
      module _ {ys : List ℕ} {a : ℕ} {x : Context} {n : ℕ} (y : Tries p gs t (report u d) here (mid_of at (length out - at) out) ys a x n) where
        tried_is : tried_of p gs t (report u d) here (drop at out) ≡ (a, (x, (n, ys)))
        tried_is = rw (← part_is out ys at n s.within) (sym y.is)

        step_11 : (a ≡ 0 → ⊥) → seat_step p gs t seat (u, d) (drop at out) ≡ (a, (seat, (0, ys)))
        unfolding seat_step seat_then
        step_11 z = rw (lt-leb most_accepted (accepted + k) due.few, tried_is, ne_eqb a 0 z)

        stopped_then : (a ≡ 0 → ⊥) → Tells p gs clock accepted c t vs b (put_mid at (length out - at) out ys) a k here at
        stopped_then z = record {
          is = sym (rest_at due.pair ∙ joined_stop k at (take at out) (seat_step p gs t) others z (step_11 z) ∙ rw (← put_is out ys at n s.within));
          few = s.few;
        }

        module _ (z : a ≡ 0) where
          step_closed : seat_step p gs t seat (u, d) (drop at out) ≡ (0, (seat_at clock accepted t (k + 1) (counted x 0 0), (n, ys)))
          unfolding seat_step seat_then
          step_closed =
              let e = sym (counted_none x) in
              rw (lt-leb most_accepted (accepted + k) due.few, tried_is, z)
              (λ i. (0, (record { clock = clock_then i; accepted = accepted_then i; context = e i }, (n, ys))))

          closed_then : Telling p gs clock accepted c t vs b (put_mid at (length out - at) out ys) x 0 0 x.current.limits.volume (at + n) (k + 1)
          closed_then =
              let q = tried_done y z in
              let v = closed_kept p gs t w.profile w.sets w.until here (accepted + k) u d due.few s.now due.up due.down over q.next in
              let o = closed_empty p gs t w.profile w.sets w.until here (accepted + k) u d due.few s.now due.up due.down over q.next in
              record {
                rest = rest_at due.pair ∙ joined_more k at (take at out) (seat_step p gs t) others step_closed
                    ∙ rw (front_is out ys at n s.within q.few, rest_is out ys at n s.within q.few);
                few = omega (arith, due.few);
                now = rw (counted_none x, ← accepted_then) v;
                left_is = omega (arith, o);
                within = ends_within out ys at n s.within q.few
                    (tried_same y ∙ ap length (part_is out ys at n s.within) ∙ length-drop at out);
              }

      -- as the code finds it: the record was written, or there was no room
      module _ {ys : List ℕ} {n : ℕ} (m : Marks full (mid_of at (length out - at) out) ys n) where
        out_is : slot_out p gs t (report u d) here ≡ marked_octets full
        out_is = (slot_active p gs t (report u d) here s.now.active).1 ∙ octets_closes p gs here t (report u d) closes ∙ ap marked_octets full_is

        next_then : slot_next p gs t (report u d) here ≡ going last (O.opened (time_at p t) last.current.qos (limits_of last.set gs.sets)) (last.closed + 1)
        next_then =
            closed_next p gs t w.profile w.sets w.until here (accepted + k) u d due.few s.now due.up due.down over

        pub telling_11 : n ≡ 0 → Tells p gs clock accepted c t vs b (put_mid at (length out - at) out ys) 11 k here at
        telling_11 z = stopped_then (tries_not out_is m z) (λ e. omega arith)

        pub telling_closed : (n ≡ 0 → ⊥) → {x : Context} → x ≡ going last (O.opened (time_at p t) last.current.qos (limits_of last.set gs.sets)) (last.closed + 1)
            → Telling p gs clock accepted c t vs b (put_mid at (length out - at) out ys) x 0 0 x.current.limits.volume (at + n) (k + 1)
        telling_closed z e = closed_then (tries_closed out_is m z (e ∙ sym next_then)) refl

        -- the buffer is as long as it was
        pub telling_same : length (put_mid at (length out - at) out ys) ≡ length out
        telling_same = same_len_mid at (length out - at) out ys (marks_same m)
