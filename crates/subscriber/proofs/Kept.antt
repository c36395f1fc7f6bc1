-- A subscriber that hears something stays as it must be, and the record that it closes is within the rules.
use mathlib.Core.Path.{◌≡◌, refl, sym}
use mathlib.Core.Bool.{Bool, true, false, not, cond, ◌||◌}
use mathlib.Core.List.{List, ◌++◌}
use Prim.Native.Nat.{ℕ, ◌+◌, ◌-◌, ◌^◌, ◌≤◌, ◌<◌}
use native.Mathlib.Omega.{arith}
use lib.Dec.{leb, eqb}
use lib.ListN.{length, drop}
use borrow.Author.Tests.{leb-true, leb-false, eqb-true, eqb-false, le-leb, lt-ltb, eq-eqb, ne_eqb}
use Rattle.format.proofs.Tests.{by}
use Rattle.ber.specs.Imsi.{imsi_ok}
use Rattle.calendar.specs.Stamp.{stamp_ok}
use Rattle.profile.specs.declared.Profile.{Profile}
use Rattle.profile.specs.Profile.{profile_ok}
use Rattle.profile.proofs.Ranges.{parts}
use Rattle.mcdr.specs.declared.Place.{Place}
use Rattle.mcdr.specs.Change.{same_place}
use Rattle.mcdr.specs.Changes.{last_time}
use Rattle.mcdr.specs.Rules.{detach, cause_ok, full_ok, closing_ok, number_ok, within}
use Rattle.mcdr.proofs.Views.{within_is, places_are}
use Rattle.subscriber.specs.declared.Subscriber.{Subscriber}
use Rattle.subscriber.specs.declared.Notice.{Notice}
use Rattle.subscriber.specs.declared.Notice.TheVariants.{Moved, Managed, Detached}
use Rattle.subscriber.specs.Subscriber.{used, place_of, taken}
use Rattle.subscriber.specs.Sound.{slot_ok}
use Rattle.subscriber.specs.Hear.{opened, listed, number_for, record_of, fifteenth, closes_with, hear, notice_ok}
use Rattle.subscriber.specs.Tell.{stood, all_within, able, octets_of, told_of}
use Rattle.subscriber.proofs.Sounds.{Open, open_since, open_later, open_few, opened_sound, listed_last, listed_sound}
use Rattle.subscriber.proofs.Sounds.{Good, taken_good, good_slot, blank_ok, later_good}

-- ---- the number

detached_number : (closed cause : ℕ) → closed < 10 ^ 15 → detach cause ≡ true → number_ok cause (number_for closed true) ≡ true
unfolding number_ok number_for
detached_number closed cause few d =
    by (eqb closed 0) (λ e. rw (e, d))
    (λ e. rw (e, d, le-leb (closed + 1) (10 ^ 15) (omega arith), ne_eqb (closed + 1) 1 (λ z. eqb-false closed 0 e (omega arith))))

closing_number : (closed cause : ℕ) → closed < 10 ^ 15 → detach cause ≡ false → number_ok cause (number_for closed false) ≡ true
unfolding number_ok number_for
closing_number closed cause few d = rw (d, le-leb (closed + 1) (10 ^ 15) (omega arith), le-leb 1 (closed + 1) (omega arith))

-- ---- the record that closes

module _ (p : Profile) (profile : profile_ok p ≡ true) (t : ℕ) (until : t ≤ 3155759999) where
  record_within : (s : Subscriber) (cause : ℕ) (detached : Bool) → imsi_ok s.imsi ≡ true → Open 15 p.zone t s → cause_ok cause ≡ true
      → full_ok cause s.count ≡ true
      → (not (eqb cause 19) || eqb t (last_time s.opening.seconds (used s))) ≡ true
      → number_ok cause (number_for s.closed detached) ≡ true
      → within (record_of p s t cause detached) ≡ true
  unfolding record_of closing_ok stamp_ok
  record_within s cause detached imsi o known full closing number =
      let f = parts p profile in
      let since = open_since o in
      let r = record_of p s t cause detached in
      let e : s.opening.seconds + (t - s.opening.seconds) ≡ t = omega arith in
      within_is r (record {
        imsi = imsi;
        opening = rw (lt-ltb s.opening.seconds 3155760000 (omega arith), o.zone, le-leb p.zone 1560 f.zone);
        list = places_are r (record { most = o.count; list = o.changes; rest = o.unused });
        cause = known;
        full = full;
        closing = rw (e, le-leb (last_time s.opening.seconds (used s)) t o.last, closing, le-leb t 3155759999 until);
        number = number;
        node = f.node;
      })

-- ---- what a detach may close with is no cause of a full record

detach_known : (cause : ℕ) → detach cause ≡ true → cause_ok cause ≡ true
unfolding cause_ok
detach_known cause d = rw d

detach_other : (cause : ℕ) → detach cause ≡ true → eqb cause 19 ≡ false
unfolding detach
detach_other cause d =
    ne_eqb cause 19 (λ e. let f : ◌≡◌ {A = Bool} false true = rw e at d in let z : ◌≡◌ {A = ℕ} 0 1 = cc in omega arith)

-- fewer than fifteen changes go with any other cause
few_full : (cause count : ℕ) → eqb cause 19 ≡ false → count ≤ 14 → full_ok cause count ≡ true
unfolding full_ok
few_full cause count e h = rw (e, ne_eqb count 15 (λ f. omega arith))

module _ (p : Profile) (profile : profile_ok p ≡ true) (clock accepted t : ℕ) (since : clock ≤ t) (until : t ≤ 3155759999) (few : accepted < 10 ^ 15) where
  -- ---- an attached subscriber

  module _ (s : Subscriber) (size : length s.changes ≡ 15) (g : Good p.zone clock accepted s) where
    now : Open 14 p.zone t s
    now = open_later g.current t since

    next_number : s.closed < 10 ^ 15
    next_number = omega (arith, g.closed)

    -- the next record
    reopened_good : (q : Place) → Good p.zone t (accepted + 1) (opened p s.imsi t q (s.closed + 1))
    reopened_good q =
        record { imsi = g.imsi; closed = omega (arith, g.closed); current = opened_sound 14 p s.imsi t q (s.closed + 1) }

    module _ (q : Place) (other : same_place (place_of s) q ≡ false) where
      one_more : Open 15 p.zone t (listed p s t q)
      one_more = listed_sound p clock s size g.current t since until (parts p profile).zone q other

      listed_good : fifteenth s ≡ false → Good p.zone t (accepted + 1) (listed p s t q)
      unfolding fifteenth listed
      listed_good h =
          let n = leb-false 15 (s.count + 1) h in
          record { imsi = g.imsi; closed = omega (arith, g.closed); current = open_few one_more 14 (omega arith) }

      -- the fifteenth change closes the record, with 19
      full_within : fifteenth s ≡ true → within (record_of p (listed p s t q) t 19 false) ≡ true
      unfolding fifteenth listed cause_ok detach full_ok
      full_within h =
          let n : s.count + 1 ≡ 15 = omega (arith, leb-true 15 (s.count + 1) h, g.current.count) in
          record_within p profile t until (listed p s t q) 19 false g.imsi one_more refl (rw n)
          (eq-eqb t (last_time s.opening.seconds (used (listed p s t q)))
          (sym (listed_last p clock s size g.current t since until (parts p profile).zone q other)))
          (closing_number s.closed 19 next_number refl)

    -- another cause closes it as it is
    other_within : (cause : ℕ) (detached : Bool) → cause_ok cause ≡ true → eqb cause 19 ≡ false → number_ok cause (number_for s.closed detached) ≡ true
        → within (record_of p s t cause detached) ≡ true
    other_within cause detached known other number =
        record_within p profile t until s cause detached g.imsi (open_few now 15 (omega (arith, g.current.count))) known
        (few_full cause s.count other g.current.count) (rw other) number

    managed_within : within (record_of p s t 20 false) ≡ true
    unfolding cause_ok detach
    managed_within = other_within 20 false refl refl (closing_number s.closed 20 next_number refl)

    detached_within : (cause : ℕ) → detach cause ≡ true → within (record_of p s t cause true) ≡ true
    detached_within cause d =
        other_within cause true (detach_known cause d) (detach_other cause d) (detached_number s.closed cause next_number d)

    pub out_within : (m : Notice) → notice_ok m ≡ true → all_within (hear p s t m).out ≡ true
    unfolding hear closes_with all_within notice_ok
    out_within (Moved q) d =
        by (same_place (place_of s) q) (λ a. rw a)
        (λ a. by (fifteenth s) (λ b. rw (a, b, full_within q a b)) (λ b. rw (a, b)))
    out_within Managed d = rw managed_within
    out_within (Detached cause) d = rw (detached_within cause d)

    next_ok : (m : Notice) → s.active ≡ 1 → slot_ok p.zone t (accepted + 1) (stood (hear p s t m).next) ≡ true
    unfolding hear closes_with listed
    next_ok (Moved q) e =
        by (same_place (place_of s) q)
        (λ a. rw a (good_slot p.zone t (accepted + 1) s e (later_good g t (accepted + 1) since (omega arith))))
        (λ a. by (fifteenth s)
        (λ b. rw (a, b) (good_slot p.zone t (accepted + 1) (opened p s.imsi t q (s.closed + 1)) refl (reopened_good q)))
        (λ b. rw (a, b) (good_slot p.zone t (accepted + 1) (listed p s t q) e (listed_good q a b))))
    next_ok Managed e =
        good_slot p.zone t (accepted + 1) (opened p s.imsi t (place_of s) (s.closed + 1)) refl (reopened_good (place_of s))
    next_ok (Detached cause) e = blank_ok p.zone t (accepted + 1)

  -- ---- a slot that is taken

  module _ (s : Subscriber) (size : length s.changes ≡ 15) (m : Notice) (right : notice_ok m ≡ true) (here : taken s ≡ true)
      (sound : slot_ok p.zone clock accepted s ≡ true) where
    g : Good p.zone clock accepted s
    g = taken_good p.zone clock accepted s here sound

    -- it stays as it must be
    pub hear_ok : slot_ok p.zone t (accepted + 1) (stood (hear p s t m).next) ≡ true
    hear_ok = next_ok s size g m (eqb-true s.active 1 here)

    -- it can do what it is asked
    pub able_ok : able p t m s ≡ true
    unfolding able
    able_ok =
        rw (
          lt-ltb s.count 15 (omega (arith, g.current.count)),
          lt-ltb s.closed (10 ^ 15) (omega (arith, g.closed)),
          out_within s size g m right,
        )

    -- so only room can lack
    pub told_is : (b : List ℕ)
        → told_of p t m s b ≡ cond (leb (length (octets_of (hear p s t m).out)) (length b)) (
          0,
          (
            stood (hear p s t m).next,
            (length (octets_of (hear p s t m).out), octets_of (hear p s t m).out ++ drop (length (octets_of (hear p s t m).out)) b),
          ),
        )
        (11, (s, (0, b)))
    unfolding told_of
    told_is b = rw able_ok
