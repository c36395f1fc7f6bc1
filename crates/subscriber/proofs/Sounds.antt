-- What the rules of a sound slot say: of an attached subscriber, and of a free slot.
use mathlib.Core.Path.{◌≡◌, refl, sym, ap, ◌∙◌}
use mathlib.Core.Bool.{Bool, true, false, ◌&&◌, and-false}
use mathlib.Core.List.{List, [], ◌∷◌, ◌++◌}
use Prim.Native.Nat.{ℕ, ◌≤◌, ◌<◌}
use native.Mathlib.Omega.{arith}
use lib.Dec.{leb, ltb, eqb}
use lib.ListN.{length, drop, replicate}
use borrow.Author.Tests.{leb-true, ltb-true, eqb-true, le-leb, lt-ltb, eq-eqb, ne_eqb}
use Rattle.format.proofs.Tests.{by, both, true_T}
use Rattle.ber.specs.Imsi.{imsi_ok}
use Rattle.calendar.specs.Stamp.{stamp_ok}
use Rattle.octets.specs.Chars.{all_of, is_zero}
use Rattle.octets.specs.Filled.{fill_to}
use Rattle.octets.proofs.Filled.{zeros_are}
use Rattle.profile.specs.declared.Profile.{Profile}
use Rattle.mcdr.specs.declared.Place.{Place}
use Rattle.mcdr.specs.declared.Change.{Change}
use Rattle.mcdr.specs.Change.{same_place, follows}
use Rattle.mcdr.specs.Changes.{changes_ok, last_time, blanks, no_changes}
use Rattle.mcdr.proofs.Order.{last_more, changes_more, last_since}
use Rattle.mcdr.proofs.Padded.{blanks_are}
use Rattle.subscriber.specs.declared.Subscriber.{Subscriber}
use Rattle.subscriber.specs.Subscriber.{used, place_of, no_subscriber, taken}
use Rattle.subscriber.specs.Sound.{open_ok, subscriber_ok, zero_ok, slot_ok}
use Rattle.subscriber.specs.Hear.{time_at, opened, attached, listed}
use Rattle.subscriber.proofs.Listed.{used_more, unused_more, none_blank}

-- ---- the open record

-- all that holds of one that is as it must be, with so many changes at most
pub record Open (most z clock : ℕ) (s : Subscriber) : Type 0 where
  pub zone : s.opening.zone ≡ z
  pub count : s.count ≤ most
  pub changes : changes_ok s.opening.zone s.opening.seconds s.place (used s) ≡ true
  pub last : last_time s.opening.seconds (used s) ≤ clock
  pub unused : blanks (drop s.count s.changes) ≡ true

-- and of an attached subscriber
pub record Good (z clock accepted : ℕ) (s : Subscriber) : Type 0 where
  pub imsi : imsi_ok s.imsi ≡ true
  pub closed : s.closed < accepted
  pub current : Open 14 z clock s

module _ (zone clock accepted : ℕ) (s : Subscriber) where
  pub good : subscriber_ok zone clock accepted s ≡ true → Good zone clock accepted s
  unfolding subscriber_ok open_ok
  good h =
      let last = last_time s.opening.seconds (used s) in
      let a₁ = eqb s.opening.zone zone in
      let a₂ = a₁ && leb s.count 14 in
      let a₃ = a₂ && changes_ok s.opening.zone s.opening.seconds s.place (used s) in
      let a₄ = a₃ && leb last clock in
      let (h₁, h₂) = both (imsi_ok s.imsi && ltb s.closed accepted) (open_ok zone clock s) h in
      let (i, n) = both (imsi_ok s.imsi) (ltb s.closed accepted) h₁ in
      let (g₄, unused) = both a₄ (blanks (drop s.count s.changes)) h₂ in
      let (g₃, l) = both a₃ (leb last clock) g₄ in
      let (g₂, changes) = both a₂ (changes_ok s.opening.zone s.opening.seconds s.place (used s)) g₃ in
      let (g₁, k) = both a₁ (leb s.count 14) g₂ in
      record {
        imsi = i;
        closed = ltb-true s.closed accepted n;
        current = record {
          zone = eqb-true s.opening.zone zone g₁;
          count = leb-true s.count 14 k;
          changes = changes;
          last = leb-true last clock l;
          unused = unused;
        };
      }

  pub good_is : Good zone clock accepted s → subscriber_ok zone clock accepted s ≡ true
  unfolding subscriber_ok open_ok
  good_is g =
      let o = g.current in
      rw (
        g.imsi,
        lt-ltb s.closed accepted g.closed,
        eq-eqb s.opening.zone zone o.zone,
        le-leb s.count 14 o.count,
        o.changes,
        le-leb (last_time s.opening.seconds (used s)) clock o.last,
        o.unused,
      )

-- as the code finds it: what holds of at most fourteen holds of at most fifteen
pub fourteen : (z : Bool) (n : ℕ) (x : Bool) → (z && leb n 14 && (leb n 15 && x)) ≡ (z && leb n 14 && x)
fourteen z n x =
    by (leb n 14) (λ t. rw (t, le-leb n 15 (omega (arith, leb-true n 14 t)))) (λ t. rw (t, and-false z))

-- it opened at the clock or before
pub open_since : {most z clock : ℕ} {s : Subscriber} → Open most z clock s → s.opening.seconds ≤ clock
open_since {s = s} o = omega (arith, last_since s.opening.zone s.opening.seconds s.place (used s) o.changes, o.last)

pub open_later : {most z clock : ℕ} {s : Subscriber} → Open most z clock s → (t : ℕ) → clock ≤ t → Open most z t s
open_later o t h = record { zone = o.zone; count = o.count; changes = o.changes; last = omega (arith, o.last); unused = o.unused }

pub open_few : {most z clock : ℕ} {s : Subscriber} → Open most z clock s → (n : ℕ) → s.count ≤ n → Open n z clock s
open_few o n h = record { zone = o.zone; count = h; changes = o.changes; last = o.last; unused = o.unused }

-- one that has just opened
pub opened_sound : (most : ℕ) (p : Profile) (imsi : List ℕ) (t : ℕ) (q : Place) (closed : ℕ) → Open most p.zone t (opened p imsi t q closed)
unfolding changes_ok last_time
opened_sound most p imsi t q closed = record { zone = refl; count = omega arith; changes = refl; last = omega arith; unused = none_blank 15 }

-- one more change, to another place
module _ (p : Profile) (clock : ℕ) (s : Subscriber) (size : length s.changes ≡ 15) (o : Open 14 p.zone clock s) (t : ℕ) (since : clock ≤ t)
    (until : t ≤ 3155759999) (zone : p.zone ≤ 1560) (q : Place) (other : same_place (place_of s) q ≡ false) where
  change : Change
  change = record { place = q; time = time_at p t }

  follows_ok : follows s.opening.zone (last_time s.opening.seconds (used s)) (place_of s) change ≡ true
  unfolding follows stamp_ok change
  follows_ok =
      rw (
        other,
        lt-ltb t 3155760000 (omega arith),
        le-leb p.zone 1560 zone,
        le-leb (last_time s.opening.seconds (used s)) t (omega (arith, o.last)),
        eq-eqb p.zone s.opening.zone (sym o.zone),
      )

  room : s.count < length s.changes
  room = omega (arith, o.count)

  used_listed : used (listed p s t q) ≡ used s ++ (change ∷ [])
  unfolding listed change
  used_listed = used_more s.changes s.count change room

  -- it stands last
  pub listed_last : last_time s.opening.seconds (used (listed p s t q)) ≡ t
  unfolding change
  listed_last = rw used_listed (last_more change s.opening.seconds (used s))

  pub listed_sound : Open 15 p.zone t (listed p s t q)
  unfolding listed change place_of
  listed_sound = record {
    zone = o.zone;
    count = omega (arith, o.count);
    changes = rw (used_listed, changes_more change s.opening.zone s.opening.seconds s.place (used s), o.changes, follows_ok);
    last = omega (arith, listed_last);
    unused = unused_more s.changes s.count change room o.unused;
  }

-- ---- a free slot

pub is_zero_lem : zero_ok no_subscriber ≡ true
unfolding zero_ok all_of fill_to
is_zero_lem = rw (none_blank 15)

-- every slot of zeros is that one
module _ (s : Subscriber) where
  pub zero_is : zero_ok s ≡ true → length s.imsi ≡ 8 → length s.changes ≡ 15 → s ≡ no_subscriber
  unfolding zero_ok fill_to
  zero_is h k l =
      let a₁ = eqb s.active 0 in
      let a₂ = a₁ && all_of is_zero s.imsi in
      let a₃ = a₂ && eqb s.place.lac 0 in
      let a₄ = a₃ && eqb s.place.rac 0 in
      let a₅ = a₄ && eqb s.opening.seconds 0 in
      let a₆ = a₅ && eqb s.opening.zone 0 in
      let a₇ = a₆ && blanks s.changes in
      let (h₈, h₉) = both (a₇ && eqb s.count 0) (eqb s.closed 0) h in
      let (h₇, n) = both a₇ (eqb s.count 0) h₈ in
      let (h₆, b) = both a₆ (blanks s.changes) h₇ in
      let (h₅, z) = both a₅ (eqb s.opening.zone 0) h₆ in
      let (h₄, t) = both a₄ (eqb s.opening.seconds 0) h₅ in
      let (h₃, r) = both a₃ (eqb s.place.rac 0) h₄ in
      let (h₂, c) = both a₂ (eqb s.place.lac 0) h₃ in
      let (h₁, d) = both a₁ (all_of is_zero s.imsi) h₂ in
      let active = eqb-true s.active 0 h₁ in
      let imsi : s.imsi ≡ replicate 8 0 = zeros_are s.imsi (true_T (all_of is_zero s.imsi) d) ∙ ap (λ (n : ℕ). replicate n 0) k in
      let lac = eqb-true s.place.lac 0 c in
      let rac = eqb-true s.place.rac 0 r in
      let seconds = eqb-true s.opening.seconds 0 t in
      let zone = eqb-true s.opening.zone 0 z in
      let changes : s.changes ≡ no_changes 15 = blanks_are s.changes b ∙ ap no_changes l in
      let count = eqb-true s.count 0 n in
      let closed = eqb-true s.closed 0 h₉ in
      λ i. record {
        active = active i;
        imsi = imsi i;
        place = record { lac = lac i; rac = rac i };
        opening = record { seconds = seconds i; zone = zone i };
        changes = changes i;
        count = count i;
        closed = closed i;
      }

-- ---- a slot

module _ (zone clock accepted : ℕ) (s : Subscriber) where
  pub slot_active : s.active ≡ 1 → slot_ok zone clock accepted s ≡ subscriber_ok zone clock accepted s
  unfolding slot_ok
  slot_active e = rw (eq-eqb s.active 1 e)

  pub slot_free : (s.active ≡ 1 → ⊥) → slot_ok zone clock accepted s ≡ zero_ok s
  unfolding slot_ok
  slot_free e = rw (ne_eqb s.active 1 e)

  -- one that is taken is good
  pub taken_good : taken s ≡ true → slot_ok zone clock accepted s ≡ true → Good zone clock accepted s
  taken_good e h = good zone clock accepted s (sym (slot_active (eqb-true s.active 1 e)) ∙ h)

  pub good_slot : s.active ≡ 1 → Good zone clock accepted s → slot_ok zone clock accepted s ≡ true
  good_slot e g = slot_active e ∙ good_is zone clock accepted s g

-- nobody attached is as it must be, at any time
pub blank_ok : (zone clock accepted : ℕ) → slot_ok zone clock accepted no_subscriber ≡ true
blank_ok zone clock accepted = slot_free zone clock accepted no_subscriber (λ e. omega arith) ∙ is_zero_lem

-- and so is one that has just attached
pub attached_ok : (p : Profile) (t accepted : ℕ) (imsi : List ℕ) (q : Place) → imsi_ok imsi ≡ true → 0 < accepted
    → slot_ok p.zone t accepted (attached p t imsi q) ≡ true
attached_ok p t accepted imsi q h k =
    good_slot p.zone t accepted (attached p t imsi q) refl (record { imsi = h; closed = k; current = opened_sound 14 p imsi t q 0 })

-- a later clock and more accepted events change nothing
pub later_good : {zone clock accepted : ℕ} {s : Subscriber} → Good zone clock accepted s → (t k : ℕ) → clock ≤ t → accepted ≤ k → Good zone t k s
later_good g t k h l = record { imsi = g.imsi; closed = omega (arith, g.closed); current = open_later g.current t h }

pub later_ok : (zone clock accepted : ℕ) (s : Subscriber) (t k : ℕ) → clock ≤ t → accepted ≤ k → slot_ok zone clock accepted s ≡ true
    → slot_ok zone t k s ≡ true
unfolding slot_ok
later_ok zone clock accepted s t k h l e =
    by (eqb s.active 1)
    (λ a. rw a (good_is zone t k s (later_good (good zone clock accepted s (rw a at e)) t k h l)))
    (λ a. rw a (rw a at e))
