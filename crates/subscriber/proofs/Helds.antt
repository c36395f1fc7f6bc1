-- What the types say of a subscriber stays so, and so each record that it closes is one that the format takes.
use mathlib.Core.Path.{◌≡◌, refl, ◌∙◌}
use mathlib.Core.Bool.{Bool, true, false}
use mathlib.Core.List.{List, [], ◌∷◌}
use Prim.Native.Nat.{ℕ, ◌+◌, ◌^◌, ◌≤◌, ◌<◌}
use native.Mathlib.Omega.{arith}
use lib.Dec.{T}
use lib.ListN.{length, length-set}
use Rattle.format.proofs.Tests.{by, both, true_T, and_i}
use Rattle.octets.specs.Filled.{fill_to}
use Rattle.profile.specs.declared.Profile.{Profile}
use Rattle.profile.specs.Profile.{profile_ok}
use Rattle.history.specs.Lists.{All}
use Rattle.mcdr.specs.declared.Place.{Place}
use Rattle.mcdr.specs.declared.MmRecord.{MmRecord}
use Rattle.mcdr.specs.Change.{place_ok, same_place}
use Rattle.mcdr.specs.Rules.{shaped, within}
use Rattle.mcdr.specs.Layout.{rules}
use Rattle.mcdr.proofs.Views.{shape_is}
use Rattle.subscriber.specs.declared.Subscriber.{Subscriber}
use Rattle.subscriber.specs.declared.Notice.{Notice}
use Rattle.subscriber.specs.declared.Notice.TheVariants.{Moved, Managed, Detached}
use Rattle.subscriber.specs.Subscriber.{place_of, no_subscriber, taken}
use Rattle.subscriber.specs.Sound.{slot_ok}
use Rattle.subscriber.specs.Hear.{time_at, opened, attached, listed, record_of, fifteenth, closes_with, hear, notice_ok}
use Rattle.subscriber.specs.Tell.{stood, all_within}
use Rattle.subscriber.specs.Held.{HeldSubscriber, notice_held}
use Rattle.subscriber.proofs.Listed.{places_set, place_now_lem, none_placed, none_many}
use Rattle.subscriber.proofs.Sounds.{taken_good}
use Rattle.subscriber.proofs.Kept.{out_within}

-- ---- a subscriber

pub opened_held : (p : Profile) (imsi : List ℕ) (t : ℕ) (q : Place) (closed : ℕ) → length imsi ≡ 8 → place_ok q ≡ true
    → HeldSubscriber (opened p imsi t q closed)
opened_held p imsi t q closed l k = record { imsi = l; changes = none_many 15; place = k; places = none_placed 15 }

pub attached_held : (p : Profile) (t : ℕ) (imsi : List ℕ) (q : Place) → length imsi ≡ 8 → place_ok q ≡ true → HeldSubscriber (attached p t imsi q)
attached_held p t imsi q l k = opened_held p imsi t q 0 l k

pub blank_held : HeldSubscriber no_subscriber
unfolding fill_to place_ok
blank_held = record { imsi = refl; changes = none_many 15; place = refl; places = none_placed 15 }

module _ (p : Profile) (s : Subscriber) (w : HeldSubscriber s) (t : ℕ) where
  listed_held : (q : Place) → place_ok q ≡ true → HeldSubscriber (listed p s t q)
  unfolding listed
  listed_held q k =
      record {
        imsi = w.imsi;
        changes = length-set s.changes s.count (record { place = q; time = time_at p t }) ∙ w.changes;
        place = w.place;
        places = places_set s.changes s.count (record { place = q; time = time_at p t }) w.places k;
      }

  pub hear_held : (m : Notice) → notice_held m ≡ true → HeldSubscriber (stood (hear p s t m).next)
  unfolding hear closes_with notice_held place_of listed
  hear_held (Moved q) k =
      by (same_place (place_of s) q) (λ a. rw a w)
      (λ a. by (fifteenth s) (λ b. rw (a, b) (opened_held p s.imsi t q (s.closed + 1) w.imsi k)) (λ b. rw (a, b) (listed_held q k)))
  hear_held Managed k =
      opened_held p s.imsi t (place_of s) (s.closed + 1) w.imsi (place_now_lem s.place s.changes s.count w.place w.places)
  hear_held (Detached cause) k = blank_held

-- ---- the records that it closes

module _ (p : Profile) (sgsn : p.sgsn < 2 ^ 32) (node : length p.nodeid ≡ 20) (t : ℕ) (until : t ≤ 3155759999) where
  record_shaped : (s : Subscriber) → HeldSubscriber s → (cause : ℕ) (detached : Bool) → shaped (record_of p s t cause detached) ≡ true
  unfolding record_of
  record_shaped s w cause detached =
      shape_is (record_of p s t cause detached) (record {
        changes = w.changes;
        node = node;
        sgsn = sgsn;
        place = w.place;
        duration = omega arith;
        places = w.places;
      })

  out_shaped : (s : Subscriber) → HeldSubscriber s → (m : Notice) → notice_held m ≡ true → All (λ r. shaped r ≡ true) (hear p s t m).out
  unfolding hear closes_with notice_held
  out_shaped s w (Moved q) k =
      by (same_place (place_of s) q) (λ a. rw a tt)
      (λ a. by (fifteenth s) (λ b. rw (a, b) (record_shaped (listed p s t q) (listed_held p s w t q k) 19 false, tt)) (λ b. rw (a, b) tt))
  out_shaped s w Managed k = (record_shaped s w 20 false, tt)
  out_shaped s w (Detached cause) k = (record_shaped s w cause true, tt)

both_rules : (rs : List MmRecord) → All (λ r. shaped r ≡ true) rs → all_within rs ≡ true → All (λ r. T (rules r)) rs
unfolding all_within
both_rules [] s h = tt
both_rules (r ∷ rs) (a, s) h =
    let (b, w) = both (within r) (all_within rs) h in
    (and_i (shaped r) (within r) (true_T (shaped r) a) (true_T (within r) b), both_rules rs s w)

module _ (p : Profile) (profile : profile_ok p ≡ true) (clock accepted t : ℕ) (since : clock ≤ t) (until : t ≤ 3155759999) (few : accepted < 10 ^ 15)
    (s : Subscriber) (w : HeldSubscriber s) (m : Notice) (right : notice_ok m ≡ true) (here : taken s ≡ true)
    (sound : slot_ok p.zone clock accepted s ≡ true) where
  pub hear_rules : p.sgsn < 2 ^ 32 → length p.nodeid ≡ 20 → notice_held m ≡ true → All (λ r. T (rules r)) (hear p s t m).out
  hear_rules sgsn node k =
      both_rules (hear p s t m).out (out_shaped p sgsn node t until s w m k)
      (out_within p profile clock accepted t since until few s w.changes (taken_good p.zone clock accepted s here sound) m right)
