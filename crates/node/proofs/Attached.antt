-- The table of subscribers: what is found in it by the names of its slots is found in the table itself, and what it does when it hears
-- something. History's laws (proofs/Scans.antt, Slots.antt, Hearing.antt) of subscribers.
use mathlib.Core.Path.{◌≡◌, sym, ◌∙◌}
use mathlib.Core.Logic.{◌↔◌}
use mathlib.Core.Bool.{Bool, true, false, not}
use mathlib.Core.List.{List, map}
use Prim.Native.Nat.{ℕ}
use lib.Dec.{eqb}
use borrow.Author.Tests.{eqb-true, eqb-false, eq-eqb}
use Rattle.history.specs.Lists.{All}
use Rattle.history.specs.Slots.{Naming, bears, distinct}
use Rattle.history.proofs.Lists.{all_map, all_both}
use Rattle.history.proofs.Scans.{First, first_is, none_is, position_through, distinct_through, asks_all}
use Rattle.history.proofs.Slots as T
use Rattle.std.specs.Prelude.{None, Some, position}
use Rattle.keys.specs.Slots as keys
use Rattle.subscriber.specs.declared.Subscriber.{Subscriber}
use Rattle.subscriber.specs.Subscriber.{name_of, slot_of, taken, no_subscriber}
use Rattle.subscriber.specs.Sound.{slot_ok, slots_ok}
use Rattle.subscriber.specs.Held.{HeldSubscriber}
use Rattle.subscriber.proofs.Scans.{slots_ask}
use Rattle.subscriber.proofs.Sounds.{zero_is, slot_free}

-- how subscribers are named
abbrev pub subscribers : Naming ℕ Subscriber
subscribers = record { active = taken; name = λ s. name_of s; same = eqb }

-- an attached subscriber of this name, and a free slot
abbrev pub bearing : ℕ → Subscriber → Bool
bearing k s = bears subscribers k s

abbrev pub vacant : Subscriber → Bool
vacant s = not (taken s)

pub exactly : (a b : ℕ) → (eqb a b ≡ true) ↔ (a ≡ b)
exactly a b = (eqb-true a b, eq-eqb a b)

pub apart : (ss : List Subscriber) → keys.distinct eqb (map slot_of ss) ≡ distinct subscribers ss
apart ss = distinct_through slot_of (keys.naming eqb) ss

module _ (ss : List Subscriber) where
  pub bearing_at : (k : ℕ) {i : ℕ} → position (keys.bears eqb k) (map slot_of ss) ≡ Some i → First (bearing k) ss i
  bearing_at k e = first_is (bearing k) ss (sym (position_through slot_of (keys.bears eqb k) ss) ∙ e)

  pub none_bearing : (k : ℕ) → position (keys.bears eqb k) (map slot_of ss) ≡ None → All (λ s. bearing k s ≡ false) ss
  none_bearing k e = none_is (bearing k) ss (sym (position_through slot_of (keys.bears eqb k) ss) ∙ e)

  pub vacant_at_lem : {i : ℕ} → position keys.is_free (map slot_of ss) ≡ Some i → First vacant ss i
  vacant_at_lem e = first_is vacant ss (sym (position_through slot_of keys.is_free ss) ∙ e)

  pub none_vacant : position keys.is_free (map slot_of ss) ≡ None → All (λ s. vacant s ≡ false) ss
  none_vacant e = none_is vacant ss (sym (position_through slot_of keys.is_free ss) ∙ e)

-- ---- a free slot holds nobody

abbrev pub Vacant : Subscriber → Type 0
Vacant s = T.Settled taken no_subscriber s

vacated : (zone clock accepted : ℕ) (s : Subscriber) → HeldSubscriber s × (slot_ok zone clock accepted s ≡ true) → Vacant s
unfolding T.Settled
vacated zone clock accepted s (h, k) e = zero_is s (sym (slot_free zone clock accepted s (eqb-false s.active 1 e)) ∙ k) h.imsi h.changes

pub all_vacant : (zone clock accepted : ℕ) (ss : List Subscriber) → All HeldSubscriber ss → slots_ok zone clock accepted ss ≡ true → All Vacant ss
all_vacant zone clock accepted ss h k =
    all_map (λ s. HeldSubscriber s × (slot_ok zone clock accepted s ≡ true)) Vacant (vacated zone clock accepted) ss
    (all_both HeldSubscriber (λ s. slot_ok zone clock accepted s ≡ true) ss h (asks_all (slots_ask zone clock accepted) ss k))
