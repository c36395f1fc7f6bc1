-- The whole call: the rows of the refusal table in their order.
use mathlib.Core.Path.{◌≡◌, ◌∙◌}
use mathlib.Core.Bool.{Bool, true, false, ◌&&◌}
use mathlib.Core.List.{List, ◌++◌, map}
use Prim.Native.Nat.{ℕ, ◌≤◌, ◌<◌}
use native.Mathlib.Omega.{arith}
use lib.Dec.{leb, eqb}
use borrow.Author.Tests.{le-leb, lt-leb, le-ltb, lt-ltb}
use Rattle.event.specs.declared.Event.{Event}
use Rattle.std.specs.Prelude.{Ok, Err}
use Rattle.event.specs.declared.Refusal as octets
use Rattle.event.specs.Fields.{time_of}
use Rattle.event.specs.Rows.{first_fit, rows, number_of}
use Rattle.event.specs.Event.{decoded}
use Rattle.event.proofs.Saying.{none_fits, row_fits, numbered}
use Rattle.event.proofs.Theorems.{heard}
use Rattle.profile.specs.Profile.{profile_ok}
use Rattle.limits.specs.Sets.{sets_ok}
use Rattle.event.specs.declared.Name.{Name}
use Rattle.context.specs.Sound.{slots_ok}
use Rattle.context.specs.Slots.{slot_of, distinct}
use Rattle.keys.specs.declared.Slot.{Slot}
use Rattle.keys.specs.Slots as keys
use Rattle.subscriber.specs.Subscriber.{slot_of as imsiSlot}
use Rattle.subscriber.specs.Sound.{slots_ok as subscribersOk}
use Rattle.node.specs.declared.Node.{Node}
use Rattle.node.specs.Sound.{sound, latest, most_accepted}
use Rattle.node.specs.Step.{Words, takes, said_of, refusals, step_of, Steps}
use Rattle.node.proofs.RefusalRows.{table_rows, later_rows, parted, numbered_rows, fit_more, fit_first}
use Rattle.node.proofs.Served.{Outs, outs_refused}

-- ---- the answers

module _ (n : Node) (t : ℕ) (w : Words) (b : List ℕ) {a k : ℕ} {r : Node} (q : r ≡ n) (u : k ≡ 0) where
  pub outs_late : latest < t → a ≡ 6 → Outs (later_rows n t w b) n t w b b a r k
  unfolding later_rows first_fit
  outs_late l p = outs_refused n t w b (later_rows n t w b) 6 (rw (lt-ltb latest t l)) (λ i. omega arith) p q u

  pub outs_early : t ≤ latest → t < n.clock → a ≡ 6 → Outs (later_rows n t w b) n t w b b a r k
  unfolding later_rows first_fit
  outs_early m l p = outs_refused n t w b (later_rows n t w b) 6 (rw (le-ltb latest t m, lt-ltb t n.clock l)) (λ i. omega arith) p q u

  pub outs_many : t ≤ latest → n.clock ≤ t → most_accepted ≤ n.accepted → a ≡ 7 → Outs (later_rows n t w b) n t w b b a r k
  unfolding later_rows first_fit
  outs_many m s l p =
      outs_refused n t w b (later_rows n t w b) 7 (rw (le-ltb latest t m, le-ltb t n.clock s, le-leb most_accepted n.accepted l)) (λ i. omega arith) p q u

pub outs_timely : (n : Node) (t : ℕ) (w : Words) (b : List ℕ) {b' : List ℕ} {a k : ℕ} {r : Node}
    → t ≤ latest → n.clock ≤ t → n.accepted < most_accepted
    → Outs (table_rows n t w b) n t w b b' a r k → Outs (later_rows n t w b) n t w b b' a r k
unfolding later_rows first_fit
outs_timely n t w b {b'} m s f o =
    record { is = rw (le-ltb latest t m, le-ltb t n.clock s, lt-leb most_accepted n.accepted f) o.is }

module _ (n : Node) (s b : List ℕ) where
  steps_refused : (j : ℕ) {a k : ℕ} {r : Node} → first_fit (refusals n s b) ≡ j → (j ≡ 0 → ⊥) → a ≡ j → r ≡ n → k ≡ 0 → Steps n s b b a r k
  unfolding step_of
  steps_refused j e z p q u = record { is = (outs_refused n (time_of s) (said_of s) b (refusals n s b) j e z p q u).is }

  pub steps_13 : {a k : ℕ} {r : Node} → sound n ≡ false → a ≡ 13 → r ≡ n → k ≡ 0 → Steps n s b b a r k
  unfolding refusals first_fit
  steps_13 e p q u = steps_refused 13 (rw e) (λ i. omega arith) p q u

  module _ (ok : sound n ≡ true) where
    past_13 : first_fit (refusals n s b) ≡ first_fit (rows s ++ later_rows n (time_of s) (said_of s) b)
    unfolding first_fit
    past_13 = rw (parted n s b, ok)

    pub steps_octets : {a k : ℕ} {m : Node} {r : octets.Refusal} → decoded s ≡ Err r → a ≡ number_of r → m ≡ n → k ≡ 0 → Steps n s b b a m k
    steps_octets {r = r} d p q u =
        let z = numbered r in
        steps_refused (number_of r) (past_13 ∙ fit_first (rows s) (later_rows n (time_of s) (said_of s) b) (number_of r) (row_fits s d) z) z p q u

    pub steps_said : {t : ℕ} {e : Event} {b' : List ℕ} {a k : ℕ} {r : Node} → decoded s ≡ Ok (t, e)
        → Outs (later_rows n t (takes e s) b) n t (takes e s) b b' a r k → Steps n s b b' a r k
    unfolding step_of
    steps_said {t} {e} d o =
        let h = heard s d in
        let z = none_fits s d in
        let f : first_fit (refusals n s b) ≡ first_fit (later_rows n (time_of s) (said_of s) b) =
        past_13 ∙ fit_more (rows s) (later_rows n (time_of s) (said_of s) b) (numbered_rows s) z in
        record { is = rw f (rw (h.time, h.event) at o.is) }

-- the node's rules are those that the code tested
pub is_sound : (n : Node) {names : List (Slot Name)} {imsis : List (Slot ℕ)} {good fine r : Bool}
    → (names ≡ map slot_of n.contexts) × (good ≡ slots_ok n.profile.sets n.profile.zone n.clock n.accepted n.contexts)
    → (imsis ≡ map imsiSlot n.subscribers) × (fine ≡ subscribersOk n.profile.zone n.clock n.accepted n.subscribers)
    → r ≡ (profile_ok n.profile && sets_ok n.profile.sets n.settings.sets && leb n.clock latest && leb n.accepted most_accepted && distinct names && good && keys.distinct eqb imsis && fine)
    → sound n ≡ r
unfolding sound
is_sound n e f k = rw (k, e.0, e.1, f.0, f.1)
