-- "No event meets two of them for one context": the event says which closing condition can hold.
use mathlib.Core.Path.{◌≡◌, refl, sym, ◌∙◌}
use Rattle.std.specs.Prelude.{Some}
use Prim.Native.Nat.{ℕ}
use Rattle.history.specs.History.{History, standing}
use Rattle.history.proofs.Lists.{none≢some}
use Rattle.once.specs.Charging.{Force, Heard, after, change, Closes, by_volume, by_time, by_changes, by_management, by_release, which}
use Rattle.once.proofs.Five.{holds_so}

abbrev candidate : Heard → ℕ
candidate (Heard.traffic u d) = 1
candidate (Heard.qos q) = 3
candidate Heard.tariff = 3
candidate (Heard.release cause) = 5
candidate Heard.tick = 2
candidate Heard.management = 4
candidate (Heard.replaces i x) = 0

module _ (r : History Force Heard) (t : ℕ) where
  changes_are : (e : Heard) (k : ℕ) → change (standing after r) e ≡ Some k → 3 ≡ candidate e
  changes_are (Heard.traffic u d) k p = absurd (none≢some p)
  changes_are (Heard.qos q) k p = refl
  changes_are Heard.tariff k p = refl
  changes_are (Heard.release cause) k p = absurd (none≢some p)
  changes_are Heard.tick k p = absurd (none≢some p)
  changes_are Heard.management k p = absurd (none≢some p)
  changes_are (Heard.replaces i x) k p = absurd (none≢some p)

  which_is : (e : Heard) (k : ℕ) (a : Closes r t e k) → which a ≡ candidate e
  which_is e k (by_volume b) = refl
  which_is e k (by_time b) = refl
  which_is e k (by_changes {k = j} q b) = changes_are e j q
  which_is e k by_management = refl
  which_is e k by_release = refl

  pub one_condition : (e : Heard) (j k : ℕ) (a : Closes r t e j) (b : Closes r t e k) → which a ≡ which b
  one_condition e j k a b = which_is e j a ∙ sym (which_is e k b)

  pub one_cause : (e : Heard) (j k : ℕ) → Closes r t e j → Closes r t e k → j ≡ k
  one_cause e j k a b =
      let p = holds_so r t e j a in
      let q = holds_so r t e k b in
      cc
