-- The rules work out the five closing conditions.
use mathlib.Core.Path.{◌≡◌, refl}
use mathlib.Core.Logic.{◌↔◌}
use mathlib.Core.Bool.{Bool, true, false, ◌&&◌}
use Rattle.std.specs.Prelude.{Option, None, Some}
use Prim.Native.Nat.{ℕ, ◌-◌, ◌≤◌}
use lib.Dec.{leb}
use borrow.Author.Tests.{leb-true, le-leb}
use Rattle.history.specs.Lists.{is_some, test}
use Rattle.history.specs.History.{History, ◌▸◌∶◌, began, standing}
use Rattle.history.specs.Records.{cause_for, since_opening}
use Rattle.history.specs.Demand.{ClosesNow}
use Rattle.history.proofs.Lists.{none≢some}
use Rattle.history.proofs.Records.{exactly_when}
use Rattle.once.specs.Charging.{Force, Heard, after, change, volume, changes_of, Closes, by_volume, by_time, by_changes, by_management, by_release, limits_for, rules}

module _ (r : History Force Heard) (t : ℕ) where
  -- a test that gives a cause passes, and it is that cause
  tested : (e : Heard) (b : Bool) (k c : ℕ) → test b k ≡ Some c → (b ≡ true → Closes r t e k) → Closes r t e c
  tested e true k c i f = let j : k ≡ c = cc in rw j at (f refl)
  tested e false k c i f = absurd (none≢some i)

  reached : (e : Heard) (o : Option ℕ) → change (standing after r) e ≡ o → (c : ℕ) → test (is_some o && leb (limits_for r).changes (changes_of (r ▸ t ∶ e))) 19 ≡ Some c
      → Closes r t e c
  reached e None q c i = absurd (none≢some i)
  reached e (Some k) q c i = tested e (leb (limits_for r).changes (changes_of (r ▸ t ∶ e))) 19 c i (λ b. by_changes q (leb-true (limits_for r).changes (changes_of (r ▸ t ∶ e)) b))

  pub says_so : (e : Heard) (c : ℕ) → cause_for rules r t e ≡ Some c → Closes r t e c
  says_so (Heard.traffic u d) c i =
      tested (Heard.traffic u d) (leb (limits_for r).volume (volume (r ▸ t ∶ Heard.traffic u d))) 16 c i
      (λ b. by_volume (leb-true (limits_for r).volume (volume (r ▸ t ∶ Heard.traffic u d)) b))
  says_so (Heard.qos q) c i = reached (Heard.qos q) _ refl c i
  says_so Heard.tariff c i = reached Heard.tariff _ refl c i
  says_so (Heard.release x) c i = let j : x ≡ c = cc in rw (← j) by_release
  says_so Heard.tick c i = tested Heard.tick (leb (limits_for r).seconds (t - began r)) 17 c i (λ b. by_time (leb-true (limits_for r).seconds (t - began r) b))
  says_so Heard.management c i = let j : 20 ≡ c = cc in rw (← j) by_management
  says_so (Heard.replaces x y) c i = absurd (none≢some i)

  by_change : (e : Heard) (k : ℕ) → change (standing after r) e ≡ Some k → (limits_for r).changes ≤ changes_of (r ▸ t ∶ e) → cause_for rules r t e ≡ Some 19
  by_change (Heard.traffic u d) k q b = absurd (none≢some q)
  by_change (Heard.qos x) k q b = rw (le-leb (limits_for r).changes (changes_of (r ▸ t ∶ Heard.qos x)) b, q)
  by_change Heard.tariff k q b = rw (le-leb (limits_for r).changes (changes_of (r ▸ t ∶ Heard.tariff)) b)
  by_change (Heard.release x) k q b = absurd (none≢some q)
  by_change Heard.tick k q b = absurd (none≢some q)
  by_change Heard.management k q b = absurd (none≢some q)
  by_change (Heard.replaces x y) k q b = absurd (none≢some q)

  pub holds_so : (e : Heard) (c : ℕ) → Closes r t e c → cause_for rules r t e ≡ Some c
  holds_so e c (by_volume {u} {d} b) = rw (le-leb (limits_for r).volume (volume (r ▸ t ∶ Heard.traffic u d)) b)
  holds_so e c (by_time b) = rw (le-leb (limits_for r).seconds (t - began r) b)
  holds_so e c (by_changes {k = k} q b) = by_change e k q b
  holds_so e c by_management = refl
  holds_so e c by_release = refl

pub five_alone : (h : History Force Heard) (t : ℕ) (e : Heard) (cause : ℕ)
    → ClosesNow rules h t e cause ↔ Closes (since_opening rules h) t e cause
five_alone = exactly_when rules Closes (λ r t e c. ((λ i. says_so r t e c i), (λ z. holds_so r t e c z)))
