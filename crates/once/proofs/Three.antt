-- The rules of subscribers work out the three closing conditions, and no event meets two of them.
use mathlib.Core.Path.{◌≡◌, refl, sym, ◌∙◌}
use mathlib.Core.Logic.{◌↔◌}
use mathlib.Core.Bool.{Bool, true, false}
use Rattle.std.specs.Prelude.{Some}
use Prim.Native.Nat.{ℕ}
use lib.Dec.{leb}
use borrow.Author.Tests.{leb-true, le-leb}
use Rattle.mcdr.specs.declared.Place.{Place}
use Rattle.mcdr.specs.Change.{same_place}
use Rattle.history.specs.History.{History, ◌▸◌∶◌, standing}
use Rattle.history.specs.Records.{cause_for, since_opening}
use Rattle.history.specs.Demand.{ClosesNow}
use Rattle.history.proofs.Lists.{none≢some}
use Rattle.history.proofs.Records.{exactly_when}
use Rattle.once.specs.Attaching.{Noted, moved, managed, detached, after, changes_of, Closes, by_fifteenth, by_management, by_detach, which, rules}

module _ (r : History Place Noted) (t : ℕ) where
  reached : (q : Place) (b : Bool) → same_place (standing after r) q ≡ b → (k : Bool) → leb 15 (changes_of (r ▸ t ∶ moved q)) ≡ k → (c : ℕ)
      → cause_for rules r t (moved q) ≡ Some c → Closes r t (moved q) c
  reached q true e k f c i = absurd (none≢some (rw e at i))
  reached q false e true f c i =
      let g = rw (f, e) at i in
      let j : 19 ≡ c = cc in
      let z : Closes r t (moved q) 19 = by_fifteenth e (leb-true 15 (changes_of (r ▸ t ∶ moved q)) f) in
      rw j at z
  reached q false e false f c i = absurd (none≢some (rw (f, e) at i))

  pub says_so : (e : Noted) (c : ℕ) → cause_for rules r t e ≡ Some c → Closes r t e c
  says_so (moved q) c i = reached q _ refl _ refl c i
  says_so managed c i = let j : 20 ≡ c = cc in rw (← j) by_management
  says_so (detached x) c i = let j : x ≡ c = cc in rw (← j) by_detach

  pub holds_so : (e : Noted) (c : ℕ) → Closes r t e c → cause_for rules r t e ≡ Some c
  holds_so e c (by_fifteenth {q} o b) = rw (le-leb 15 (changes_of (r ▸ t ∶ moved q)) b, o)
  holds_so e c by_management = refl
  holds_so e c by_detach = refl

  candidate : Noted → ℕ
  candidate (moved q) = 1
  candidate managed = 2
  candidate (detached cause) = 3

  which_is : (e : Noted) (k : ℕ) (a : Closes r t e k) → which a ≡ candidate e
  unfolding candidate
  which_is e k (by_fifteenth o b) = refl
  which_is e k by_management = refl
  which_is e k by_detach = refl

  pub one_condition : (e : Noted) (j k : ℕ) (a : Closes r t e j) (b : Closes r t e k) → which a ≡ which b
  one_condition e j k a b = which_is e j a ∙ sym (which_is e k b)

  pub one_cause : (e : Noted) (j k : ℕ) → Closes r t e j → Closes r t e k → j ≡ k
  one_cause e j k a b =
      let p = holds_so e j a in
      let q = holds_so e k b in
      cc

pub three_alone : (h : History Place Noted) (t : ℕ) (e : Noted) (cause : ℕ) → ClosesNow rules h t e cause ↔ Closes (since_opening rules h) t e cause
three_alone = exactly_when rules Closes (λ r t e c. ((λ i. says_so r t e c i), (λ z. holds_so r t e c z)))
