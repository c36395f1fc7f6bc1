-- Each refusal has a number of its own, and none has 0, which is answered where nothing is refused.
use mathlib.Core.Path.{◌≡◌, refl, sym, ap, ◌∙◌}
use mathlib.Core.Bool.{cond}
use mathlib.Core.List.{List, [], ◌∷◌}
use Prim.Native.Nat.{ℕ, ◌-◌}
use native.Mathlib.Omega.{arith}
use lib.Dec.{leb}
use borrow.Author.Tests.{le-leb}
use Rattle.std.specs.Prelude.{Option, None, Some, get_or}
use Rattle.event.specs.Rows as E
use Rattle.event.proofs.Saying as octets
use Rattle.event.proofs.Named.{named, at_most_5}
use Rattle.node.specs.declared.refusal.Refusal.{Refusal}
use Rattle.node.specs.declared.refusal.Refusal.TheVariants as R
use Rattle.node.specs.Refusal.{number_of, answer_of}

pub numbered : (r : Refusal) → number_of r ≡ 0 → ⊥
numbered (R.Octets r) e = octets.numbered r e
numbered R.Time e = omega arith
numbered R.TooMany e = omega arith
numbered R.NotActive e = omega arith
numbered R.Active e = omega arith
numbered R.NoSlot e = omega arith
numbered R.NoRoom e = omega arith
numbered R.BadProfile e = omega arith
numbered R.Unsound e = omega arith
numbered R.OddList e = omega arith
numbered R.Attached e = omega arith
numbered R.NotAttached e = omega arith
numbered R.NoPlace e = omega arith
numbered R.UnknownSet e = omega arith
numbered R.Edition e = omega arith

-- ---- back

-- those that are none of an event's octets, from 6 on
abbrev later : List Refusal
later =
    R.Time
    ∷ R.TooMany
    ∷ R.NotActive
    ∷ R.Active
    ∷ R.NoSlot
    ∷ R.NoRoom
    ∷ R.BadProfile
    ∷ R.Unsound
    ∷ R.OddList
    ∷ R.Attached
    ∷ R.NotAttached
    ∷ R.NoPlace
    ∷ R.UnknownSet
    ∷ R.Edition
    ∷ []

-- the refusal with a number
abbrev refusal_of : ℕ → Refusal
refusal_of n = cond (leb n 5) (R.Octets (E.refusal_of n)) (get_or later (n - 6) R.Time)

is_named : (r : Refusal) → refusal_of (number_of r) ≡ r
is_named (R.Octets r) = rw (le-leb (E.number_of r) 5 (at_most_5 r)) (ap (λ x. R.Octets x) (named r))
is_named R.Time = refl
is_named R.TooMany = refl
is_named R.NotActive = refl
is_named R.Active = refl
is_named R.NoSlot = refl
is_named R.NoRoom = refl
is_named R.BadProfile = refl
is_named R.Unsound = refl
is_named R.OddList = refl
is_named R.Attached = refl
is_named R.NotAttached = refl
is_named R.NoPlace = refl
is_named R.UnknownSet = refl
is_named R.Edition = refl

-- two refusals with one number are equal
pub same_number : (r q : Refusal) → number_of r ≡ number_of q → r ≡ q
same_number r q e = sym (is_named r) ∙ ap (λ n. refusal_of n) e ∙ is_named q

-- and two that are there or not, with one answer
pub same_answer : (r q : Option Refusal) → answer_of r ≡ answer_of q → r ≡ q
same_answer None None e = refl
same_answer None (Some q) e = absurd (numbered q (sym e))
same_answer (Some r) None e = absurd (numbered r e)
same_answer (Some r) (Some q) e = ap (λ x. Some x) (same_number r q e)
