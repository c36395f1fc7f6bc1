-- No two refusals have one number: each is the one that its number names.
use mathlib.Core.Path.{◌≡◌, refl, sym, ap, ◌∙◌}
use Prim.Native.Nat.{◌≤◌}
use native.Mathlib.Omega.{arith}
use Rattle.event.specs.Rows.{number_of, refusal_of}
use Rattle.event.specs.declared.Refusal.{Refusal}
use Rattle.event.specs.declared.Refusal.TheVariants.{TooShort, NoMark, UnknownKind, WrongLength, OutOfRange}

pub named : (r : Refusal) → refusal_of (number_of r) ≡ r
unfolding refusal_of
named TooShort = refl
named NoMark = refl
named UnknownKind = refl
named WrongLength = refl
named OutOfRange = refl

pub same_number : (r q : Refusal) → number_of r ≡ number_of q → r ≡ q
same_number r q e = sym (named r) ∙ ap refusal_of e ∙ named q

-- there are five
pub at_most_5 : (r : Refusal) → number_of r ≤ 5
at_most_5 TooShort = omega arith
at_most_5 NoMark = omega arith
at_most_5 UnknownKind = omega arith
at_most_5 WrongLength = omega arith
at_most_5 OutOfRange = omega arith
