-- The first fault, of any two.
use mathlib.Core.Path.{◌≡◌, refl, sym}
use mathlib.Core.Bool.{Bool, true, false, ◌&&◌}
use Prim.Native.Nat.{ℕ, ◌≤◌}
use native.Mathlib.Omega.{arith}
use Rattle.std.specs.Prelude.{Option, None, Some, IfSome, is_none}
use Rattle.std.specs.Option.{option_or}
use Rattle.std.proofs.lemmas.Option.{none-some}
use Rattle.profile.specs.Fault.{unless, or_bad}
use Rattle.profile.specs.declared.fault.Fault.{Fault}
use Rattle.profile.specs.declared.fault.BadLine.{BadLine}

-- no test is both met and not met
pub clash : {X : Type 0} {t : Bool} → t ≡ true → t ≡ false → X
clash e f = absurd (let z : ◌≡◌ {A = ℕ} 0 1 = cc in omega arith)

pub both : (a b : Bool) → (a && b) ≡ true → (a ≡ true) × (b ≡ true)
both true true e = (refl, refl)
both true false e = (refl, e)
both false b e = clash e refl

pub both_is : {a b : Bool} → a ≡ true → b ≡ true → (a && b) ≡ true
both_is e f = rw (e, f)

-- where no fault is found, each test is met
pub unless_met : {t : Bool} (f : Fault) {g : Option Fault} → t ≡ true → g ≡ None → unless t f g ≡ None
unfolding unless
unless_met f e h = rw (e, h)

-- ---- the other way round

pub is_none_lem : (f : Option Fault) → is_none f ≡ true → f ≡ None
is_none_lem None e = refl
is_none_lem (Some f) e = clash e refl

pub met_unless : (t : Bool) (f : Fault) (g : Option Fault) → unless t f g ≡ None → (t ≡ true) × (g ≡ None)
unfolding unless
met_unless true f g e = (refl, e)
met_unless false f g e = absurd (none-some f (sym e))

-- where two have no first fault, neither has one
pub none_first : (f g : Option Fault) → option_or f g ≡ None → (f ≡ None) × (g ≡ None)
none_first None g e = (refl, e)
none_first (Some f) g e = absurd (none-some f (sym e))

pub none_bad : (n : ℕ) (f : Option Fault) (b : Option BadLine) → or_bad n f b ≡ None → (f ≡ None) × (b ≡ None)
unfolding or_bad
none_bad n None b e = (refl, e)
none_bad n (Some f) b e = absurd (none-some _ (sym e))

-- ---- the number of a bad line

abbrev pub Within : ℕ → BadLine → Type 0
Within m b = (1 ≤ b.line) × (b.line ≤ m)

pub bad_within : (m n : ℕ) (f : Option Fault) (b : Option BadLine) → 1 ≤ n → n ≤ m → IfSome b (Within m) → IfSome (or_bad n f b) (Within m)
unfolding or_bad
bad_within m n None b h k a = a
bad_within m n (Some f) b h k a = (h, k)
