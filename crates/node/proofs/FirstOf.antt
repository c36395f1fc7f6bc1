-- What the first of several tests gives.
use mathlib.Core.Path.{◌≡◌, refl}
use mathlib.Core.Bool.{Bool, true, false}
use Rattle.std.specs.Prelude.{Option, None, Some}
use Prim.Native.Nat.{ℕ}
use native.Mathlib.Omega.{arith}
use Rattle.history.specs.Lists.{test, or_else}

pub test_none : (b : Bool) (n : ℕ) → test b n ≡ None → b ≡ false
test_none true n e = absurd (let z : ◌≡◌ {A = ℕ} 0 1 = cc in omega arith)
test_none false n e = refl

pub test_is : (b : Bool) (n : ℕ) {k : ℕ} → test b n ≡ Some k → k ≡ n
test_is true n {k} e = let z : n ≡ k = cc in rw z
test_is false n {k} e = absurd (let z : ◌≡◌ {A = ℕ} 0 1 = cc in omega arith)

pub neither_none : (b : Bool) (n : ℕ) (o : Option ℕ) → or_else (test b n) o ≡ None → (b ≡ false) × (o ≡ None)
neither_none true n o e = absurd (let z : ◌≡◌ {A = ℕ} 0 1 = cc in omega arith)
neither_none false n o e = (refl, e)
