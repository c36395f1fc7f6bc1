-- The first row that fits, of any rows.
use mathlib.Core.Path.{◌≡◌, refl}
use mathlib.Core.Bool.{Bool, true, false}
use mathlib.Core.List.{List, ◌∷◌}
use Prim.Native.Nat.{ℕ, ◌<◌}
use native.Mathlib.Omega.{arith}
use Rattle.event.specs.Rows.{Row, row, first_fit}

-- where no row fits, the first does not, and none after it
pub record Passed (t : Bool) (rs : List Row) : Type 0 where
  pub fails : t ≡ false
  pub rest : first_fit rs ≡ 0

pub passed : (n : ℕ) (t : Bool) (rs : List Row) → 0 < n → first_fit (row n t ∷ rs) ≡ 0 → Passed t rs
unfolding first_fit
passed n true rs h e = absurd (omega arith)
passed n false rs h e = record { fails = refl; rest = e }
