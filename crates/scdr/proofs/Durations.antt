-- How long a record lasted, by what the code finds.
use mathlib.Core.Path.{◌≡◌, refl, sym, ap}
use mathlib.Core.List.{List, [], ◌∷◌}
use Prim.Native.Nat.{ℕ, zero, suc, ◌-◌, ◌≤◌, ◌<◌}
use native.Mathlib.Nat.{le_of_suc-le-suc, not-suc-le-zero}
use native.Mathlib.Omega.{arith}
use lib.ListN.{length, take, get_or}
use Rattle.container.specs.declared.Container.{Container}
use Rattle.scdr.specs.Rules.{last_time, duration_from}

-- ---- the last container's time

last_at : (t : ℕ) (cs : List Container) (n : ℕ) (d : Container) → n < length cs → last_time t (take (suc n) cs) ≡ (get_or cs n d).time.seconds
unfolding last_time
last_at t [] n d h = absurd (not-suc-le-zero h)
last_at t (c ∷ cs) zero d h = refl
last_at t (c ∷ cs) (suc n) d h = last_at c.time.seconds cs n d (le_of_suc-le-suc h)

pub last_is : (t : ℕ) (cs : List Container) (n : ℕ) (d : Container) → 1 ≤ n → n ≤ length cs → last_time t (take n cs) ≡ (get_or cs (n - 1) d).time.seconds
last_is t cs zero d h k = absurd (omega arith)
last_is t cs (suc n) d h k = let e : suc n - 1 ≡ n = omega arith in rw e (last_at t cs n d k)

pub duration_none : (t : ℕ) (cs : List Container) (n : ℕ) → n ≡ 0 → 0 ≡ duration_from t (take n cs)
unfolding last_time
duration_none t cs n e = rw e (omega arith)

pub duration_is : (t : ℕ) (cs : List Container) (n : ℕ) (d : Container) → 1 ≤ n → n ≤ length cs
    → (get_or cs (n - 1) d).time.seconds - t ≡ duration_from t (take n cs)
duration_is t cs n d h k = ap (λ (x : ℕ). x - t) (sym (last_is t cs n d h k))
