-- The octets of a node ID, copied over zeros.
use mathlib.Core.Path.{◌≡◌, refl, ap, ◌∙◌}
use mathlib.Core.List.{List, [], ◌∷◌, ◌++◌}
use Prim.Native.Nat.{ℕ, zero, suc, ◌≤◌}
use native.Mathlib.Omega.{arith}
use lib.ListN.{length, take, drop, replicate}
use Rattle.profile.specs.Node.{node_octets}

zeros_front : (n w : ℕ) → n ≤ w → replicate {A = ℕ} n 0 ≡ take n (replicate w 0)
zeros_front zero w h = refl
zeros_front (suc n) zero h = absurd (omega arith)
zeros_front (suc n) (suc w) h = ap (◌∷◌ 0) (zeros_front n w (omega arith))

filled : (v : List ℕ) (n w : ℕ) → length v ≤ n → n ≤ w → v ++ drop (length v) (replicate n 0) ≡ take n (v ++ replicate w 0)
filled [] n w h k = zeros_front n w k
filled (x ∷ v) zero w h k = absurd (omega arith)
filled (x ∷ v) (suc n) w h k = ap (◌∷◌ x) (filled v n w (omega arith) (omega arith))

front_front : (v u : List ℕ) (n : ℕ) → take n (take n v ++ u) ≡ take n (v ++ u)
front_front v u zero = refl
front_front [] u (suc n) = refl
front_front (x ∷ v) u (suc n) = ap (◌∷◌ x) (front_front v u n)

pub front_le : (n : ℕ) (v : List ℕ) → length (take n v) ≤ n
front_le zero v = omega arith
front_le (suc n) [] = omega arith
front_le (suc n) (x ∷ v) = omega (arith, front_le n v)

pub copied : (v : List ℕ) {w out : List ℕ} → w ≡ take 20 v → out ≡ w → out ++ drop (length w) (replicate 20 0) ≡ node_octets v
unfolding node_octets
copied v {w} e g =
    ap (λ (l : List ℕ). l ++ drop (length w) (replicate 20 0)) g
    ∙ filled w 20 20 (rw e (front_le 20 v)) (omega arith)
    ∙ ap (λ (l : List ℕ). take 20 (l ++ replicate 20 0)) e
    ∙ front_front v (replicate 20 0) 20
