-- Fronts and rests of lists.
use mathlib.Core.Path.{◌≡◌, sym}
use mathlib.Core.List.{List, [], ◌∷◌}
use Prim.Native.Nat.{ℕ, zero, suc, ◌-◌}
use native.Mathlib.Numerals.{unary_clauses}
use native.Mathlib.Omega.{arith}
use lib.ListN.{take, drop, replicate}
use lib.Seq.{take-nil}

pub drop_take : (k h : ℕ) (s : List ℕ) → drop k (take h s) ≡ take (h - k) (drop k s)
drop_take zero h s = simp unary_clauses
drop_take (suc k) zero s = let z : 0 - suc k ≡ 0 = omega arith in rw z
drop_take (suc k) (suc h) [] = sym (take-nil (suc h - suc k))
drop_take (suc k) (suc h) (x ∷ s) = simp unary_clauses (drop_take k h s)

pub drop_zeros : (n m : ℕ) → drop {A = ℕ} n (replicate m 0) ≡ replicate (m - n) 0
drop_zeros zero m = simp unary_clauses
drop_zeros (suc n) zero = let z : 0 - suc n ≡ 0 = omega arith in rw z
drop_zeros (suc n) (suc m) = simp unary_clauses (drop_zeros n m)
