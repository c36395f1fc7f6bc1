-- Lists filled up to a length: what was filled up is the front again, and a front with the rest blank fills up to the whole.
use mathlib.Core.Path.{◌≡◌, refl, ap, ap₂, ◌∙◌}
use mathlib.Core.List.{List, [], ◌∷◌, ◌++◌}
use Prim.Native.Nat.{ℕ, zero, suc, ◌-◌, ◌≤◌}
use native.Mathlib.Omega.{arith}
use lib.Dec.{T, eqb, eqb→eq}
use lib.ListN.{length, take, drop, replicate, length-append, length-drop, length-replicate, take-append-drop}
use lib.Seq.{take_at, length-take-le}
use Rattle.format.proofs.Tests.{and_l, and_r}
use Rattle.octets.specs.Chars.{all_of, is_zero}
use Rattle.octets.specs.Filled.{fill_to}

module _ {A : Type 0} (n : ℕ) (d : A) where
  pub take_fill : (xs : List A) → take (length xs) (fill_to n d xs) ≡ xs
  unfolding fill_to
  take_fill xs = take_at xs (replicate (n - length xs) d) (length xs) refl

  pub fill_length : (xs : List A) → length xs ≤ n → length (fill_to n d xs) ≡ n
  unfolding fill_to
  fill_length xs h = length-append xs (replicate (n - length xs) d) ∙ rw (length-replicate (n - length xs) d) (omega arith)

  pub fill_take : (k : ℕ) (a : List A) → length a ≡ n → k ≤ n → drop k a ≡ replicate (length (drop k a)) d → fill_to n d (take k a) ≡ a
  unfolding fill_to
  fill_take k a l h z =
      let t : length (take k a) ≡ k = length-take-le k a (omega arith) in
      let m : length (drop k a) ≡ n - k = length-drop k a ∙ rw l in
      rw (t, ← m, ← z, take-append-drop k a)

-- what is copied to the front of so many d is filled up by those that are left
drop_replicate : {A : Type 0} (k n : ℕ) (d : A) → drop k (replicate n d) ≡ replicate (n - k) d
drop_replicate zero n d = let e : n ≡ n - 0 = omega arith in ap (λ (m : ℕ). replicate m d) e
drop_replicate (suc k) zero d = let e : 0 ≡ 0 - suc k = omega arith in ap (λ (m : ℕ). replicate m d) e
drop_replicate (suc k) (suc n) d = let e : n - k ≡ suc n - suc k = omega arith in drop_replicate k n d ∙ ap (λ (m : ℕ). replicate m d) e

pub fill_over : (n : ℕ) {A : Type 0} (d : A) (xs : List A) → xs ++ drop (length xs) (replicate n d) ≡ fill_to n d xs
unfolding fill_to
fill_over n d xs = ap (λ (l : List _). xs ++ l) (drop_replicate (length xs) n d)

pub zeros_are : (xs : List ℕ) → T (all_of is_zero xs) → xs ≡ replicate (length xs) 0
unfolding all_of
zeros_are [] h = refl
zeros_are (x ∷ xs) h =
    ap₂ {C = List ℕ} (λ y ys. y ∷ ys) (eqb→eq x 0 (and_l (eqb x 0) (all_of is_zero xs) h)) (zeros_are xs (and_r (eqb x 0) (all_of is_zero xs) h))
