-- An array that a closure makes, an element at each index: where no call changes the closure, the elements are those of a function of the index.
use mathlib.Core.Path.{◌≡◌, sym, subst, ◌∙◌}
use mathlib.Core.List.{List}
use Prim.Native.Nat.{ℕ, suc, zero, ◌+◌, ◌<◌}
use native.Mathlib.Omega.{arith}
use lib.ListN.{length, get_or}
use denote.Param.Members.{Mut}
use Rattle.std.specs.Fn.{Called}
use Rattle.std.specs.Array.{IsFromFnResult, IsFromFnResultFrom}
use Rattle.std.proofs.lemmas.List.{same_lists}

module _ {F B : Type 0} (g : Mut F (ℕ × Unit {0}) B) (h : ℕ → B) (f : F) (m : ℕ)
    (says : (i : ℕ) (y : B) (q : F) → i < m → Called g f (i, tt) y q → (q ≡ f) × (y ≡ h i)) where
  elements : (ys : List B) (i n : ℕ) → i + n ≡ m → IsFromFnResultFrom g f ys i n → (j k : ℕ) (d : B) → i + j ≡ k → j < n → get_or ys k d ≡ h k
  elements ys i zero e c j k d s l = absurd (omega arith)
  elements ys i (suc n) e (q, y, at, c, r) zero k d s l = let z : k ≡ i = omega arith in rw z (at.1 d ∙ (says i y q (omega arith) c).1)
  elements ys i (suc n) e (q, y, at, c, r) (suc j) k d s l =
      let w = subst (λ (p : F). IsFromFnResultFrom g p ys (i + 1) n) (says i y q (omega arith) c).0 r in
      elements ys (i + 1) n (omega arith) w j k d (omega arith) (omega arith)

  -- such an array is a list of that length with those elements
  pub made : (ys xs : List B) → IsFromFnResult g f ys m → length xs ≡ m → ((i : ℕ) (d : B) → i < m → get_or xs i d ≡ h i) → ys ≡ xs
  made ys xs c l e =
      same_lists ys xs (c.long ∙ sym l)
      (λ k d b. let s : k < m = omega (arith, c.long) in elements ys 0 m (omega arith) c.each k k d (omega arith) s ∙ sym (e k d s))
