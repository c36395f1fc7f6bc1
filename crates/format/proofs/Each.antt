-- A test of each element of a list, as `all` of an iterator runs it: up to the first element that fails.
use Rattle.std.specs.Prelude.{◌≡◌, Bool, true, false, ◌&&◌, List, [], ◌∷◌, ℕ, zero, suc, ◌<◌, length, MatchBool, HoldsAt}
use Rattle.std.specs.List.{AllWithin}
use mathlib.Core.Path.{refl, sym}
use mathlib.Core.Bool.{and-false}
use native.Mathlib.Omega.{arith}

module _ {A : Type 0} (is : A → Bool) (all : List A → Bool) (nil : all [] ≡ true)
    (cons : (a : A) (l : List A) → all (a ∷ l) ≡ (is a && all l)) where
  each_yes : (l : List A) → AllWithin (λ a. is a ≡ true) l 0 (length l) → all l ≡ true
  each_yes [] h = nil
  each_yes (a ∷ l) h = rw (cons a l, h 0 a (omega arith) (omega arith)) (each_yes l (λ k d p q. h (suc k) d (omega arith) (omega arith)))

  each_no : (l : List A) (k : ℕ) → k < length l → HoldsAt (λ a. is a ≡ false) l k → all l ≡ false
  each_no [] k p h = absurd (omega arith)
  each_no (a ∷ l) zero p h = rw (cons a l, h a) refl
  each_no (a ∷ l) (suc k) p h = rw (cons a l, each_no l k (omega arith) h) (and-false (is a))

  -- what `all` answers of a list is what the test of the whole list says
  pub each_told : (l : List A) (r : Bool)
      → MatchBool r (AllWithin (λ a. is a ≡ true) l 0 (length l)) ((k : ℕ) × (k < length l) × HoldsAt (λ a. is a ≡ false) l k) → r ≡ all l
  each_told l true h = sym (each_yes l h)
  each_told l false h = sym (each_no l h.0 h.1 h.2)
