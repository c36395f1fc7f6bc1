-- Arrays of structs.
use mathlib.Core.Path.{◌≡◌, sym, ap₂, ◌∙◌}
use mathlib.Core.List.{List, [], ◌∷◌, map}
use Prim.Native.Nat.{ℕ, ◌+◌, ◌≤◌, ◌<◌}
use native.Mathlib.Numerals.{add-one}
use native.Mathlib.Omega.{arith}
use lib.ListN.{length, take, drop, get_or, length-map, drop_of_length-le}
use lib.Seq.{drop-cons, get_or-take, length-take-le}

-- the length of an array of structs, which the checker knows of what the structs are in memory
pub length_of_map : {A B : Type 0} (f : A → B) (l : List A) (n : ℕ) → length (map f l) ≡ n → length l ≡ n
length_of_map f l n e = sym (length-map l f) ∙ e

-- the first n of an array, looked at one after another
module _ {A : Type 0} (v : List A) (n : ℕ) (r : n ≤ length v) where
  pub front_cons : (i : ℕ) (d : A) → i < n → drop i (take n v) ≡ get_or v i d ∷ drop (i + 1) (take n v)
  front_cons i d h =
      drop-cons (take n v) i d (omega (arith, length-take-le n v r))
      ∙ ap₂ {C = List A} (λ c j. c ∷ drop j (take n v)) (get_or-take n v i d h) (sym (add-one i))

  pub front_end : (i : ℕ) → n ≤ i → drop i (take n v) ≡ []
  front_end i h = drop_of_length-le (take n v) {i = i} (omega (arith, length-take-le n v r))
