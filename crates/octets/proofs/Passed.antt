-- A test of all octets, as an iterator runs it; and octets gathered bit by bit.
use mathlib.Core.Path.{◌≡◌, refl, sym, ap, ◌∙◌}
use mathlib.Core.Bool.{Bool, true, false, ◌&&◌, and-true, and_assoc}
use mathlib.Core.List.{List, [], ◌∷◌}
use Prim.Native.Nat.{ℕ}
use native.Mathlib.Omega.{arith}
use lib.Bits.{bit_or, or_add_and, and_le_l, and_le_r}
use lib.Dec.{eqb}
use borrow.Author.Tests.{eqb-true, eq-eqb}
use Rattle.std.specs.List.{list_all, fold}
use Rattle.octets.specs.Chars.{all_of, is_zero}

-- std's test of all is ours
pub all_is : (p : ℕ → Bool) (s : List ℕ) → list_all p s ≡ all_of p s
unfolding all_of
all_is p [] = refl
all_is p (x ∷ s) = ap (λ (t : Bool). p x && t) (all_is p s)

-- ---- octets gathered bit by bit: nothing is gathered where all are zero

or_zero_lem : (a b : ℕ) → eqb (bit_or a b) 0 ≡ (eqb a 0 && eqb b 0)
or_zero_lem a b = by (eqb (bit_or a b) 0) refl
  where
    by : (t : Bool) → eqb (bit_or a b) 0 ≡ t → t ≡ (eqb a 0 && eqb b 0)
    by true h =
        let e : bit_or a b ≡ 0 = eqb-true (bit_or a b) 0 h in
        let f : a ≡ 0 = omega (arith, or_add_and a b, and_le_r a b) in
        let g : b ≡ 0 = omega (arith, or_add_and a b, and_le_l a b) in
        rw (eq-eqb a 0 f, eq-eqb b 0 g)
    by false h = not_both (eqb a 0) refl
      where
        not_both : (t : Bool) → eqb a 0 ≡ t → false ≡ (t && eqb b 0)
        not_both false k = refl
        not_both true k = sym h ∙ ap (λ (x : ℕ). eqb (bit_or x b) 0) (eqb-true a 0 k)

-- what is gathered of the octets, after all
pub gathered : (all : ℕ) (s : List ℕ) → eqb (fold bit_or all s) 0 ≡ (eqb all 0 && all_of is_zero s)
unfolding all_of
gathered all [] = sym (and-true (eqb all 0))
gathered all (x ∷ s) =
    gathered (bit_or all x) s
    ∙ ap (λ (t : Bool). t && all_of is_zero s) (or_zero_lem all x)
    ∙ and_assoc (eqb all 0) (eqb x 0) (all_of is_zero s)
