-- The number in k octets from a place on, octet by octet: one law for every k.
use mathlib.Core.Path.{◌≡◌, refl, ap, ◌∙◌}
use mathlib.Core.List.{List, [], ◌∷◌, ◌++◌}
use Prim.Native.Nat.{ℕ, zero, suc, ◌+◌, ◌*◌, ◌≤◌}
use native.Mathlib.Omega.{arith}
use lib.ListN.{length, get_or, take, drop}
use lib.Seq.{drop-cons}
use Rattle.ber.specs.Int.{spelt, octets_from, number_in}
use Rattle.ber.proofs.Ints.{spelt_snoc}

octets_snoc : (k at : ℕ) (s : List ℕ) → octets_from (suc k) at s ≡ octets_from k at s ++ get_or s (at + k) 0 ∷ []
unfolding octets_from
octets_snoc zero at s = let z : at ≡ at + 0 = omega arith in ap (λ (i : ℕ). get_or s i 0 ∷ []) z
octets_snoc (suc k) at s =
    let z : suc at + k ≡ at + suc k = omega arith in
    ap (λ (l : List ℕ). get_or s at 0 ∷ l) (octets_snoc k (suc at) s ∙ ap (λ (i : ℕ). octets_from k (suc at) s ++ get_or s i 0 ∷ []) z)

pub number_more : (k at : ℕ) (s : List ℕ) → number_in (suc k) at s ≡ number_in k at s * 256 + get_or s (at + k) 0
unfolding number_in
number_more k at s = ap (spelt 0) (octets_snoc k at s) ∙ spelt_snoc 0 (octets_from k at s) (get_or s (at + k) 0)

octets_part : (k at : ℕ) (s : List ℕ) → at + k ≤ length s → take k (drop at s) ≡ octets_from k at s
unfolding octets_from
octets_part zero at s h = refl
octets_part (suc k) at s h =
    ap (take (suc k)) (drop-cons s at 0 (omega arith)) ∙ ap (λ (l : List ℕ). get_or s at 0 ∷ l) (octets_part k (suc at) s (omega arith))

-- the number that the part of k octets at a place spells
pub number_part : (k at : ℕ) (s : List ℕ) → at + k ≤ length s → spelt 0 (take k (drop at s)) ≡ number_in k at s
unfolding number_in
number_part k at s h = ap (spelt 0) (octets_part k at s h)
