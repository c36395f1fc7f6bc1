-- The octets of an IMSI are octets: each half of one is a digit or F.
use mathlib.Core.Path.{◌≡◌}
use mathlib.Core.Bool.{true}
use mathlib.Core.List.{List, [], ◌∷◌}
use Prim.Native.Nat.{ℕ, ◌<◌}
use native.Mathlib.Omega.{arith}
use lib.Dec.{T, ltb, eqb}
use lib.ListN.{drop}
use borrow.Author.Tests.{ltb-true, eqb-true, lt-ltb}
use Rattle.format.proofs.Tests.{by, T_true, true_T, and_l, and_r, and_i}
use Rattle.ber.specs.Int.{all_octets}
use Rattle.ber.specs.Imsi.{halves, leading, all_f, imsi_ok}
use Rattle.ber.proofs.Imsis.{imsi_rules}
use Rattle.history.specs.Lists.{All}

all_f_lem : (hs : List ℕ) → T (all_f hs) → All (λ h. h < 16) hs
unfolding all_f
all_f_lem [] t = tt
all_f_lem (h ∷ hs) t =
    (omega (arith, eqb-true h 15 (T_true (eqb h 15) (and_l (eqb h 15) (all_f hs) t))), all_f_lem hs (and_r (eqb h 15) (all_f hs) t))

small : (hs : List ℕ) → T (all_f (drop (leading hs) hs)) → All (λ h. h < 16) hs
unfolding leading
small [] t = tt
small (h ∷ hs) t = by (ltb h 10) (λ e. (omega (arith, ltb-true h 10 e), small hs (rw e at t))) (λ e. all_f_lem (h ∷ hs) (rw e at t))

whole : (s : List ℕ) → All (λ h. h < 16) (halves s) → T (all_octets s)
unfolding halves all_octets
whole [] a = tt
whole (x ∷ s) a = let h = a.1.0 in and_i (ltb x 256) (all_octets s) (true_T (ltb x 256) (lt-ltb x 256 (omega arith))) (whole s a.1.1)

pub imsi_octets : (s : List ℕ) → imsi_ok s ≡ true → T (all_octets s)
imsi_octets s e = whole s (small (halves s) (imsi_rules s (true_T (imsi_ok s) e)).rest)
