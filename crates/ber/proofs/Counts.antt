-- A number that may be missing, as one and as a plain number: nothing is lost between the two.
use mathlib.Core.Path.{◌≡◌, refl}
use mathlib.Core.Bool.{true, false, not}
use Rattle.std.specs.Bool.{then_some}
use Rattle.std.specs.Prelude.{Option, None, Some}
use mathlib.Core.List.{List}
use Prim.Native.Nat.{ℕ, zero, suc, ◌^◌, ◌<◌}
use native.Mathlib.Omega.{arith}
use lib.Dec.{leb, eqb, le→leb}
use lib.ListN.{length, drop}
use borrow.Author.Tests.{ne_eqb, le-leb}
use Rattle.format.specs.Maybe.{bind, guard}
use Rattle.format.specs.Format.{Law}
use Rattle.format.proofs.Formats.{refined_law}
use Rattle.ber.specs.Int.{int, counted}
use Rattle.ber.specs.Field.{opt_good, first, maybe, starts, unless0, or_zero}
use Rattle.ber.specs.Read.{read_at}
use Rattle.ber.specs.Count.{counts}
use Rattle.ber.proofs.Ints.{int_law, int_good}
use Rattle.ber.proofs.Fields.{maybe_sound}
use Rattle.ber.proofs.Readers.{into, told_there, told_none, told_back}

pub counted_law : Law counted
counted_law = refined_law (λ n. leb 1 n) int int_law

-- a number that says that it is there
pub unless_zero : (n : ℕ) → (n ≡ 0 → ⊥) → unless0 n ≡ Some n
unless_zero zero h = absurd (h refl)
unless_zero (suc n) h = refl

pub number_kept : (n : ℕ) → or_zero (unless0 n) ≡ n
number_kept zero = refl
number_kept (suc n) = refl

-- as the code answers by it
pub counted_is : (v n : ℕ) → then_some (not (eqb v 0)) (v, n) ≡ into (λ m. Some m) (bind (guard (leb 1 v) v) (λ m. Some (m, n)))
counted_is zero n = refl
counted_is (suc v) n = rw (ne_eqb (suc v) 0 (omega arith), le-leb 1 (suc v) (omega arith))

module _ (t : ℕ) where
  pub number_good : (n : ℕ) → n < 2 ^ 64 → opt_good t counted (unless0 n)
  number_good zero h = tt
  number_good (suc n) h = (int_good (suc n) h, le→leb 1 (suc n) (omega arith))

  pub number_back : (o : Option ℕ) → opt_good t counted o → unless0 (or_zero o) ≡ o
  number_back None g = refl
  number_back (Some zero) g = absurd g.1
  number_back (Some (suc n)) g = refl

  module _ (s : List ℕ) (at : ℕ) where
    pub counts_there : starts t (drop at s) ≡ true → read_at (counts t) s at ≡ into (λ n. Some n) (read_at (first t counted) s at)
    unfolding counts
    counts_there g = told_there t counted or_zero s at g

    pub counts_none : starts t (drop at s) ≡ false → read_at (counts t) s at ≡ guard (leb at (length s)) (0, at)
    unfolding counts
    counts_none g = told_none t counted or_zero s at g

    -- as a field that may be missing
    pub counts_back : read_at (maybe t counted) s at ≡ into (λ n. Some (unless0 n)) (read_at (counts t) s at)
    unfolding counts
    counts_back = told_back t counted or_zero s at unless0 (λ z q d. number_back q.0 (maybe_sound t counted counted_law tt z q d).0)
