-- The check of an access point name: the name with its letters lowered, which is one of a record, or none. And of two spellings of one name.
use mathlib.Core.Path.{◌≡◌, refl, sym, ap, ◌∙◌}
use mathlib.Core.Bool.{Bool, true, false, not, ◌&&◌}
use mathlib.Core.List.{List}
use Prim.Native.Nat.{ℕ, zero, suc, ◌-◌, ◌<◌}
use native.Mathlib.Omega.{arith}
use lib.Dec.{leb, eqb}
use lib.ListN.{length, take, replicate}
use lib.Seq.{drop-append_seam}
use borrow.Author.Tests.{le-leb, lt-leb, ne_eqb}
use Rattle.format.proofs.Tests.{by, T_true, true_T}
use Rattle.octets.specs.Chars.{all_of, apn_char, is_zero, lowered}
use Rattle.octets.specs.Filled.{fill_to}
use Rattle.octets.specs.Names.{apn_ok, is_apn, checked_apn}
use Rattle.octets.proofs.Filled.{take_fill}
use Rattle.octets.proofs.Lowered.{lowered_length, lowered_twice, lowered_chars}
use Rattle.octets.proofs.NameRules.{apn_rules, spelled_rules}

tests_with_true : (a b c : Bool) → (a && b && c && true) ≡ (a && b && c)
tests_with_true true true true = refl
tests_with_true true true false = refl
tests_with_true true false c = refl
tests_with_true false b c = refl

all_zero : (n : ℕ) → all_of is_zero (replicate n 0) ≡ true
unfolding all_of
all_zero zero = refl
all_zero (suc n) = all_zero n

-- a name filled up with zeros is one of a record by its characters
apn_filled : (xs : List ℕ) → apn_ok (fill_to 63 0 xs) (length xs) ≡ (leb 1 (length xs) && leb (length xs) 63 && all_of apn_char xs)
unfolding apn_ok fill_to
apn_filled xs =
    rw (take_fill 63 0 xs, drop-append_seam xs (replicate (63 - length xs) 0), all_zero (63 - length xs))
    (tests_with_true (leb 1 (length xs)) (leb (length xs) 63) (all_of apn_char xs))

module _ (s : List ℕ) where
  name_is : apn_ok (fill_to 63 0 (lowered s)) (length s) ≡ is_apn s
  unfolding is_apn
  name_is = ap (apn_ok (fill_to 63 0 (lowered s))) (sym (lowered_length s)) ∙ apn_filled (lowered s) ∙ rw (lowered_length s)

  -- the name that is handed back
  pub checked_apn_lem : is_apn s ≡ true → checked_apn s ≡ record { apn = fill_to 63 0 (lowered s); n = length s }
  unfolding checked_apn
  checked_apn_lem e = rw e

  pub checked_none : is_apn s ≡ false → checked_apn s ≡ record { apn = replicate 63 0; n = 0 }
  unfolding checked_apn fill_to
  checked_none e = rw e

  -- whether there is one, its length tells
  pub some_name : not (eqb (checked_apn s).n 0) ≡ is_apn s
  some_name =
      by (is_apn s)
      (λ e. rw (checked_apn_lem e, e) (ap not (ne_eqb (length s) 0 (λ z. omega (arith, (spelled_rules s e).least)))))
      (λ e. rw (checked_none e, e) refl)

  pub no_name : length s ≡ 0 → is_apn s ≡ false
  unfolding is_apn
  no_name e = rw e

  pub apn_long : 63 < length s → is_apn s ≡ false
  unfolding is_apn
  apn_long h = rw (le-leb 1 (length s) (omega arith), lt-leb (length s) 63 h)

  -- the name is one of a record once it is lowered, and so is the one that is handed back
  pub lowered_stored : is_apn s ≡ true → apn_ok (fill_to 63 0 (lowered s)) (length (lowered s)) ≡ true
  lowered_stored e = ap (apn_ok (fill_to 63 0 (lowered s))) (lowered_length s) ∙ name_is ∙ e

  pub checked_stored : is_apn s ≡ true → apn_ok (checked_apn s).apn (checked_apn s).n ≡ true
  checked_stored e = rw (checked_apn_lem e) (name_is ∙ e)

  -- by what the code finds
  pub found_apn : {a : List ℕ} {u t : Bool} → a ≡ fill_to 63 0 (lowered s) → u ≡ apn_ok a (length s) → u ≡ t → is_apn s ≡ t
  found_apn e f g = sym name_is ∙ ap (λ (l : List ℕ). apn_ok l (length s)) (sym e) ∙ sym f ∙ g

-- Of two spellings of one name both are names or neither is, and the same name is handed back: that of "Crew.Ship" and of "crew.ship".
module _ (s t : List ℕ) (e : lowered s ≡ lowered t) where
  pub spelled_length : length s ≡ length t
  spelled_length = sym (lowered_length s) ∙ ap length e ∙ lowered_length t

  pub spelled_name : is_apn s ≡ is_apn t
  unfolding is_apn
  spelled_name = rw (spelled_length, e)

  pub spelled_same : checked_apn s ≡ checked_apn t
  unfolding checked_apn
  spelled_same = rw (spelled_name, spelled_length, e)

-- A name that is stored is lowered: a record and a node have no capitals.
pub stored_lowered : (a : List ℕ) (n : ℕ) → apn_ok a n ≡ true → lowered (take n a) ≡ take n a
stored_lowered a n e = lowered_chars (take n a) (T_true (all_of apn_char (take n a)) (apn_rules a n (true_T (apn_ok a n) e)).chars)

-- The lowered name, checked again, is handed back as it is.
pub checked_again : (s : List ℕ) → checked_apn (lowered s) ≡ checked_apn s
checked_again s = spelled_same (lowered s) s (lowered_twice s)
