-- The laws of the sets of limits, by their numbers and by their places.
use mathlib.Core.Path.{◌≡◌, refl, sym, ap, ◌∙◌}
use mathlib.Core.Bool.{Bool, true, false, cond, ◌&&◌}
use mathlib.Core.List.{List, [], ◌∷◌}
use Prim.Native.Nat.{ℕ, zero, suc, ◌+◌, ◌-◌, ◌≤◌, ◌<◌}
use native.Mathlib.Numerals.{add-one, unary_clauses}
use native.Mathlib.Omega.{arith}
use lib.Dec.{leb, ltb, eqb}
use lib.ListN.{length, drop, get_or, set, length-set, drop_of_length-le}
use lib.Seq.{drop-cons}
use borrow.Author.Tests.{lt-ltb, le-ltb, leb-true, le-leb, lt-leb, eqb-true, eq-eqb}
use Rattle.format.proofs.Tests.{both, either}
use Rattle.limits.specs.declared.Limits.{Limits}
use Rattle.limits.specs.declared.LimitSet.{LimitSet}
use Rattle.limits.specs.Limits.{limits_ok}
use Rattle.limits.specs.Sets.{has_set, no_set, given, first_editions, set_ok, blank_set, used_ok, sets_ok, set_at, limits_of, replaced}

-- ---- by the place of a number

pub at_number : (number : ℕ) (ss : List LimitSet) → 1 ≤ number → set_at number ss ≡ get_or ss (number - 1) no_set
unfolding set_at
at_number zero ss h = absurd (omega arith)
at_number (suc i) ss h = simp unary_clauses

pub none_at : (number : ℕ) (ss : List LimitSet) → number < 1 → no_set ≡ set_at number ss
unfolding set_at
none_at zero ss h = refl
none_at (suc i) ss h = absurd (omega arith)

pub in_number : (number : ℕ) (s : LimitSet) (ss : List LimitSet) → 1 ≤ number → replaced number s ss ≡ set ss (number - 1) s
unfolding replaced
in_number zero s ss h = absurd (omega arith)
in_number (suc i) s ss h = simp unary_clauses

-- a place past the last has no set, and nothing is replaced there
get_d_past : (ss : List LimitSet) (i : ℕ) → length ss ≤ i → get_or ss i no_set ≡ no_set
get_d_past [] i h = refl
get_d_past (s ∷ ss) zero h = absurd (omega arith)
get_d_past (s ∷ ss) (suc i) h = get_d_past ss i (omega arith)

set_past : (ss : List LimitSet) (i : ℕ) (s : LimitSet) → length ss ≤ i → set ss i s ≡ ss
set_past [] i s h = refl
set_past (x ∷ ss) zero s h = absurd (omega arith)
set_past (x ∷ ss) (suc i) s h = ap (λ (l : List LimitSet). x ∷ l) (set_past ss i s (omega arith))

pub past_number : (number : ℕ) (ss : List LimitSet) → length ss < number → no_set ≡ set_at number ss
past_number number ss h = sym (at_number number ss (omega arith) ∙ get_d_past ss (number - 1) (omega arith))

pub past_replaced : (number : ℕ) (s : LimitSet) (ss : List LimitSet) → length ss < number → ss ≡ replaced number s ss
past_replaced number s ss h = sym (in_number number s ss (omega arith) ∙ set_past ss (number - 1) s (omega arith))

-- ---- looked at one place after another: the first n are used

used_cons : (n : ℕ) (s : LimitSet) (ss : List LimitSet) → used_ok n (s ∷ ss) ≡ (cond (ltb 0 n) (set_ok s) (blank_set s) && used_ok (n - 1) ss)
unfolding used_ok
used_cons zero s ss = refl
used_cons (suc n) s ss = simp (unary_clauses, lt-ltb 0 (suc n) (omega arith))

ltb_rest : (i n : ℕ) → ltb 0 (n - i) ≡ ltb i n
ltb_rest i n = either n i (λ h. le-ltb 0 (n - i) (omega arith) ∙ sym (le-ltb i n h)) (λ h. lt-ltb 0 (n - i) (omega arith) ∙ sym (lt-ltb i n h))

module _ (n : ℕ) (ss : List LimitSet) (i : ℕ) (d : LimitSet) (h : i < length ss) where
  here : used_ok (n - i) (drop i ss) ≡ (cond (ltb i n) (set_ok (get_or ss i d)) (blank_set (get_or ss i d)) && used_ok (n - (i + 1)) (drop (i + 1) ss))
  here =
      let e : n - i - 1 ≡ n - (i + 1) = omega arith in
      ap (used_ok (n - i)) (drop-cons ss i d h) ∙ used_cons (n - i) (get_or ss i d) (drop (suc i) ss) ∙ rw (ltb_rest i n, e, add-one i)

  pub looked_no : cond (ltb i n) (set_ok (get_or ss i d)) (blank_set (get_or ss i d)) ≡ false → used_ok (n - i) (drop i ss) ≡ false
  looked_no e = here ∙ rw e

  pub looked_more : cond (ltb i n) (set_ok (get_or ss i d)) (blank_set (get_or ss i d)) ≡ true → used_ok (n - (i + 1)) (drop (i + 1) ss) ≡ used_ok (n - i) (drop i ss)
  looked_more e = sym (here ∙ rw e)

pub looked_end : (n : ℕ) (ss : List LimitSet) (i : ℕ) → length ss ≤ i → used_ok (n - i) (drop i ss) ≡ eqb (n - i) 0
unfolding used_ok
looked_end n ss i h = rw (drop_of_length-le ss h)

-- what the test of all is, by what the places say
pub never_ok : (n : ℕ) (ss : List LimitSet) → used_ok n ss ≡ false → false ≡ sets_ok n ss
unfolding sets_ok
never_ok n ss e = rw e (sym (and-false (leb 1 n && leb n 8)))
  where
    and-false : (b : Bool) → (b && false) ≡ false
    and-false true = refl
    and-false false = refl

pub as_many : (n : ℕ) (ss : List LimitSet) (i : ℕ) → 8 ≤ i → used_ok n ss ≡ eqb (n - i) 0 → (leb 1 n && leb n 8) ≡ sets_ok n ss
unfolding sets_ok
as_many n ss i k e =
    rw e (either n 8
    (λ h. let z : n - i ≡ 0 = omega arith in rw (eq-eqb (n - i) 0 z) (sym (and-true (leb 1 n && leb n 8))))
    (λ h. rw (lt-leb n 8 h) (sym (and_nothing (leb 1 n) (eqb (n - i) 0)))))
  where
    and-true : (b : Bool) → (b && true) ≡ b
    and-true true = refl
    and-true false = refl

    and_nothing : (b d : Bool) → (b && false && d) ≡ (b && false)
    and_nothing true d = refl
    and_nothing false d = refl

-- ---- the sets that are given, one place after another

pub given_at : (n : ℕ) (ls : List Limits) (i : ℕ) (d : LimitSet) (l : Limits) → i < length ls → get_or (first_editions n ls) i d ≡ given (ltb i n) (get_or ls i l)
unfolding first_editions
given_at n [] i d l h = absurd (omega arith)
given_at zero (x ∷ ls) zero d l h = refl
given_at zero (x ∷ ls) (suc i) d l h = given_at zero ls i d l (omega arith) ∙ rw (le-ltb i 0 (omega arith), le-ltb (suc i) 0 (omega arith))
given_at (suc n) (x ∷ ls) zero d l h = rw (lt-ltb 0 (suc n) (omega arith))
given_at (suc n) (x ∷ ls) (suc i) d l h = given_at n ls i d l (omega arith) ∙ rw (ltb_suc i n)
  where
    ltb_suc : (i n : ℕ) → ltb i n ≡ ltb (suc i) (suc n)
    ltb_suc i n = either n i (λ h. le-ltb i n h ∙ sym (le-ltb (suc i) (suc n) (omega arith))) (λ h. lt-ltb i n h ∙ sym (lt-ltb (suc i) (suc n) (omega arith)))

pub given_length : (n : ℕ) (ls : List Limits) → length (first_editions n ls) ≡ length ls
unfolding first_editions
given_length n [] = refl
given_length zero (l ∷ ls) = ap suc (given_length zero ls)
given_length (suc n) (l ∷ ls) = ap suc (given_length n ls)

-- ---- what a sound node may count on

-- the places of the sets that are used
used_at : (n : ℕ) (ss : List LimitSet) (i : ℕ) → i < n → used_ok n ss ≡ true → set_ok (get_or ss i no_set) ≡ true
unfolding used_ok
used_at n [] i h e = absurd (omega (arith, eqb-true n 0 e))
used_at zero (s ∷ ss) i h e = absurd (omega arith)
used_at (suc n) (s ∷ ss) zero h e = (both (set_ok s) (used_ok n ss) e).0
used_at (suc n) (s ∷ ss) (suc i) h e = used_at n ss i (omega arith) (both (set_ok s) (used_ok n ss) e).1

used_set : (n : ℕ) (ss : List LimitSet) (i : ℕ) (s : LimitSet) → i < n → set_ok s ≡ true → used_ok n ss ≡ true → used_ok n (set ss i s) ≡ true
unfolding used_ok
used_set n [] i s h o e = e
used_set zero (x ∷ ss) i s h o e = absurd (omega arith)
used_set (suc n) (x ∷ ss) zero s h o e = rw (o, (both (set_ok x) (used_ok n ss) e).1)
used_set (suc n) (x ∷ ss) (suc i) s h o e =
    let (a, b) = both (set_ok x) (used_ok n ss) e in
    rw (a, used_set n ss i s (omega arith) o b)

-- the parts of the rule
pub record SetsHold (n : ℕ) (ss : List LimitSet) : Type 0 where
  pub some : 1 ≤ n
  pub few : n ≤ 8
  pub used : used_ok n ss ≡ true

pub sets_hold : (n : ℕ) (ss : List LimitSet) → sets_ok n ss ≡ true → SetsHold n ss
unfolding sets_ok
sets_hold n ss e =
    let (a, u) = both (leb 1 n && leb n 8) (used_ok n ss) e in
    let (b, c) = both (leb 1 n) (leb n 8) a in
    record { some = leb-true 1 n b; few = leb-true n 8 c; used = u }

pub record Numbered (n number : ℕ) : Type 0 where
  pub some : 1 ≤ number
  pub few : number ≤ n

pub numbered : (n number : ℕ) → has_set n number ≡ true → Numbered n number
unfolding has_set
numbered n number e = let (a, b) = both (leb 1 number) (leb number n) e in record { some = leb-true 1 number a; few = leb-true number n b }

-- the limits of a set that the node has are in range
pub limits_in_range : (n : ℕ) (ss : List LimitSet) (number : ℕ) → sets_ok n ss ≡ true → has_set n number ≡ true
    → limits_ok (limits_of number ss) ≡ true
unfolding limits_of set_ok
limits_in_range n ss number e h =
    let s = sets_hold n ss e in
    let k = numbered n number h in
    let o = used_at n ss (number - 1) (omega (arith, k.some, k.few)) s.used in
    let (a, b) = both (leb 1 (get_or ss (number - 1) no_set).edition) (limits_ok (get_or ss (number - 1) no_set).limits) o in
    ap (λ (s : LimitSet). limits_ok s.limits) (at_number number ss k.some) ∙ b

-- a set in range that is replaced leaves sets in range
pub replaced_in_range : (n : ℕ) (ss : List LimitSet) (number : ℕ) (s : LimitSet) → sets_ok n ss ≡ true → has_set n number ≡ true → set_ok s ≡ true
    → sets_ok n (replaced number s ss) ≡ true
unfolding sets_ok
replaced_in_range n ss number s e h o =
    let a = sets_hold n ss e in
    let k = numbered n number h in
    rw (in_number number s ss k.some, le-leb 1 n a.some, le-leb n 8 a.few) (used_set n ss (number - 1) s (omega (arith, k.some, k.few)) o a.used)

pub replaced_length : (number : ℕ) (s : LimitSet) (ss : List LimitSet) → length (replaced number s ss) ≡ length ss
unfolding replaced
replaced_length zero s ss = refl
replaced_length (suc i) s ss = length-set ss i s
