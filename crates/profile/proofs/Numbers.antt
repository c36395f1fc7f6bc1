-- Numbers in decimal digits, kept below a largest one, and what does not see that one.
use mathlib.Core.Path.{◌≡◌, refl, sym, ap, ◌∙◌}
use mathlib.Core.Bool.{Bool, true, false, ◌&&◌}
use mathlib.Core.List.{List, [], ◌∷◌}
use Prim.Native.Nat.{ℕ, ◌+◌, ◌-◌, ◌*◌, ◌^◌, ◌≤◌, ◌<◌, min}
use native.Mathlib.Omega.{arith}
use lib.Dec.{leb}
use borrow.Author.Tests.{leb-true, leb-false, le-leb, lt-leb}
use Rattle.std.specs.List.{fold}
use Rattle.std.specs.Prelude.{Option, None, Some, is_none, Result, Ok, Err}
use Rattle.profile.specs.Number.{number_fault, numeral, at_most, read_as, number_of}
use Rattle.profile.specs.Address.{octet_ok}
use Rattle.profile.specs.declared.fault.Fault.{Fault}
use Rattle.profile.specs.Offset.{east, west}

pub by : {X : Type 0} (t : Bool) → (t ≡ true → X) → (t ≡ false → X) → X
by true f g = f refl
by false f g = g refl

-- ---- the largest

module _ (m n : ℕ) where
  pub most_is : n ≤ m → n ≡ at_most m n
  unfolding at_most
  most_is h = rw (le-leb n m h)

  pub most_over : m ≤ n → m ≡ at_most m n
  unfolding at_most
  most_over h = by (leb n m) (λ t. rw t (omega (arith, leb-true n m t))) (λ t. rw t)

  pub most_le : at_most m n ≤ m
  unfolding at_most
  most_le = by (leb n m) (λ t. rw t (leb-true n m t)) (λ t. rw t (omega arith))

-- a smaller largest number hides a larger one
pub most_most : (k m n : ℕ) → k ≤ m → at_most k (at_most m n) ≡ at_most k n
most_most k m n h =
    by (leb n m)
    (λ t. ap (at_most k) (sym (most_is m n (leb-true n m t))))
    (λ t. let l = leb-false n m t in ap (at_most k) (sym (most_over m n (omega arith))) ∙ sym (most_over k m h) ∙ most_over k n (omega arith))

-- as std takes the smaller of two
pub min_most : (m n : ℕ) → min n m ≡ at_most m n
min_most m n =
    by (leb n m)
    (λ t. let l = leb-true n m t in let e = most_is m n l in omega arith)
    (λ t. let l = leb-false n m t in let e = most_over m n (omega arith) in omega arith)

-- ---- digits

pub numeral_le : (n : ℕ) (v : List ℕ) → n ≤ numeral n v
unfolding numeral
numeral_le n [] = omega arith
numeral_le n (x ∷ v) = omega (arith, numeral_le (n * 10 + (x - 48)) v)

-- past the largest number it does not matter by how much
pub numeral_most : (m n : ℕ) (v : List ℕ) → at_most m (numeral (at_most m n) v) ≡ at_most m (numeral n v)
numeral_most m n v =
    by (leb n m)
    (λ t. ap (λ (k : ℕ). at_most m (numeral k v)) (sym (most_is m n (leb-true n m t))))
    (λ t.
    let l = leb-false n m t in
    ap (λ (k : ℕ). at_most m (numeral k v)) (sym (most_over m n (omega arith)))
    ∙ sym (most_over m (numeral m v) (numeral_le m v))
    ∙ most_over m (numeral n v) (omega (arith, numeral_le n v)))

-- one digit more, and no more than the largest
abbrev pub top : ℕ
top = 2 ^ 64 - 1

abbrev pub more : ℕ → ℕ → ℕ
more n x = min (min (n * 10) top + (x - 48)) top

more_is : (n x : ℕ) → more n x ≡ at_most top (n * 10 + (x - 48))
more_is n x =
    by (leb (n * 10 + (x - 48)) top)
    (λ t. let l = leb-true (n * 10 + (x - 48)) top t in let e = most_is top (n * 10 + (x - 48)) l in omega arith)
    (λ t. let l = leb-false (n * 10 + (x - 48)) top t in let e = most_over top (n * 10 + (x - 48)) (omega arith) in omega arith)

pub fold_more : (n : ℕ) (v : List ℕ) → n ≤ top → fold more n v ≡ at_most top (numeral n v)
unfolding numeral
fold_more n [] h = most_is top n h
fold_more n (x ∷ v) h =
    fold_more (more n x) v (omega arith)
    ∙ ap (λ (k : ℕ). at_most top (numeral k v)) (more_is n x)
    ∙ numeral_most top (n * 10 + (x - 48)) v

-- a test against a smaller number does not see the largest
pub most_leb : (k m n : ℕ) → k < m → leb (at_most m n) k ≡ leb n k
most_leb k m n h =
    by (leb n m)
    (λ t. ap (λ (x : ℕ). leb x k) (sym (most_is m n (leb-true n m t))))
    (λ t. let l = leb-false n m t in ap (λ (x : ℕ). leb x k) (sym (most_over m n (omega arith))) ∙ lt-leb m k h ∙ sym (lt-leb n k (omega arith)))

-- nor does the test of an octet that is read
abbrev pub fits : Result ℕ Fault → Bool
fits (Ok n) = leb n 255
fits (Err f) = false

pub octet_read : (v : List ℕ) → fits (number_of v) ≡ octet_ok v
unfolding octet_ok
octet_read v = go (number_fault v)
  where
    go : (f : Option Fault) → fits (read_as f (at_most top (numeral 0 v))) ≡ (is_none f && leb (numeral 0 v) 255)
    go None = most_leb 255 top (numeral 0 v) (omega arith)
    go (Some f) = refl

-- nor does what is capped there
pub capped : (k : ℕ) (v : List ℕ) → k ≤ top → min (at_most top (numeral 0 v)) k ≡ at_most k (numeral 0 v)
capped k v h = min_most k (at_most top (numeral 0 v)) ∙ most_most k top (numeral 0 v) h

-- ---- a zone does not see the largest number

pub west_most : (m n : ℕ) → 720 < m → west (at_most m n) ≡ west n
unfolding west
west_most m n h =
    by (leb n m)
    (λ t. ap west (sym (most_is m n (leb-true n m t))))
    (λ t. let l = leb-false n m t in ap west (sym (most_over m n (omega arith))) ∙ rw (lt-leb m 720 h, lt-leb n 720 (omega arith)))

pub east_most : (m n : ℕ) → 65535 < m → east (at_most m n) ≡ east n
unfolding east
east_most m n h =
    by (leb n m)
    (λ t. ap east (sym (most_is m n (leb-true n m t))))
    (λ t. let l = leb-false n m t in ap east (sym (most_over m n (omega arith))) ∙ sym (most_over 65535 (m + 720) (omega arith))
    ∙ most_over 65535 (n + 720) (omega arith))
