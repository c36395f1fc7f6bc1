-- Decimal digits: what is printed reads, and what reads without a leading zero is what is printed.
use mathlib.Core.Path.{◌≡◌, refl, sym, ◌∙◌}
use mathlib.Core.Bool.{Bool, true, false, not, ◌&&◌}
use mathlib.Core.List.{List, [], ◌∷◌, ◌++◌, append_assoc, append-nil}
use Prim.Native.Nat.{ℕ, zero, suc, ◌+◌, ◌-◌, ◌*◌, ◌/◌, ◌%◌, ◌^◌, ◌≤◌, ◌<◌}
use native.Mathlib.Omega.{arith}
use lib.Dec.{leb, ltb, eqb}
use lib.ListN.{length, get_or, length-append, get_or-append}
use borrow.Author.Tests.{leb-true, leb-false, ltb-true, ltb-false, le-leb, lt-ltb, le-ltb, eq-eqb, ne_eqb, not-true}
use Rattle.octets.specs.Chars.{all_of, digit}
use Rattle.std.specs.Prelude.{None}
use Rattle.profile.specs.Fault.{unless}
use Rattle.profile.specs.Number.{padded, digits, number_fault, numeral}
use Rattle.profile.specs.Print.{digits_in, number_text}
use Rattle.profile.specs.declared.fault.Fault.TheVariants.{Number, Zero}
use Rattle.profile.proofs.Numbers.{by, numeral_le}
use Rattle.profile.proofs.Firsts.{clash, both, both_is, unless_met, met_unless}

-- ---- one digit more at the end

all_snoc : (p : ℕ → Bool) (v : List ℕ) (x : ℕ) → all_of p v ≡ true → p x ≡ true → all_of p (v ++ x ∷ []) ≡ true
unfolding all_of
all_snoc p [] x a e = rw e
all_snoc p (y ∷ v) x a e = let (f, g) = both (p y) (all_of p v) a in rw (f, all_snoc p v x g e)

all_front : (p : ℕ → Bool) (v : List ℕ) (x : ℕ) → all_of p (v ++ x ∷ []) ≡ true → (all_of p v ≡ true) × (p x ≡ true)
unfolding all_of
all_front p [] x a = (refl, (both (p x) true a).0)
all_front p (y ∷ v) x a =
    let (f, g) = both (p y) (all_of p (v ++ x ∷ [])) a in
    let (h, k) = all_front p v x g in
    (both_is f h, k)

numeral_snoc : (n : ℕ) (v : List ℕ) (x : ℕ) → numeral n (v ++ x ∷ []) ≡ numeral n v * 10 + (x - 48)
unfolding numeral
numeral_snoc n [] x = refl
numeral_snoc n (y ∷ v) x = numeral_snoc (n * 10 + (y - 48)) v x

front_same : (v : List ℕ) (x : ℕ) → 1 ≤ length v → get_or (v ++ x ∷ []) 0 0 ≡ get_or v 0 0
front_same v x h = get_or-append v (x ∷ []) 0 0 h

digit_is : (x : ℕ) → 48 ≤ x → x ≤ 57 → digit x ≡ true
digit_is x h k = rw (le-leb 48 x h, le-leb x 57 k)

digit_low : (x : ℕ) → digit x ≡ true → (48 ≤ x) × (x ≤ 57)
digit_low x e = let (a, b) = both (leb 48 x) (leb x 57) e in (leb-true 48 x a, leb-true x 57 b)

-- ---- digits without a leading zero

-- v has digits, one or more, and no zero before another digit
pub record Plain (v : List ℕ) : Type 0 where
  pub each : all_of digit v ≡ true
  pub some : 1 ≤ length v
  pub lead : 2 ≤ length v → get_or v 0 0 ≡ 48 → ⊥

pub plain_digits : {v : List ℕ} → Plain v → digits v ≡ true
plain_digits f = both_is f.each (le-leb 1 _ f.some)

pub plain_fault : {v : List ℕ} → Plain v → number_fault v ≡ None
unfolding number_fault
plain_fault {v} f =
    unless_met Number (plain_digits f)
    (unless_met Zero
    (by (ltb 1 (length v))
    (λ t. rw (ne_eqb (get_or v 0 0) 48 (f.lead (ltb-true 1 (length v) t))))
    (λ t. rw (t, and-false (eqb (get_or v 0 0) 48))))
    refl)
  where
    and-false : (b : Bool) → (b && false) ≡ false
    and-false true = refl
    and-false false = refl

-- ---- what is printed reads

-- 10 ^ k
unfoldable ten_to : ℕ → ℕ
ten_to zero = 1
ten_to (suc k) = ten_to k * 10

pub record Spells (v : List ℕ) (n : ℕ) : Type 0 where
  pub plain : Plain v
  pub same : numeral 0 v ≡ n
  pub first : 1 ≤ n → get_or v 0 0 ≡ 48 → ⊥

one_digit : (n : ℕ) → n < 10 → Spells ((n + 48) ∷ []) n
unfolding all_of numeral
one_digit n h =
    record {
      plain = record { each = rw (digit_is (n + 48) (omega arith) (omega arith)); some = omega arith; lead = λ l e. omega arith };
      same = omega arith;
      first = λ l e. omega arith;
    }

more_digits : (v : List ℕ) (n : ℕ) → 10 ≤ n → Spells v (n / 10) → Spells (v ++ (n % 10 + 48) ∷ []) n
more_digits v n h f =
    let x = n % 10 + 48 in
    let d : digit x ≡ true = digit_is x (omega arith) (omega arith) in
    let s = f.plain.some in
    let z : get_or v 0 0 ≡ 48 → ⊥ = f.first (omega arith) in
    let y : get_or (v ++ x ∷ []) 0 0 ≡ 48 → ⊥ = λ e. z (sym (front_same v x s) ∙ e) in
    record {
      plain = record { each = all_snoc digit v x f.plain.each d; some = omega (arith, length-append v (x ∷ [])); lead = λ l. y };
      same = numeral_snoc 0 v x ∙ rw f.same (omega arith);
      first = λ l. y;
    }

spells : (k n : ℕ) → n < ten_to (suc k) → Spells (digits_in (suc k) n) n
unfolding digits_in ten_to
spells zero n h = let l : n < 10 = omega arith in rw (lt-ltb n 10 l) (one_digit n l)
spells (suc k) n h =
    by (ltb n 10)
    (λ t. rw t (one_digit n (ltb-true n 10 t)))
    (λ t. let l = ltb-false n 10 t in rw t (more_digits (digits_in (suc k) (n / 10)) n l (spells k (n / 10) (omega arith))))

-- every number of 64 bits
pub number_spells : (n : ℕ) → n < 2 ^ 64 → Spells (number_text n) n
unfolding ten_to
number_spells n h = spells 19 n (omega arith)

-- ---- what reads is what is printed

pub digits_plain : (v : List ℕ) → digits v ≡ true → (2 ≤ length v → get_or v 0 0 ≡ 48 → ⊥) → Plain v
digits_plain v d l = let (a, b) = both (all_of digit v) (leb 1 (length v)) d in record { each = a; some = leb-true 1 (length v) b; lead = l }

pub fault_plain : (v : List ℕ) → number_fault v ≡ None → Plain v
unfolding number_fault
fault_plain v e =
    let (d, g) = met_unless (digits v) Number (unless (not (padded v)) Zero None) e in
    let n = not-true (padded v) (met_unless (not (padded v)) Zero None g).0 in
    digits_plain v d (λ h z. clash (both_is (eq-eqb (get_or v 0 0) 48 z) (lt-ltb 1 (length v) h)) n)

-- what holds of no octets, and of s and one more where it holds of s, holds of all
snoc_elim : (P : List ℕ → Type 0) → P [] → ((s : List ℕ) (y : ℕ) → P s → P (s ++ y ∷ [])) → (s : List ℕ) → P s
snoc_elim P z f s = go [] s z
  where
    go : (p s : List ℕ) → P p → P (p ++ s)
    go p [] h = rw (append-nil p) h
    go p (y ∷ s) h = rw (← append_assoc p (y ∷ []) s) (go (p ++ y ∷ []) s (f p y h))

abbrev Back : List ℕ → Type 0
Back v = (k : ℕ) → Plain v → numeral 0 v < ten_to (suc k) → digits_in (suc k) (numeral 0 v) ≡ v

pub numeral_some : (w : List ℕ) → all_of digit w ≡ true → 1 ≤ length w → (get_or w 0 0 ≡ 48 → ⊥) → 1 ≤ numeral 0 w
unfolding all_of numeral
numeral_some [] a h z = absurd (omega arith)
numeral_some (y ∷ w) a h z =
    let d = digit_low y (both (digit y) (all_of digit w) a).0 in
    by (leb 49 y)
    (λ t. omega (arith, leb-true 49 y t, numeral_le (0 * 10 + (y - 48)) w))
    (λ t. absurd (z (omega (arith, leb-false 49 y t, d.0))))

-- one digit more
module _ (w : List ℕ) (x : ℕ) (s : 1 ≤ length w) (b : Back w) (f : Plain (w ++ x ∷ [])) where
  lead_front : get_or w 0 0 ≡ 48 → ⊥
  lead_front e = f.lead (omega (arith, length-append w (x ∷ []))) (front_same w x s ∙ e)

  plain_front : Plain w
  plain_front = record { each = (all_front digit w x f.each).0; some = s; lead = λ h. lead_front }

  more : (k n : ℕ) → n ≡ numeral 0 w * 10 + (x - 48) → n < ten_to (suc k) → digits_in (suc k) n ≡ w ++ x ∷ []
  unfolding ten_to digits_in
  more zero n e h = absurd (omega (arith, numeral_some w plain_front.each s lead_front))
  more (suc k) n e h =
      let g = numeral_some w plain_front.each s lead_front in
      let d = digit_low x (all_front digit w x f.each).1 in
      let q : n / 10 ≡ numeral 0 w = omega arith in
      let r : n % 10 + 48 ≡ x = omega (arith, d.0, d.1) in
      rw (le-ltb n 10 (omega arith), q, r, b k plain_front (omega arith))

numeral_one : (x : ℕ) → numeral 0 (x ∷ []) ≡ x - 48
unfolding numeral
numeral_one x = omega arith

back_more : (w : List ℕ) (x : ℕ) → Back w → Back (w ++ x ∷ [])
unfolding digits_in
back_more [] x b k f h =
    let d = digit_low x (all_front digit [] x f.each).1 in
    let e = numeral_one x in
    let r : x - 48 + 48 ≡ x = omega (arith, d.0) in
    rw (e, lt-ltb (x - 48) 10 (omega (arith, d.1)), r)
back_more (y ∷ w) x b k f h =
    rw (numeral_snoc 0 (y ∷ w) x) (more (y ∷ w) x (omega arith) b f k (numeral 0 (y ∷ w) * 10 + (x - 48)) refl (rw (numeral_snoc 0 (y ∷ w) x) at h))

pub number_back : (v : List ℕ) → Plain v → numeral 0 v < 10 ^ 20 → number_text (numeral 0 v) ≡ v
unfolding ten_to
number_back v f h = snoc_elim Back (λ k f h. absurd (omega (arith, f.some))) back_more v 19 f (omega arith)
