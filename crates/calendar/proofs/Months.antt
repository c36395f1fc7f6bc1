-- Laws of the months: they follow one another without a gap, so a day of 2000 to 2099 lies in exactly one of them.
use mathlib.Core.Path.{◌≡◌, refl, sym, ap, ◌∙◌, subst}
use mathlib.Core.Bool.{Bool, true, false, cond, ◌&&◌}
use mathlib.Core.List.{List, [], ◌∷◌}
use Prim.Native.Nat.{ℕ, zero, suc, ◌+◌, ◌-◌, ◌*◌, ◌/◌, ◌%◌, ◌≤◌, ◌<◌}
use native.Mathlib.Nat.{le_of_suc-le-suc, not-suc-le-zero, zero-add, add-zero, add-suc, suc-add}
use native.Mathlib.Omega.{arith}
use lib.Dec.{T, ltb, leb, eqb, leb→le}
use lib.ListN.{get_or}
use borrow.Author.Tests.{ltb-true, ltb-false, eqb-true}
use Rattle.format.proofs.Tests.{by, either, and_l, and_r}
use Rattle.calendar.specs.Month.{leap, plain, month_len, first_day, seek, month_day, Lies}
use Rattle.calendar.specs.Private.Date.{Dated, Lasts}

-- January 2000 begins on day 0
pub start : 0 ≡ first_day 0
unfolding first_day
start = refl

-- a month begins where the one before it ends
pub next : (k : ℕ) → first_day (suc k) ≡ first_day k + month_len k
unfolding first_day
next k = refl

pub next_one : (k : ℕ) → first_day (k + 1) ≡ first_day k + month_len k
next_one k = let e : k + 1 ≡ suc k = omega arith in ap first_day e ∙ next k

-- later months begin no earlier
begins_later : (n k : ℕ) → first_day k ≤ first_day (k + n)
begins_later zero k = rw (add-zero k) (omega arith)
begins_later (suc n) k = rw (add-suc k n) (omega (arith, begins_later n k, next (k + n)))

pub later : (j k : ℕ) → j ≤ k → first_day j ≤ first_day k
later j k h = let e : j + (k - j) ≡ k = omega arith in rw e at (begins_later (k - j) j)

-- 2099 ends with day 36,524, as antt computes
pub end : first_day 1200 ≡ 36525
unfolding first_day month_len
end = refl

-- ---- the months of 2000 to 2099 begin in these years

pub below : (k : ℕ) → k ≤ 1200 → first_day k ≤ 36525
below k h = omega (arith, later k 1200 h, end)

-- what comes after them begins past these years
pub past : (k : ℕ) → 1200 ≤ k → 36525 ≤ first_day k
past k h = omega (arith, later 1200 k h, end)

seek_lies : (n k f d : ℕ) → f ≡ first_day k → f ≤ d → n + k ≡ 1199 → d < first_day 1200 → Lies d (seek n k f d).0 (seek n k f d).1
unfolding seek
seek_lies zero k f d e h q u =
    let l : k ≡ 1199 = omega arith in
    let g : first_day 1200 ≡ first_day k + month_len k = ap (λ (j : ℕ). first_day (suc j)) (sym l) ∙ next k in
    record { starts = omega arith; inside = omega arith; known = omega arith }
seek_lies (suc n) k f d e h q u =
    by (ltb d (f + month_len k))
    (λ a. rw (a, seek) (record { starts = omega arith; inside = omega (arith, ltb-true d (f + month_len k) a); known = omega arith }))
    (λ a. rw (a, seek) (seek_lies n (suc k) (f + month_len k) d (ap (λ (x : ℕ). x + month_len k) e ∙ sym (next k)) (ltb-false d (f + month_len k) a)
    (omega arith) u))

-- a day of these years has its place in the month that `month_day` gives
pub lies : (d : ℕ) → d < 36525 → Lies d (month_day d).0 (month_day d).1
unfolding month_day
lies d h = seek_lies 1199 0 0 d start (omega arith) (omega arith) (omega (arith, end))

-- and lies in no other
month_is : (d k : ℕ) → d < 36525 → first_day k ≤ d → d < first_day (suc k) → (month_day d).0 ≡ k
month_is d k h u v =
    let l = lies d h in
    let m = (month_day d).0 in
    either m k
    (λ (a : m ≤ k). either k m (λ (b : k ≤ m). omega arith) (λ (b : m < k). absurd (omega (arith, next m, later (suc m) k (omega arith)))))
    (λ (a : k < m). absurd (omega (arith, next m, later (suc k) m (omega arith))))

-- ---- a day by its month and its place there

module _ (k p : ℕ) (h : k < 1200) (l : p < month_len k) where
  -- it is a day of these years
  day_there : first_day k + p < 36525
  day_there = omega (arith, next k, later (suc k) 1200 (omega arith), end)

  -- and has these
  pub month_there : (month_day (first_day k + p)).0 ≡ k
  month_there = month_is (first_day k + p) k day_there (omega arith) (omega (arith, next k))

  pub place_there : (month_day (first_day k + p)).1 ≡ p
  place_there =
      let s = (lies (first_day k + p) day_there).starts in
      let e = ap first_day month_there in
      omega arith

-- ---- bounds

abbrev all : (ℕ → Bool) → List ℕ → Bool
all f [] = true
all f (x ∷ xs) = f x && all f xs

-- no month is longer than 31 days: February has 29 at most, and the others are as in a plain year
entries : (xs : List ℕ) → T (all (λ x. leb x 31) xs) → (i : ℕ) → get_or xs i 0 ≤ 31
entries [] h i = omega arith
entries (x ∷ xs) h zero = leb→le x 31 (and_l (leb x 31) (all (λ x. leb x 31) xs) h)
entries (x ∷ xs) h (suc i) = entries xs (and_r (leb x 31) (all (λ x. leb x 31) xs) h) i

one : (t : Bool) → cond t 1 0 ≤ 1
one true = omega arith
one false = omega arith

pub short : (k : ℕ) → month_len k ≤ 31
unfolding month_len
short k =
    by (eqb (k % 12) 1)
    (λ a. rw (a, eqb-true (k % 12) 1 a) (omega (arith, one (leap (2000 + k / 12)))))
    (λ a. rw a (omega (arith, entries plain tt (k % 12))))

-- what is answered of a month
pub lasts : (k f n : ℕ) → k < 1200 → f ≡ first_day k → n ≡ month_len k → Lasts k f n
lasts k f n h e q = record { first = e; count = q; known = omega (arith, below k (omega arith)); short = omega (arith, short k) }

-- a day's month, and what is left of the day there, are its date
pub dated : (d k f : ℕ) → d < 36525 → k ≡ (month_day d).0 → f ≡ first_day k → Dated d k (d - f)
dated d k f h e q =
    let l = lies d h in
    let g = ap first_day e in
    record { month = e; place = omega arith; known = omega arith; small = omega (arith, short (month_day d).0) }

-- ---- the quotient

-- The day four weeks before day d, counted in mean months of 487 / 16 days.
abbrev pub near : ℕ → ℕ
near d = (d - 28) * 16 / 487

-- For each day of month k, which begins on day f, it is that month or the one before: for the first day no lower, for the last no higher.
record Near (k f : ℕ) : Type 0 where
  least : k ≤ near f + 1
  most : near (f + month_len k - 1) ≤ k

-- a test of this: n times from month k on
unfoldable nears : ℕ → ℕ → ℕ → Bool
nears zero k f = true
nears (suc n) k f = (leb k (near f + 1) && leb (near (f + month_len k - 1)) k) && nears n (suc k) (f + month_len k)

nears_all : (n k f : ℕ) → f ≡ first_day k → T (nears n k f) → (i : ℕ) → i < n → Near (k + i) (first_day (k + i))
unfolding nears
nears_all zero k f e t i h = absurd (not-suc-le-zero h)
nears_all (suc n) k f e t zero h =
    let l = leb k (near f + 1) in
    let m = leb (near (f + month_len k - 1)) k in
    let b = and_l (l && m) (nears n (suc k) (f + month_len k)) t in
    let r : Near k f = record { least = leb→le k (near f + 1) (and_l l m b); most = leb→le (near (f + month_len k - 1)) k (and_r l m b) } in
    subst (λ (j : ℕ). Near j (first_day j)) (sym (add-zero k)) (subst (λ (x : ℕ). Near k x) e r)
nears_all (suc n) k f e t (suc i) h =
    let b = leb k (near f + 1) && leb (near (f + month_len k - 1)) k in
    let r = and_r b (nears n (suc k) (f + month_len k)) t in
    subst (λ (j : ℕ). Near j (first_day j)) (suc-add k i ∙ sym (add-suc k i))
    (nears_all n (suc k) (f + month_len k) (ap (λ (x : ℕ). x + month_len k) e ∙ sym (next k)) r i (le_of_suc-le-suc h))

-- From 2000 to 2099 it passes, as antt computes.
nearly : (k : ℕ) → k < 1200 → Near k (first_day k)
unfolding nears month_len
nearly k h = rw (zero-add k) at (nears_all 1200 0 0 start tt k h)

-- So the quotient q of a day is its month or the one before.
module _ (d q : ℕ) (h : d < 36525) (e : q ≡ near d) where
  pub near_month : (q ≤ (month_day d).0) × ((month_day d).0 ≤ q + 1)
  near_month =
      let l = lies d h in
      let n = nearly (month_day d).0 l.known in
      (omega (arith, n.most, l.starts, l.inside), omega (arith, n.least, l.starts))

  -- that month begins no later than the day
  pub near_first : first_day q ≤ d
  near_first = omega (arith, later q (month_day d).0 near_month.0, (lies d h).starts)

  -- it is the day's where the next one begins after the day
  pub near_here : d < first_day (q + 1) → q ≡ (month_day d).0
  near_here u = sym (month_is d q h near_first (omega (arith, next q, next_one q)))

  -- else the next one is
  pub near_next : first_day (q + 1) ≤ d → q + 1 ≡ (month_day d).0
  near_next u =
      let l = lies d h in
      either (month_day d).0 q
      (λ (a : (month_day d).0 ≤ q).
      absurd (omega (arith, next_one (month_day d).0, later ((month_day d).0 + 1) (q + 1) (omega arith), l.starts, l.inside)))
      (λ (a : q < (month_day d).0). omega (arith, near_month.1))

-- ---- a day's date, as the code finds it: n is the day four weeks before

module _ (d n : ℕ) (h : d < 36525) (e : n ≡ d - 28) where
  quotient : n * 16 / 487 ≡ near d
  quotient = ap (λ (i : ℕ). i * 16 / 487) e

  pub near_begins : {g : ℕ} → g ≡ first_day (n * 16 / 487) → g ≤ d
  near_begins b = rw b (near_first d (n * 16 / 487) h quotient)

  pub date_near : {f g : ℕ} → f ≡ first_day (n * 16 / 487 + 1) → d < f → g ≡ first_day (n * 16 / 487) → Dated d (n * 16 / 487) (d - g)
  date_near a u b = dated d _ _ h (near_here d (n * 16 / 487) h quotient (rw a at u)) b

  pub date_next : {f : ℕ} → f ≡ first_day (n * 16 / 487 + 1) → f ≤ d → Dated d (n * 16 / 487 + 1) (d - f)
  date_next a u = dated d _ _ h (near_next d (n * 16 / 487) h quotient (rw a at u)) a

-- ---- a month's days: they end where the next one's begin

module _ (k : ℕ) {f g : ℕ} (h : k < 1200) (e : f ≡ first_day k) (q : g ≡ first_day (k + 1)) where
  pub ends_later : f ≤ g
  ends_later = omega (arith, next_one k)

  pub month_lasts : Lasts k f (g - f)
  month_lasts = lasts k f (g - f) h e (omega (arith, next_one k))
