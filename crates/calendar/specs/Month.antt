-- The calendar from 2000 on: months counted from 0, which is January 2000, and days from 0, which is 2000-01-01.
use Rattle.std.specs.Prelude.{Bool, true, false, cond, not, ◌&&◌, ◌||◌, List, [], ◌∷◌, ◌≡◌, ℕ, zero, suc, ◌+◌, ◌-◌, ◌/◌, ◌%◌, ◌<◌, ltb, eqb, get_or}

-- a leap year: one that 4 divides, unless 100 divides it and 400 does not
abbrev pub leap : ℕ → Bool
leap y = eqb (y % 4) 0 && (not (eqb (y % 100) 0) || eqb (y % 400) 0)

-- the days of the twelve months of a year that is no leap year
abbrev pub plain : List ℕ
plain = 31 ∷ 28 ∷ 31 ∷ 30 ∷ 31 ∷ 30 ∷ 31 ∷ 31 ∷ 30 ∷ 31 ∷ 30 ∷ 31 ∷ []

-- the days of month k: February has one more in a leap year
unfoldable pub month_len : ℕ → ℕ
month_len k = get_or plain (k % 12) 0 + cond (eqb (k % 12) 1 && leap (2000 + k / 12)) 1 0

-- the day on which month k begins
unfoldable pub first_day : ℕ → ℕ
first_day zero = 0
first_day (suc k) = first_day k + month_len k

-- The calendar's walk. From month k, which begins on day f: the month in which day d lies, of this one and the n that follow, and d's place in it,
-- counted from 0.
unfoldable pub seek : ℕ → ℕ → ℕ → ℕ → ℕ × ℕ
seek zero k f d = (k, d - f)
seek (suc n) k f d = elim (ltb d (f + month_len k)) [ true ↦ (k, d - f) | false ↦ seek n (suc k) (f + month_len k) d ]

-- the month of 2000 to 2099 in which day d lies, and d's place in it
unfoldable pub month_day : ℕ → ℕ × ℕ
month_day d = seek 1199 0 0 d

-- Day d has place p in month k, one of the 1,200 from 2000 to 2099: what is proved of `month_day` (`lies` of proofs/Months.antt).
pub record Lies (d k p : ℕ) : Type 0 where
  pub starts : first_day k + p ≡ d
  pub inside : p < month_len k
  pub known : k < 1200
