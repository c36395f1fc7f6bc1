-- The code's table of the months.
use Rattle.std.specs.Prelude.{List, ◌≡◌, ℕ, ◌<◌, get_or}
use Rattle.calendar.specs.Month.{first_day}

-- The whole: what stands at k is the day on which month k begins, for each of the 1,200 months from 2000 to 2099.
pub record Table (l : List ℕ) : Type 0 where
  pub begins : (k : ℕ) → k < 1200 → get_or l k 0 ≡ first_day k
