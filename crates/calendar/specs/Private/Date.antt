-- What is answered of days and months, with the bounds that a caller needs to go on computing.
use Rattle.std.specs.Prelude.{◌≡◌, ℕ, ◌≤◌, ◌<◌}
use Rattle.calendar.specs.Month.{month_len, first_day, month_day}

-- For day d: its month k and its place p there.
pub record Dated (d k p : ℕ) : Type 0 where
  pub month : k ≡ (month_day d).0
  pub place : p ≡ (month_day d).1
  pub known : k < 1200
  pub small : p < 31

-- For month k: the day f on which it begins, and how many days n it has.
pub record Lasts (k f n : ℕ) : Type 0 where
  pub first : f ≡ first_day k
  pub count : n ≡ month_len k
  pub known : f ≤ 36525
  pub short : n ≤ 31
