-- TimeStamp: nine octets YY MM DD hh mm ss S hh mm, in BCD. S is 2B for an offset of zero or more, 2D below zero; the offset's
-- size follows it.
use Rattle.std.specs.Prelude.{Bool, cond, ◌&&◌, List, [], ◌∷◌, ℕ, ◌+◌, ◌-◌, ◌*◌, ◌/◌, ◌%◌, ltb, leb, eqb, get_or}
use Rattle.format.specs.Format.{Fmt, checked}
use Rattle.calendar.specs.Month.{first_day, month_day}
use Rattle.calendar.specs.declared.Stamp.{Stamp}

-- The clock is local seconds since 2000-01-01 00:00:00, 0 to 3,155,759,999 at the end of 2099. The offset from universal time is
-- -720 to 840 minutes, and the zone that is kept of it is 720 more: 0 to 1560.
unfoldable pub stamp_ok : Stamp → Bool
stamp_ok t = ltb t.seconds 3155760000 && leb t.zone 1560

-- ---- writing

-- two decimal digits in an octet
abbrev pub bcd : ℕ → ℕ
bcd n = n / 10 * 16 + n % 10

-- S: 2D for an offset below zero, 2B for one of zero or more
abbrev pub sign : ℕ → ℕ
sign z = cond (ltb z 720) 0x2D 0x2B

-- the offset's size, in minutes
abbrev pub away : ℕ → ℕ
away z = cond (ltb z 720) (720 - z) (z - 720)

-- The date, the clock and the offset: of month m .0, which counts from January 2000, and place m .1 in it, of second c of the day,
-- and of zone z. Months and days count from 1 in octets.
abbrev pub octets_of : ℕ × ℕ → ℕ → ℕ → List ℕ
octets_of m c z =
    bcd (m.0 / 12) ∷ bcd (m.0 % 12 + 1) ∷ bcd (m.1 + 1)
    ∷ bcd (c / 3600) ∷ bcd (c / 60 % 60) ∷ bcd (c % 60)
    ∷ sign z ∷ bcd (away z / 60) ∷ bcd (away z % 60) ∷ []

-- the nine octets of a time
unfoldable pub stamp_enc : Stamp → List ℕ
stamp_enc t = octets_of (month_day (t.seconds / 86400)) (t.seconds % 86400) t.zone

-- ---- reading

-- What octets say, digit by digit, if they are a time stamp. Octets that are none say something too, which is out of range or has
-- other octets: `stamp` asks both. (A difference below 0 is 0, so month 00 says what month 01 does.)

-- the number in an octet of two digits
abbrev pub unbcd : ℕ → ℕ
unbcd x = x / 16 * 10 + x % 16

-- the month that YY MM name, counted from January 2000
abbrev pub month_val : ℕ → ℕ → ℕ
month_val y m = unbcd y * 12 + (unbcd m - 1)

-- the second of the day at hh mm ss
abbrev pub clock_val : ℕ → ℕ → ℕ → ℕ
clock_val h m s = unbcd h * 3600 + unbcd m * 60 + unbcd s

-- the zone of S hh mm
abbrev pub zone_val : ℕ → ℕ → ℕ → ℕ
zone_val s h m = cond (eqb s 0x2D) (720 - (unbcd h * 60 + unbcd m)) (720 + (unbcd h * 60 + unbcd m))

-- the time that nine octets say
unfoldable pub stamp_val : List ℕ → Stamp
stamp_val s = record {
  seconds = (first_day (month_val (get_or s 0 0) (get_or s 1 0)) + (unbcd (get_or s 2 0) - 1)) * 86400
      + clock_val (get_or s 3 0) (get_or s 4 0) (get_or s 5 0);
  zone = zone_val (get_or s 6 0) (get_or s 7 0) (get_or s 8 0);
}

-- ---- the format

-- The time stamps: exactly the octets that a time and a zone in range give, each read back as these (`stamp_law` of
-- proofs/Stamps.antt).
abbrev pub stamp : Fmt Stamp
stamp = checked stamp_ok stamp_enc stamp_val 9
