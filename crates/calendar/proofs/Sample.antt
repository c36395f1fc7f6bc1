-- Time stamps worked out by antt: the times of document 01's bench, with their octets, and octets that are none.
use mathlib.Core.Bool.{Bool, ◌&&◌}
use mathlib.Core.List.{List, [], ◌∷◌}
use Rattle.std.specs.Prelude.{None}
use mathlib.Core.Path.{◌≡◌, refl}
use Prim.Native.Nat.{ℕ}
use lib.Dec.{T}
use Rattle.format.specs.Format.{eqs}
use Rattle.calendar.specs.Month.{month_len, first_day, seek, month_day}
use Rattle.calendar.specs.Stamp.{stamp_ok, stamp_enc, stamp_val, stamp}

-- the time and zone have these octets
abbrev row : ℕ → ℕ → List ℕ → Bool
row n z s = eqs (stamp_enc (record { seconds = n; zone = z })) s

pub bench : T (
    row 0 720 (0x00 ∷ 0x01 ∷ 0x01 ∷ 0x00 ∷ 0x00 ∷ 0x00 ∷ 0x2B ∷ 0x00 ∷ 0x00 ∷ [])
    && row 5097600 720 (0x00 ∷ 0x02 ∷ 0x29 ∷ 0x00 ∷ 0x00 ∷ 0x00 ∷ 0x2B ∷ 0x00 ∷ 0x00 ∷ [])
    && row 3155759999 630 (0x99 ∷ 0x12 ∷ 0x31 ∷ 0x23 ∷ 0x59 ∷ 0x59 ∷ 0x2D ∷ 0x01 ∷ 0x30 ∷ []))
unfolding month_len seek month_day stamp_enc
bench = tt

-- 2000-01-01 00:00:00, with an offset of S hh mm
abbrev at : ℕ → ℕ → ℕ → List ℕ
at s h m = 0x00 ∷ 0x01 ∷ 0x01 ∷ 0x00 ∷ 0x00 ∷ 0x00 ∷ s ∷ h ∷ m ∷ []

-- nine zeros are no time
pub no_blank : stamp.dec (0 ∷ 0 ∷ 0 ∷ 0 ∷ 0 ∷ 0 ∷ 0 ∷ 0 ∷ 0 ∷ []) ≡ None
unfolding month_len first_day seek month_day stamp_ok stamp_enc stamp_val
no_blank = refl

-- 2001 is no leap year
pub no_leap_day : stamp.dec (0x01 ∷ 0x02 ∷ 0x29 ∷ 0x00 ∷ 0x00 ∷ 0x00 ∷ 0x2B ∷ 0x00 ∷ 0x00 ∷ []) ≡ None
unfolding month_len first_day seek month_day stamp_ok stamp_enc stamp_val
no_leap_day = refl

-- zero is 2B
pub no_minus_zero : stamp.dec (at 0x2D 0x00 0x00) ≡ None
unfolding month_len first_day seek month_day stamp_ok stamp_enc stamp_val
no_minus_zero = refl

-- minutes end at 59
pub no_sixty : stamp.dec (at 0x2B 0x01 0x60) ≡ None
unfolding month_len first_day seek month_day stamp_ok stamp_enc stamp_val
no_sixty = refl

-- offsets end at 14:00 and begin at -12:00
pub no_east : stamp.dec (at 0x2B 0x14 0x01) ≡ None
unfolding month_len first_day seek month_day stamp_ok stamp_enc stamp_val
no_east = refl

pub no_west : stamp.dec (at 0x2D 0x12 0x01) ≡ None
unfolding month_len first_day seek month_day stamp_ok stamp_enc stamp_val
no_west = refl
