-- The bench table of 01, its twelve rows in their order: what the definitions give, and what they must give.
use Rattle.std.specs.Prelude.{ℕ, Bool, true, ◌&&◌, List, [], ◌∷◌}
use Rattle.format.specs.Format.{eqs}
use Rattle.ber.specs.Int.{int_enc}
use Rattle.ber.specs.Length.{len_enc}
use Rattle.ber.specs.Imsi.{packed}
use Rattle.calendar.specs.Stamp.{stamp_enc}

pub record Row : Type 0 where
  pub got : List ℕ
  pub want : List ℕ

-- local seconds, and minutes from universal time plus 720
abbrev at : ℕ → ℕ → List ℕ
at t z = stamp_enc (record { seconds = t; zone = z })

abbrev row : List ℕ → List ℕ → Row
row g w = record { got = g; want = w }

unfoldable pub table : List Row
table =
    row (int_enc 9 0) (0x00 ∷ [])
    ∷ row (int_enc 9 127) (0x7F ∷ [])
    ∷ row (int_enc 9 128) (0x00 ∷ 0x80 ∷ [])
    ∷ row (int_enc 9 32768) (0x00 ∷ 0x80 ∷ 0x00 ∷ [])
    ∷ row (int_enc 9 4294967295) (0x00 ∷ 0xFF ∷ 0xFF ∷ 0xFF ∷ 0xFF ∷ [])
    ∷ row (len_enc 127) (0x7F ∷ [])
    ∷ row (len_enc 128) (0x81 ∷ 0x80 ∷ [])
    ∷ row (len_enc 256) (0x82 ∷ 0x01 ∷ 0x00 ∷ [])
    ∷ row (at 0 720) (0x00 ∷ 0x01 ∷ 0x01 ∷ 0x00 ∷ 0x00 ∷ 0x00 ∷ 0x2B ∷ 0x00 ∷ 0x00 ∷ [])
    ∷ row (at 5097600 720) (0x00 ∷ 0x02 ∷ 0x29 ∷ 0x00 ∷ 0x00 ∷ 0x00 ∷ 0x2B ∷ 0x00 ∷ 0x00 ∷ [])
    ∷ row (at 3155759999 630) (0x99 ∷ 0x12 ∷ 0x31 ∷ 0x23 ∷ 0x59 ∷ 0x59 ∷ 0x2D ∷ 0x01 ∷ 0x30 ∷ [])
    ∷ row (packed (1 ∷ 2 ∷ 3 ∷ 4 ∷ 5 ∷ 6 ∷ [])) (0x21 ∷ 0x43 ∷ 0x65 ∷ [])
    ∷ []

-- every row gives what it must
unfoldable pub agree : List Row → Bool
agree [] = true
agree (r ∷ rs) = eqs r.got r.want && agree rs
