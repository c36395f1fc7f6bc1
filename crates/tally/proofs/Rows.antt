-- The fields of a record gone through: rows of a table that have another tag are stepped over.
use Rattle.std.proofs.Common.{◌≡◌, ℕ, ◌<◌, ◌≤◌, Bool, true, false, ◌||◌, eqb, List, [], ◌∷◌, ◌++◌, length, sym, refl, ◌∙◌, arith, length-append}
use Rattle.std.specs.Prelude.{None, Some}
use lib.Dec.{eqb_refl}
use Rattle.format.specs.Format.{Fmt}
use Rattle.format.proofs.Tests.{T_true}
use Rattle.ber.specs.Tlv.{tlv_enc}
use Rattle.ber.specs.Table.{Row, always, if_set, if_any, if_new, Value, Values, row, layout, tag, tags, among}
use Rattle.ber.proofs.Tlvs.{tlv_complete, tlv_length}
use Rattle.tally.specs.Seek.{before, seek}
use Rattle.tally.proofs.Seeks.{not_both, seek_here, seek_next}

-- contents that stand in octets that a length can say are short
inner : (u : ℕ) (c y : List ℕ) → length (tlv_enc u c ++ y) < 65536 → length c < 65536
inner u c y h = omega (arith, length-append (tlv_enc u c) y, tlv_length u c)

-- a value with another tag, and one with this
past_value : (t u : ℕ) (c y : List ℕ) → eqb u t ≡ false → length (tlv_enc u c ++ y) < 65536 → seek t (tlv_enc u c ++ y) ≡ seek t y
unfolding tlv_enc
past_value t u c y e h = seek_next t u _ (c, y) (tlv_complete u c y (inner u c y h)) e

pub at_value : (t : ℕ) (c y : List ℕ) → length (tlv_enc t c ++ y) < 65536 → seek t (tlv_enc t c ++ y) ≡ before (tlv_enc t c ++ y)
unfolding tlv_enc
at_value t c y h = seek_here t t _ (c, y) (tlv_complete t c y (inner t c y h)) (T_true (eqb t t) (eqb_refl t))

-- a row with another tag, and those that follow it
past_row : (t : ℕ) (r : Row) {B : Type 0} (e : Fmt B) (v : Value r) (b : B) → eqb (tag r) t ≡ false → length ((row r e).enc (v, b)) < 65536
    → seek t ((row r e).enc (v, b)) ≡ seek t (e.enc b)
past_row t (always u x) e v b d h = past_value t u (x.enc v) (e.enc b) d h
past_row t (if_set u c) e true b d h = past_value t u c (e.enc b) d h
past_row t (if_set u c) e false b d h = refl
past_row t (if_any u x) e None b d h = refl
past_row t (if_any u x) e (Some v) b d h = past_value t u (x.enc v) (e.enc b) d h
past_row t (if_new u x None) e v b d h = past_value t u (x.enc v) (e.enc b) d h
past_row t (if_new u x (Some k)) e v b d h = refl

-- what follows a row is no longer than both
row_rest : (r : Row) {B : Type 0} (e : Fmt B) (v : Value r) (b : B) → length (e.enc b) ≤ length ((row r e).enc (v, b))
row_rest (always u x) e v b = omega (arith, length-append (tlv_enc u (x.enc v)) (e.enc b))
row_rest (if_set u c) e true b = omega (arith, length-append (tlv_enc u c) (e.enc b))
row_rest (if_set u c) e false b = omega arith
row_rest (if_any u x) e None b = omega arith
row_rest (if_any u x) e (Some v) b = omega (arith, length-append (tlv_enc u (x.enc v)) (e.enc b))
row_rest (if_new u x None) e v b = omega (arith, length-append (tlv_enc u (x.enc v)) (e.enc b))
row_rest (if_new u x (Some k)) e v b = omega arith

-- the values of the rows behind others
abbrev pub behind : (rs qs : List Row) → Values (rs ++ qs) → Values qs
behind [] qs v = v
behind (r ∷ rs) qs v = behind rs qs v.1

pub rows_rest : (rs qs : List Row) (v : Values (rs ++ qs)) → length ((layout qs).enc (behind rs qs v)) ≤ length ((layout (rs ++ qs)).enc v)
rows_rest [] qs v = omega arith
rows_rest (r ∷ rs) qs v = omega (arith, rows_rest rs qs v.1, row_rest r (layout (rs ++ qs)) v.0 v.1)

neither : (a b : Bool) → (a || b) ≡ false → (a ≡ false) × (b ≡ false)
neither true b e = absurd (not_both (sym e))
neither false b e = (refl, e)

-- rows that all have other tags
pub past_rows : (t : ℕ) (rs qs : List Row) (v : Values (rs ++ qs)) → among t (tags rs) ≡ false → length ((layout (rs ++ qs)).enc v) < 65536
    → seek t ((layout (rs ++ qs)).enc v) ≡ seek t ((layout qs).enc (behind rs qs v))
past_rows t [] qs v d h = refl
past_rows t (r ∷ rs) qs v d h =
    let (a, b) = neither (eqb (tag r) t) (among t (tags rs)) d in
    past_row t r (layout (rs ++ qs)) v.0 v.1 a h
    ∙ past_rows t rs qs v.1 b (omega (arith, row_rest r (layout (rs ++ qs)) v.0 v.1))
