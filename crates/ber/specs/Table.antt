-- Fields as a table: a row a field, with its tag, when it is there, and its values. The layout of the fields is their table read off.
use Rattle.std.specs.Prelude.{Bool, true, false, not, cond, ◌&&◌, ◌||◌, List, [], ◌∷◌, ◌++◌, ℕ, eqb}
use Rattle.std.specs.Prelude.{Option, Some}
use Rattle.format.specs.Maybe.{bind}
use Rattle.format.specs.Format.{Fmt, exactly}
use Rattle.ber.specs.Tlv.{tlv_enc}
use Rattle.ber.specs.Read.{read_at}
use Rattle.ber.specs.Field.{first, field, end, opt_good, opt_enc, maybe, optional, there, flagged, flag, new_good, new_enc, new, unless_known, ◌▸◌}

pub data Row : Type 1 where
  -- always there: a value of the format under the tag
  always : ℕ → {A : Type 0} → Fmt A → Row
  -- there only where it is set: these octets under the tag
  if_set : ℕ → List ℕ → Row
  -- there only where there is one: a value of the format under the tag
  if_any : ℕ → {A : Type 0} → Fmt A → Row
  -- there only where it is not known already: a value of the format under the tag
  if_new : ℕ → {A : Type 0} → Fmt A → Option A → Row

-- ---- the fields of a table

-- what a row says
abbrev pub Value : Row → Type 0
Value (always t {A} x) = A
Value (if_set t c) = Bool
Value (if_any t {A} x) = Option A
Value (if_new t {A} x k) = A

abbrev pub Values : List Row → Type 0
Values [] = Unit {0}
Values (r ∷ rs) = Value r × Values rs

-- a row, and then e
abbrev pub row : (r : Row) → {B : Type 0} → Fmt B → Fmt (Value r × B)
row (always t x) e = field t x e
row (if_set t c) e = flag t c e
row (if_any t x) e = optional t x e
row (if_new t x k) e = unless_known t x k e

-- the rows one after another, to the end
abbrev pub layout : (rs : List Row) → Fmt (Values rs)
layout [] = end
layout (r ∷ rs) = row r ▸ layout rs

-- ---- one row by itself

-- which values it may have
abbrev pub row_good : (r : Row) → Value r → Type 0
row_good (always t x) v = x.good v
row_good (if_set t c) v = opt_good t (exactly c) (there v)
row_good (if_any t x) v = opt_good t x v
row_good (if_new t x k) v = new_good t x k v

-- its octets
abbrev pub row_enc : (r : Row) → Value r → List ℕ
row_enc (always t x) v = tlv_enc t (x.enc v)
row_enc (if_set t c) v = opt_enc t (exactly c) (there v)
row_enc (if_any t x) v = opt_enc t x v
row_enc (if_new t x k) v = new_enc t x k v

-- what it says at the front of s, and what follows it
abbrev pub row_dec : (r : Row) → List ℕ → Option (Value r × List ℕ)
row_dec (always t x) s = first t x s
row_dec (if_set t c) s = flagged t c s
row_dec (if_any t x) s = maybe t x s
row_dec (if_new t x k) s = new t x k s

-- what the rows say one after another from a place of s on, and the place after them
abbrev pub rows_at : List ℕ → (rs : List Row) → ℕ → Option (Values rs × ℕ)
rows_at s [] at = Some (tt, at)
rows_at s (r ∷ rs) at = bind (read_at (row_dec r) s at) (λ p. bind (rows_at s rs p.1) (λ q. Some ((p.0, q.0), q.1)))

-- the values of some rows and of those that follow
abbrev pub both : (rs qs : List Row) → Values rs → Values qs → Values (rs ++ qs)
both [] qs v w = w
both (r ∷ rs) qs v w = (v.0, both rs qs v.1 w)

-- ---- the tags of a table

abbrev pub tag : Row → ℕ
tag (always t x) = t
tag (if_set t c) = t
tag (if_any t x) = t
tag (if_new t x k) = t

abbrev pub is_always : Row → Bool
is_always (always t x) = true
is_always (if_set t c) = false
is_always (if_any t x) = false
is_always (if_new t x k) = false

-- all, in their order
abbrev pub tags : List Row → List ℕ
tags [] = []
tags (r ∷ rs) = tag r ∷ tags rs

-- those that are always there, and those that are there only sometimes
abbrev pub tags_always : List Row → List ℕ
tags_always [] = []
tags_always (r ∷ rs) = cond (is_always r) (tag r ∷ []) [] ++ tags_always rs

abbrev pub tags_sometimes : List Row → List ℕ
tags_sometimes [] = []
tags_sometimes (r ∷ rs) = cond (is_always r) [] (tag r ∷ []) ++ tags_sometimes rs

-- t is one of these
abbrev pub among : ℕ → List ℕ → Bool
among t [] = false
among t (u ∷ us) = eqb u t || among t us

-- none of these stands twice
abbrev pub distinct : List ℕ → Bool
distinct [] = true
distinct (t ∷ us) = not (among t us) && distinct us
