-- The laws of a table of fields, by recursion over its rows: of its layout, of rows that are read one after another, of rows that are written so.
use mathlib.Core.Path.{◌≡◌, refl, sym, ap, ◌∙◌}
use mathlib.Core.Bool.{Bool, true, false, not, ◌&&◌, ◌||◌}
use Rattle.std.specs.Prelude.{Option, None, Some, IfSome}
use Rattle.std.proofs.lemmas.Option.{same_Some}
use mathlib.Core.List.{List, [], ◌∷◌, ◌++◌, append_assoc}
use Prim.Native.Nat.{ℕ, ◌+◌, ◌≤◌}
use native.Mathlib.Omega.{arith}
use lib.Dec.{T, ltb, eqb}
use lib.ListN.{length, length-append}
use borrow.Author.Tests.{eq-eqb, ne_eqb}
use Rattle.format.specs.Maybe.{bind, guard}
use Rattle.format.specs.Format.{Fmt, Law, mapped, refined}
use Rattle.format.proofs.Tests.{by, either, and_l, and_r}
use Rattle.format.proofs.Maybe.{bind_bind, bind_same}
use Rattle.ber.specs.Tlv.{tlv_enc, head}
use Rattle.ber.specs.Field.{end, new, Avoids}
use Rattle.ber.specs.Table.{Row, always, if_set, if_any, if_new, Value, Values, row, layout, row_good, row_enc, row_dec, rows_at, both, tag, tags, among, distinct}
use Rattle.ber.proofs.Tlvs.{tlv_fits}
use Rattle.ber.proofs.Fields.{Caps, field_law, end_law, optional_law, flag_law, unless_known_law, field_avoids, optional_avoids, flag_avoids}
use Rattle.ber.specs.Read.{here, read_at}
use Rattle.ber.proofs.Readers.{here_yes, here_no, Leaves, got, read_lost, end_is, flag_dec, first_leaves, maybe_leaves, flagged_leaves}

-- ---- the law of a layout

-- what it rests on in a row: a lawful format whose longest form has a length
abbrev pub RowLaw : Row → Type 0
RowLaw (always t x) = Law x × Caps x
RowLaw (if_set t c) = T (ltb (length c) 65536)
RowLaw (if_any t x) = Law x × Caps x
RowLaw (if_new t x k) = Law x × Caps x

abbrev pub Laws : List Row → Type 0
Laws [] = Unit {0}
Laws (r ∷ rs) = RowLaw r × Laws rs

pub not_l : (a b : Bool) → T (not (a || b)) → a ≡ false
not_l true b h = absurd h
not_l false b h = refl

pub not_r : (a b : Bool) → T (not (a || b)) → T (not b)
not_r true b h = absurd h
not_r false b h = h

-- a tag that no row has is not the first of any form
layout_avoids : (t : ℕ) (rs : List Row) → T (not (among t (tags rs))) → Avoids t (layout rs)
layout_avoids t [] h = λ b g. refl
layout_avoids t (r ∷ rs) h = go r (not_l (eqb (tag r) t) (among t (tags rs)) h) (layout_avoids t rs (not_r (eqb (tag r) t) (among t (tags rs)) h))
  where
    go : (r : Row) → eqb (tag r) t ≡ false → Avoids t (layout rs) → Avoids t (row r (layout rs))
    go (always u x) h av = field_avoids u x (layout rs) t h
    go (if_set u c) h av = flag_avoids u c (layout rs) t h av
    go (if_any u x) h av = optional_avoids u x (layout rs) t h av
    go (if_new u x None) h av = field_avoids u x (layout rs) t h
    go (if_new u x (Some k)) h av = λ b g. av b.1 g.1

-- one law a kind of row. No tag stands twice, so a row that is not there is told from those that follow it.
pub layout_law : (rs : List Row) → Laws rs → T (distinct (tags rs)) → Law (layout rs)
layout_law [] l d = end_law
layout_law (r ∷ rs) l d =
    go r l.0 (layout_law rs l.1 (and_r (not (among (tag r) (tags rs))) (distinct (tags rs)) d))
    (layout_avoids (tag r) rs (and_l (not (among (tag r) (tags rs))) (distinct (tags rs)) d))
  where
    go : (r : Row) → RowLaw r → Law (layout rs) → Avoids (tag r) (layout rs) → Law (row r (layout rs))
    go (always t x) (lx, cap) l av = field_law t x (layout rs) lx l cap
    go (if_set t c) cap l av = flag_law t c (layout rs) l cap av
    go (if_any t x) (lx, cap) l av = optional_law t x (layout rs) lx l cap av
    go (if_new t x k) (lx, cap) l av = unless_known_law t x (layout rs) lx l cap k

-- ---- rows read one after another

new_leaves : (t : ℕ) {A : Type 0} (x : Fmt A) (k : Option A) → Leaves (new t x k)
unfolding new
new_leaves t x None = first_leaves t x
new_leaves t x (Some k) = record { before = λ z p e. ([], ap {B = List ℕ} (λ v. v.1) (same_Some (k, z) p e)) }

pub row_leaves : (r : Row) → Leaves (row_dec r)
row_leaves (always t x) = first_leaves t x
row_leaves (if_set t c) = flagged_leaves t c
row_leaves (if_any t x) = maybe_leaves t x
row_leaves (if_new t x k) = new_leaves t x k

-- ---- THE law of a table: its rows read one after another are its layout

-- a layout reads its first row, and then the others
row_is : (r : Row) {B : Type 0} (e : Fmt B) (z : List ℕ) → (row r e).dec z ≡ bind (row_dec r z) (λ q. bind (e.dec q.1) (λ b. Some (q.0, b)))
row_is (always t x) e z = refl
row_is (if_set t c) e z = flag_dec t c e z
row_is (if_any t x) e z = refl
row_is (if_new t x k) e z = refl

-- it counts where it is all of s
abbrev pub ended : {A : Type 0} → List ℕ → Option (A × ℕ) → Option A
ended s o = bind o (λ q. guard (eqb q.1 (length s)) q.0)

module _ (s : List ℕ) where
  end_at : (at : ℕ) → bind (here s at) end.dec ≡ guard (eqb at (length s)) tt
  end_at at =
      either at (length s)
      (λ k. rw (here_yes s at k) (end_is s at k))
      (λ k. rw (here_no s at k, ne_eqb at (length s) (omega arith)))

  pub layout_at : (rs : List Row) (at : ℕ) → bind (here s at) (layout rs).dec ≡ ended s (rows_at s rs at)
  layout_at [] at = end_at at
  layout_at (r ∷ rs) at =
      bind_same (here s at) (row r (layout rs)).dec _ (row_is r (layout rs))
      ∙ sym (bind_bind (here s at) (row_dec r) then_rest)
      ∙ go (layout_at rs) (read_at (row_dec r) s at) refl
    where
      then_rest : Value r × List ℕ → Option (Value r × Values rs)
      then_rest q = bind ((layout rs).dec q.1) (λ b. Some (q.0, b))

      both_of : (v : Value r) (o : Option (Values rs × ℕ))
          → bind (ended s o) (λ b. Some (v, b)) ≡ ended {A = Value r × Values rs} s (bind o (λ q. Some ((v, q.0), q.1)))
      both_of v None = refl
      both_of v (Some q) = by (eqb q.1 (length s)) (λ y. rw y) (λ n. rw n)

      go : ((m : ℕ) → bind (here s m) (layout rs).dec ≡ ended s (rows_at s rs m)) → (o : Option (Value r × ℕ)) → read_at (row_dec r) s at ≡ o
          → bind (bind (here s at) (row_dec r)) then_rest
          ≡ ended {A = Value r × Values rs} s (bind o (λ p. bind (rows_at s rs p.1) (λ q. Some ((p.0, q.0), q.1))))
      go rest None e = rw (read_lost (row_dec r) s at e)
      go rest (Some p) e =
          ap (λ (o : Option (Value r × List ℕ)). bind o then_rest) (got (row_dec r) s at (row_leaves r) e).is
          ∙ bind_bind (here s p.1) (λ y. Some (p.0, y)) then_rest
          ∙ sym (bind_bind (here s p.1) (layout rs).dec (λ b. Some (p.0, b)))
          ∙ ap (λ (o : Option (Values rs)). bind o (λ b. Some (p.0, b))) (rest p.1)
          ∙ both_of p.0 (rows_at s rs p.1)

  -- of all of s
  pub layout_is : (rs : List Row) → (layout rs).dec s ≡ ended s (rows_at s rs 0)
  layout_is rs = sym (ap (λ (o : Option (List ℕ)). bind o (layout rs).dec) (here_yes s 0 (omega arith))) ∙ layout_at rs 0

  -- rows that end where s does are the layout, and it is read as what they say
  pub rows_yes : (rs : List Row) (at : ℕ) (v : Values rs) (next : ℕ) → rows_at s rs at ≡ Some (v, next) → next ≡ length s
      → bind (here s at) (layout rs).dec ≡ Some v
  rows_yes rs at v next e n = layout_at rs at ∙ rw (e, eq-eqb next (length s) n)

  -- and where a row is not there, or they end elsewhere, the layout is none
  pub rows_no : (rs : List Row) (at : ℕ) → IfSome (rows_at s rs at) (λ q. q.1 ≡ length s → ⊥) → bind (here s at) (layout rs).dec ≡ None
  rows_no rs at n = layout_at rs at ∙ go (rows_at s rs at) n
    where
      go : (o : Option (Values rs × ℕ)) → IfSome o (λ q. q.1 ≡ length s → ⊥) → ended s o ≡ None
      go None n = refl
      go (Some q) n = rw (ne_eqb q.1 (length s) n)

  -- of all of s, as the value that the rows say, if it passes a test
  pub table_is : {A : Type 0} (rs : List Row) (to : Values rs → A) (back : A → Values rs) (ok : A → Bool)
      → (refined ok (mapped to back (layout rs))).dec s ≡ bind (rows_at s rs 0) (λ q. guard (eqb q.1 (length s) && ok (to q.0)) (to q.0))
  table_is {A} rs to back ok =
      ap (λ (o : Option (Values rs)). bind {A = A} (bind o (λ v. Some (to v))) (λ a. guard (ok a) a)) (layout_is rs)
      ∙ go (rows_at s rs 0)
    where
      go : (o : Option (Values rs × ℕ))
          → bind {A = A} (bind (ended s o) (λ v. Some (to v))) (λ a. guard (ok a) a) ≡ bind o (λ q. guard (eqb q.1 (length s) && ok (to q.0)) (to q.0))
      go None = refl
      go (Some q) = by (eqb q.1 (length s)) (λ y. rw y) (λ n. rw n)

  -- the rows of two tables one after another
  pub rows_then : (rs qs : List Row) (at : ℕ)
      → rows_at s (rs ++ qs) at ≡ bind (rows_at s rs at) (λ p. bind (rows_at s qs p.1) (λ q. Some (both rs qs p.0 q.0, q.1)))
  rows_then [] qs at = sym (bind_id (rows_at s qs at))
    where
      bind_id : {A : Type 0} (o : Option (A × ℕ)) → bind o (λ q. Some (q.0, q.1)) ≡ o
      bind_id None = refl
      bind_id (Some q) = refl
  rows_then (r ∷ rs) qs at = go (rows_then rs qs) (read_at (row_dec r) s at)
    where
      pick : (v : Value r) (o : Option (Values rs × ℕ))
          → bind {A = Values (rs ++ qs) × ℕ} {B = Values (r ∷ (rs ++ qs)) × ℕ} (bind o (λ p. bind (rows_at s qs p.1) (λ q. Some (both rs qs p.0 q.0, q.1)))) (λ q. Some ((v, q.0), q.1))
          ≡ bind {A = Values (r ∷ rs) × ℕ} (bind o (λ q. Some ((v, q.0), q.1))) (λ p. bind (rows_at s qs p.1) (λ q. Some (both (r ∷ rs) qs p.0 q.0, q.1)))
      pick v None = refl
      pick v (Some p) = bind_bind (rows_at s qs p.1) (λ q. Some (both rs qs p.0 q.0, q.1)) (λ q. Some ((v, q.0), q.1))

      go : ((m : ℕ) → rows_at s (rs ++ qs) m ≡ bind (rows_at s rs m) (λ p. bind (rows_at s qs p.1) (λ q. Some (both rs qs p.0 q.0, q.1))))
          → (o : Option (Value r × ℕ))
          → bind {B = Values (r ∷ (rs ++ qs)) × ℕ} o (λ p. bind (rows_at s (rs ++ qs) p.1) (λ q. Some ((p.0, q.0), q.1)))
          ≡ bind {A = Values (r ∷ rs) × ℕ} (bind o (λ p. bind (rows_at s rs p.1) (λ q. Some ((p.0, q.0), q.1))))
          (λ p. bind (rows_at s qs p.1) (λ q. Some (both (r ∷ rs) qs p.0 q.0, q.1)))
      go rest None = refl
      go rest (Some p) = ap (λ (o : Option (Values (rs ++ qs) × ℕ)). bind o (λ q. Some ((p.0, q.0), q.1))) (rest p.1) ∙ pick p.0 (rows_at s rs p.1)

-- The rows read one after another, with what is made of them in the end: as code reads them.
abbrev pub rows_with : {C : Type 0} → List ℕ → (rs : List Row) → ℕ → (Values rs → ℕ → Option C) → Option C
rows_with s [] at k = k tt at
rows_with s (r ∷ rs) at k = bind (read_at (row_dec r) s at) (λ p. rows_with s rs p.1 (λ v n. k (p.0, v) n))

module _ {C : Type 0} (s : List ℕ) where
  pub with_at : (rs : List Row) (at : ℕ) (k : Values rs → ℕ → Option C) → bind (rows_at s rs at) (λ q. k q.0 q.1) ≡ rows_with s rs at k
  with_at [] at k = refl
  with_at (r ∷ rs) at k = go (λ m v. with_at rs m (λ w n. k (v, w) n)) (read_at (row_dec r) s at)
    where
      go : ((m : ℕ) (v : Value r) → bind (rows_at s rs m) (λ q. k (v, q.0) q.1) ≡ rows_with s rs m (λ w n. k (v, w) n))
          → (o : Option (Value r × ℕ))
          → bind {A = Values (r ∷ rs) × ℕ} (bind o (λ p. bind (rows_at s rs p.1) (λ q. Some ((p.0, q.0), q.1)))) (λ q. k q.0 q.1)
          ≡ bind o (λ p. rows_with s rs p.1 (λ v n. k (p.0, v) n))
      go rest None = refl
      go rest (Some p) = bind_bind {B = Values (r ∷ rs) × ℕ} (rows_at s rs p.1) (λ q. Some ((p.0, q.0), q.1)) (λ q. k q.0 q.1) ∙ rest p.1 p.0

  pub with_bind : {B : Type 0} (rs : List Row) (at : ℕ) (k : Values rs → ℕ → Option B) (g : B → Option C)
      → bind (rows_with s rs at k) g ≡ rows_with s rs at (λ v n. bind (k v n) g)
  with_bind [] at k g = refl
  with_bind {B} (r ∷ rs) at k g = go (λ m v. with_bind rs m (λ w n. k (v, w) n) g) (read_at (row_dec r) s at)
    where
      go : ((m : ℕ) (v : Value r) → bind (rows_with s rs m (λ w n. k (v, w) n)) g ≡ rows_with s rs m (λ w n. bind (k (v, w) n) g))
          → (o : Option (Value r × ℕ))
          → bind (bind o (λ p. rows_with s rs p.1 (λ v n. k (p.0, v) n))) g ≡ bind o (λ p. rows_with s rs p.1 (λ v n. bind (k (p.0, v) n) g))
      go rest None = refl
      go rest (Some p) = rest p.1 p.0

-- ---- rows in parts

row_enc_lem : (r : Row) {B : Type 0} (e : Fmt B) (v : Value r) (b : B) → (row r e).enc (v, b) ≡ row_enc r v ++ e.enc b
row_enc_lem (always t x) e v b = refl
row_enc_lem (if_set t c) e v b = refl
row_enc_lem (if_any t x) e v b = refl
row_enc_lem (if_new t x k) e v b = refl

pub layout_parts : (rs qs : List Row) (v : Values rs) (w : Values qs) → (layout (rs ++ qs)).enc (both rs qs v w) ≡ (layout rs).enc v ++ (layout qs).enc w
layout_parts [] qs v w = refl
layout_parts (r ∷ rs) qs v w =
    row_enc_lem r (layout (rs ++ qs)) v.0 (both rs qs v.1 w)
    ∙ ap (λ (z : List ℕ). row_enc r v.0 ++ z) (layout_parts rs qs v.1 w)
    ∙ sym (append_assoc (row_enc r v.0) ((layout rs).enc v.1) ((layout qs).enc w))
    ∙ ap (λ (z : List ℕ). z ++ (layout qs).enc w) (sym (row_enc_lem r (layout rs) v.0 v.1))

-- ---- how long a layout gets, row by row: for values that the code may hold and that no law calls good

abbrev pub RowFits : (r : Row) → Value r → Type 0
RowFits (always t x) v = length (x.enc v) ≤ x.most
RowFits (if_set t c) v = Unit {0}
RowFits (if_any t x) None = Unit {0}
RowFits (if_any t x) (Some v) = length (x.enc v) ≤ x.most
RowFits (if_new t x None) v = length (x.enc v) ≤ x.most
RowFits (if_new t x (Some k)) v = Unit {0}

-- what a lawful row takes fits it
pub good_fits : (r : Row) (v : Value r) → RowLaw r → row_good r v → RowFits r v
good_fits (always t x) v l g = l.0.fits v g
good_fits (if_set t c) v l g = tt
good_fits (if_any t x) None l g = tt
good_fits (if_any t x) (Some v) l g = l.0.fits v g
good_fits (if_new t x None) v l g = l.0.fits v g
good_fits (if_new t x (Some k)) v l g = tt

abbrev pub RowsFit : (rs : List Row) → Values rs → Type 0
RowsFit [] v = Unit {0}
RowsFit (r ∷ rs) v = RowFits r v.0 × RowsFit rs v.1

pub layout_fits : (rs : List Row) (v : Values rs) → RowsFit rs v → length ((layout rs).enc v) ≤ (layout rs).most
layout_fits [] v f = omega arith
layout_fits (r ∷ rs) v (f, fs) = go r v.0 f (layout_fits rs v.1 fs)
  where
    under : (t : ℕ) (c : List ℕ) (m : ℕ) → length c ≤ m → length ((layout rs).enc v.1) ≤ (layout rs).most
        → length (tlv_enc t c ++ (layout rs).enc v.1) ≤ head m + m + (layout rs).most
    under t c m h l = omega (arith, length-append (tlv_enc t c) ((layout rs).enc v.1), tlv_fits t c m h)

    go : (r : Row) (w : Value r) → RowFits r w → length ((layout rs).enc v.1) ≤ (layout rs).most
        → length ((row r (layout rs)).enc (w, v.1)) ≤ (row r (layout rs)).most
    go (always t x) w h l = under t (x.enc w) x.most h l
    go (if_set t c) true h l = under t c (length c) (omega arith) l
    go (if_set t c) false h l = omega arith
    go (if_any t x) None h l = omega arith
    go (if_any t x) (Some w) h l = under t (x.enc w) x.most h l
    go (if_new t x None) w h l = under t (x.enc w) x.most h l
    go (if_new t x (Some k)) w h l = omega arith
