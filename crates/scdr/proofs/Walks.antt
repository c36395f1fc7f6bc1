-- Where a field lies: the readers that go from field to field come to the place to which `walk` comes.
use mathlib.Core.Path.{◌≡◌, refl, sym, ap, subst, ◌∙◌}
use mathlib.Core.Bool.{Bool, false, not, cond, ◌&&◌}
use Rattle.std.specs.Prelude.{Option, None, Some}
use Rattle.std.proofs.lemmas.Option.{none-some, same_Some}
use mathlib.Core.List.{List, [], ◌∷◌}
use Prim.Native.Nat.{ℕ, zero, suc, ◌+◌, ◌-◌, ◌≤◌, ◌<◌}
use native.Mathlib.Nat.{not-suc-le-zero, le_of_suc-le-suc}
use native.Mathlib.Omega.{arith}
use lib.Dec.{T, leb, eqb, eqb_refl}
use lib.ListN.{length, take, drop, get_or, length-drop}
use borrow.Author.Tests.{eqb-true, eqb-false}
use Rattle.format.specs.Format.{Fmt, exactly}
use Rattle.format.proofs.Tests.{by, either, T_true}
use Rattle.format.proofs.Maybe.{bind_some, guard_some}
use Rattle.ber.specs.Tlv.{tlv_dec}
use Rattle.ber.specs.Field.{first, starts, maybe, flagged, is_there, new, between}
use Rattle.ber.specs.Table.{Row, always, if_set, if_any, if_new, Value, Values, row_dec, rows_at, tag, tags, among}
use Rattle.ber.specs.Read.{read_at, part_at}
use Rattle.ber.proofs.Places.{part_end, part_other, part_none, part_some, part_is, PartIs}
use Rattle.format.specs.Maybe.{bind}
use Rattle.ber.proofs.Readers.{read_found, first_leaves, maybe_leaves, flagged_leaves, part_length}
use Rattle.ber.proofs.Tables.{not_l, not_r, row_leaves}
use Rattle.scdr.specs.Apn.{walk}

-- ---- one value

-- what has contents under a tag has that tag
tag_is : (s : List ℕ) (at u : ℕ) {q : List ℕ × List ℕ} → tlv_dec u (drop at s) ≡ Some q → get_or s at 0 ≡ u
tag_is s at u {q} d =
    either (length s) at
    (λ h. absurd (none-some q (sym (part_end s at u h) ∙ d)))
    (λ h. by (eqb (get_or s at 0) u) (eqb-true (get_or s at 0) u)
    (λ n. absurd (none-some q (sym (part_other s at u h (eqb-false (get_or s at 0) u n)) ∙ d))))

module _ {s : List ℕ} {at u a e : ℕ} (p : PartIs s at u a e) where
  walk_part : (n t : ℕ) → walk (suc n) t s at ≡ cond (eqb u t) (a, e) (walk n t s e)
  unfolding walk
  walk_part n t = rw (tag_is s at u p.is, part_is s at u p.order p.inside p.is)

-- a value of format x under the tag, which ends at next
module _ (u : ℕ) {A : Type 0} (x : Fmt A) (s : List ℕ) (at : ℕ) {v : A} {next : ℕ} where
  value_part : next ≤ length s → first u x (drop at s) ≡ Some (v, drop next s)
      → (a : ℕ) × PartIs s at u a next × (x.dec (take (next - a) (drop a s)) ≡ Some v)
  unfolding first
  value_part j d = go (part_at s at u) refl
    where
      go : (o : Option (ℕ × ℕ)) → part_at s at u ≡ o → (a : ℕ) × PartIs s at u a next × (x.dec (take (next - a) (drop a s)) ≡ Some v)
      go None q = absurd (none-some (v, drop next s) (rw (part_none s at u q) at d))
      go (Some (a, e)) q =
          let p = part_some s at u q in
          let (b, f, g) = bind_some (x.dec (take (e - a) (drop a s))) (λ a. Some (a, drop e s)) (v, drop next s) (rw p.is at d) in
          let i = same_Some (b, drop e s) (v, drop next s) g in
          let w : b ≡ v = ap (λ (z : A × List ℕ). z.0) i in
          let r : drop e s ≡ drop next s = ap (λ (z : A × List ℕ). z.1) i in
          let k : e ≡ next = omega (arith, ap length r, length-drop e s, length-drop next s, p.inside) in (
            a,
            subst (λ (m : ℕ). PartIs s at u a m) k p,
            subst (λ (m : ℕ). x.dec (take (m - a) (drop a s)) ≡ Some v) k (f ∙ ap {B = Option A} Some w),
          )

-- ---- one value after another

-- among k values or more from a place on, what is sought under t lies at z
pub record Finds (k t : ℕ) (s : List ℕ) (at : ℕ) (z : ℕ × ℕ) : Type 0 where
  pub place : at ≤ length s
  pub is : (n : ℕ) → k ≤ n → walk n t s at ≡ z

more : {k m t : ℕ} {s : List ℕ} {at : ℕ} {z : ℕ × ℕ} → Finds k t s at z → k ≤ m → Finds m t s at z
more f h = record { place = f.place; is = λ n l. f.is n (omega arith) }

-- it lies after nothing
stays : (s : List ℕ) (at next k t : ℕ) (z : ℕ × ℕ) → at ≤ length s → drop at s ≡ drop next s → Finds k t s next z → Finds (suc k) t s at z
stays s at next k t z j e f =
    let same : next ≡ at = omega (arith, ap length e, length-drop at s, length-drop next s, f.place) in
    record { place = j; is = λ n o. subst (λ (y : ℕ). walk n t s y ≡ z) same (f.is n (omega arith)) }

-- it lies after a value under another tag
over_value : (u : ℕ) {A : Type 0} (x : Fmt A) (s : List ℕ) (at : ℕ) {v : A} {next k t : ℕ} {z : ℕ × ℕ}
    → at ≤ length s → first u x (drop at s) ≡ Some (v, drop next s) → eqb u t ≡ false → Finds k t s next z → Finds (suc k) t s at z
over_value u x s at {v} {next} {k} {t} {z} j d ne f = record { place = j; is = go }
  where
    go : (n : ℕ) → suc k ≤ n → walk n t s at ≡ z
    go zero h = absurd (not-suc-le-zero h)
    go (suc n) h = let (a, p, _) = value_part u x s at f.place d in walk_part p n t ∙ rw ne (f.is n (le_of_suc-le-suc h))

-- or after a value that may be missing, and may be such a one
over_maybe : (u : ℕ) {A : Type 0} (x : Fmt A) (s : List ℕ) (at next k t : ℕ) (z : ℕ × ℕ) (q : Option A × List ℕ)
    → at ≤ length s → maybe u x (drop at s) ≡ Some q → q.1 ≡ drop next s → eqb u t ≡ false → Finds k t s next z → Finds (suc k) t s at z
unfolding maybe
over_maybe u {A} x s at next k t z q j g l ne f =
    by (starts u (drop at s))
    (λ y.
    let (b, m, o) = bind_some (first u x (drop at s)) (λ p. Some (Some p.0, p.1)) q (rw y at g) in
    let e : b.1 ≡ drop next s = ap (λ (y : Option A × List ℕ). y.1) (same_Some (Some b.0, b.1) q o) ∙ l in
    over_value u x s at j (m ∙ ap {B = Option (A × List ℕ)} (λ (y : List ℕ). Some (b.0, y)) e) ne f)
    (λ y. stays s at next k t z j (ap (λ (y : Option A × List ℕ). y.1) (same_Some (None, drop at s) q (rw y at g)) ∙ l) f)

over_row : (r : Row) (s : List ℕ) (at next k t : ℕ) (z : ℕ × ℕ) (v : Value r) → read_at (row_dec r) s at ≡ Some (v, next) → eqb (tag r) t ≡ false
    → Finds k t s next z → Finds (suc k) t s at z
unfolding flagged new
over_row (always u x) s at next k t z v g ne f =
    let (j, _, d) = read_found (first u x) s at (first_leaves u x) g in
    over_value u x s at j d ne f
over_row (if_set u c) s at next k t z v g ne f =
    let (j, _, d) = read_found (flagged u c) s at (flagged_leaves u c) g in
    let (q, m, w) = bind_some (maybe u (exactly c) (drop at s)) (λ p. Some (is_there p.0, p.1)) (v, drop next s) d in
    over_maybe u (exactly c) s at next k t z q j m (ap (λ (y : Bool × List ℕ). y.1) (same_Some (is_there q.0, q.1) (v, drop next s) w)) ne f
over_row (if_any u x) s at next k t z v g ne f =
    let (j, _, d) = read_found (maybe u x) s at (maybe_leaves u x) g in
    over_maybe u x s at next k t z (v, drop next s) j d refl ne f
over_row (if_new u x None) s at next k t z v g ne f =
    let (j, _, d) = read_found (new u x None) s at (row_leaves (if_new u x None)) g in
    over_value u x s at j d ne f
over_row (if_new u {A} x (Some b)) s at next k t z v g ne f =
    let (j, _, d) = read_found (new u x (Some b)) s at (row_leaves (if_new u x (Some b))) g in
    stays s at next k t z j (ap (λ (y : A × List ℕ). y.1) (same_Some (b, drop at s) (v, drop next s) d)) f

-- or after rows that have other tags
pub finds_rows : (s : List ℕ) (rs : List Row) (at next k t : ℕ) (z : ℕ × ℕ) (v : Values rs) → rows_at s rs at ≡ Some (v, next) → T (not (among t (tags rs)))
    → Finds k t s next z → Finds (length rs + k) t s at z
finds_rows s [] at next k t z v g ne f =
    subst (λ (m : ℕ). Finds (0 + k) t s m z) (sym (ap (λ (y : Unit {0} × ℕ). y.1) (same_Some (tt, at) (v, next) g))) (more f (omega arith))
finds_rows s (r ∷ rs) at next k t z v g ne f =
    let h = not_l (eqb (tag r) t) (among t (tags rs)) ne in
    let n = not_r (eqb (tag r) t) (among t (tags rs)) ne in
    let (p, d, e) = bind_some (read_at (row_dec r) s at) (λ p. bind (rows_at s rs p.1) (λ q. Some ((p.0, q.0), q.1))) (v, next) g in
    let (q, o, w) = bind_some (rows_at s rs p.1) (λ q. Some ((p.0, q.0), q.1)) (v, next) e in
    let m : q.1 ≡ next = ap (λ (y : Values (r ∷ rs) × ℕ). y.1) (same_Some ((p.0, q.0), q.1) (v, next) w) in
    let rest = finds_rows s rs p.1 q.1 k t z q.0 o n (subst (λ (y : ℕ). Finds k t s y z) (sym m) f) in
    more (over_row r s at p.1 (length rs + k) t z p.0 d h rest) (omega arith)

module _ {s : List ℕ} {at next t : ℕ} where
  -- what was found lies before the place after it
  pub finds_here : (m : ℕ) {x : List ℕ} → read_at (first t (between 1 m)) s at ≡ Some (x, next)
      → Finds 1 t s at (next - length x, next) × (length x ≤ next) × (next ≤ length s) × (take (length x) (drop (next - length x) s) ≡ x)
  finds_here m {x} c =
      let (j, i, d) = read_found (first t (between 1 m)) s at (first_leaves t (between 1 m)) c in
      let (a, p, o) = value_part t (between 1 m) s at i d in
      let y = take (next - a) (drop a s) in
      let w = (guard_some (leb (length y) m && leb 1 (length y)) y x o).1 in
      let k : next - a ≡ length x = sym (part_length p) ∙ ap length w in
      let e : a ≡ next - length x = omega (arith, p.order) in
      let there = subst (λ (l : ℕ). take l (drop a s) ≡ x) k w in
      (record { place = j; is = go x p e }, omega arith, i, subst (λ (a : ℕ). take (length x) (drop a s) ≡ x) e there)
    where
      go : (x : List ℕ) {a : ℕ} → PartIs s at t a next → a ≡ next - length x → (k : ℕ) → 1 ≤ k → walk k t s at ≡ (next - length x, next)
      go x p e zero h = absurd (not-suc-le-zero h)
      go x p e (suc k) h = walk_part p k t ∙ rw (T_true (eqb t t) (eqb_refl t), e)
