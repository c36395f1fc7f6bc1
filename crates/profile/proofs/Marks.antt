-- A mark after octets that have none: what stands before it and after it. And the other way round.
use mathlib.Core.Path.{◌≡◌, refl, sym, ap, ◌∙◌}
use mathlib.Core.Bool.{Bool, true, false, cond, ◌&&◌, ◌||◌}
use mathlib.Core.List.{List, [], ◌∷◌, ◌++◌}
use Prim.Native.Nat.{ℕ, suc, ◌+◌, ◌≤◌}
use native.Mathlib.Nat.{not-suc-le-zero}
use native.Mathlib.Omega.{arith}
use native.Mathlib.Numerals.{add-one}
use lib.Dec.{eqb, ltb}
use lib.ListN.{length, take, drop}
use borrow.Author.Tests.{eq-eqb, ne_eqb, eqb-true, ltb-false}
use Rattle.std.specs.Prelude.{Option, None, Some}
use Rattle.std.specs.Option.{unwrap_or}
use Rattle.std.specs.List.{list_any, position_or_len, starts_with}
use Rattle.octets.specs.Chars.{all_of}
use Rattle.profile.specs.Cut.{has, up_to, past, begins}
use Rattle.profile.proofs.Numbers.{by}
use Rattle.profile.proofs.Firsts.{clash, both}

neither : (a b : Bool) → (a || b) ≡ false → (a ≡ false) × (b ≡ false)
neither true b e = clash refl e
neither false b e = (refl, e)

module _ (x : ℕ) where
  -- octets that all pass a test that x does not
  pub absent : (p : ℕ → Bool) (v : List ℕ) → p x ≡ false → all_of p v ≡ true → has x v ≡ false
  unfolding has all_of
  absent p [] e a = refl
  absent p (y ∷ v) e a =
      let (f, g) = both (p y) (all_of p v) a in
      by (eqb y x)
      (λ t. clash f (ap p (eqb-true y x t) ∙ e))
      (λ t. rw (t, absent p v e g))

  pub absent_both : (v w : List ℕ) → has x v ≡ false → has x w ≡ false → has x (v ++ w) ≡ false
  unfolding has
  absent_both [] w e f = f
  absent_both (y ∷ v) w e f = let (a, b) = neither (eqb y x) (has x v) e in rw (a, absent_both v w b f)

  pub clear_after : (v w : List ℕ) → has x (v ++ w) ≡ false → has x w ≡ false
  unfolding has
  clear_after [] w e = e
  clear_after (y ∷ v) w e = clear_after v w (neither (eqb y x) (has x (v ++ w)) e).1

  pub past_beyond : (v w : List ℕ) → has x v ≡ false → past x (v ++ w) ≡ past x w
  unfolding has past
  past_beyond [] w e = refl
  past_beyond (y ∷ v) w e = let (a, b) = neither (eqb y x) (has x v) e in rw (a, past_beyond v w b)

  module _ (r : List ℕ) where
    pub has_here : (v : List ℕ) → has x (v ++ x ∷ r) ≡ true
    unfolding has
    has_here [] = rw (eq-eqb x x refl)
    has_here (y ∷ v) = by (eqb y x) (λ t. rw t) (λ t. rw (t, has_here v))

    pub up_to_here : (v : List ℕ) → has x v ≡ false → up_to x (v ++ x ∷ r) ≡ v
    unfolding has up_to
    up_to_here [] e = rw (eq-eqb x x refl)
    up_to_here (y ∷ v) e = let (a, b) = neither (eqb y x) (has x v) e in rw (a, up_to_here v b)

    pub past_here : (v : List ℕ) → has x v ≡ false → past x (v ++ x ∷ r) ≡ r
    unfolding past
    past_here v e = past_beyond v (x ∷ r) e ∙ rw (eq-eqb x x refl)

  -- no mark stands before the first
  pub up_to_clear : (s : List ℕ) → has x (up_to x s) ≡ false
  unfolding has up_to
  up_to_clear [] = refl
  up_to_clear (y ∷ s) = by (eqb y x) (λ t. rw t) (λ t. rw t (rw (t, up_to_clear s)))

  -- octets that have the mark are what stands before it, the mark and what stands after it
  pub cut_is : (s : List ℕ) → has x s ≡ true → s ≡ up_to x s ++ x ∷ past x s
  unfolding has up_to past
  cut_is [] e = clash e refl
  cut_is (y ∷ s) e =
      by (eqb y x)
      (λ t. rw t (ap (λ (z : ℕ). z ∷ s) (eqb-true y x t)))
      (λ t. let h = rw t at e in rw t (ap (◌∷◌ y) (cut_is s h)))

  -- where something stands past the mark, the mark is there
  pub past_some : (s : List ℕ) → 1 ≤ length (past x s) → has x s ≡ true
  unfolding has past
  past_some [] h = absurd (not-suc-le-zero h)
  past_some (y ∷ s) h = by (eqb y x) (λ t. rw t) (λ t. let k = rw t at h in rw (t, past_some s k))

-- ---- the name at the front

pub begins_here : (name t : List ℕ) → begins name (name ++ t) ≡ true
unfolding begins
begins_here [] t = refl
begins_here (x ∷ name) t = rw (eq-eqb x x refl, begins_here name t)

pub begins_is : (name s : List ℕ) → begins name s ≡ true → s ≡ name ++ drop (length name) s
unfolding begins
begins_is [] s e = refl
begins_is (x ∷ name) [] e = clash e refl
begins_is (x ∷ name) (y ∷ s) e =
    let (a, b) = both (eqb y x) (begins name s) e in
    ap (λ (z : ℕ). z ∷ s) (eqb-true y x a) ∙ ap (◌∷◌ x) (begins_is name s b)

-- as the code tests it
eqb_sym : (x y : ℕ) → eqb x y ≡ eqb y x
eqb_sym x y = by (eqb y x) (λ t. eq-eqb x y (sym (eqb-true y x t)) ∙ sym t) (λ t. ne_eqb x y (λ e. clash (eq-eqb y x (sym e)) t) ∙ sym t)

pub begins_test : (name s : List ℕ) → starts_with eqb s name ≡ begins name s
unfolding begins
begins_test [] s = refl
begins_test (x ∷ name) [] = refl
begins_test (x ∷ name) (y ∷ s) = rw (eqb_sym x y) (ap (λ (t : Bool). eqb y x && t) (begins_test name s))

module _ (x : ℕ) where
  abbrev pub is : ℕ → Bool
  is y = eqb y x

  pub has_test : (s : List ℕ) → list_any is s ≡ has x s
  unfolding has
  has_test [] = refl
  has_test (y ∷ s) = ap (λ (t : Bool). eqb y x || t) (has_test s)

  -- ---- as the code comes to it: by how many octets stand before the mark

  ahead_more : (y : ℕ) (s : List ℕ) → eqb y x ≡ false → position_or_len is (y ∷ s) ≡ suc (position_or_len is s)
  ahead_more y s t = rw t (omega arith)

  pub ahead_most : (s : List ℕ) → position_or_len is s ≤ length s
  ahead_most [] = omega arith
  ahead_most (y ∷ s) = by (eqb y x) (λ t. rw t (omega arith)) (λ t. rw t (omega (arith, ahead_most s)))

  pub or_all : (s : List ℕ) {r : Option ℕ} → r ≡ cond (ltb (position_or_len is s) (length s)) (Some (position_or_len is s)) None
      → unwrap_or r (length s) ≡ position_or_len is s
  or_all s e =
      by (ltb (position_or_len is s) (length s))
      (λ t. rw (e, t))
      (λ t. rw (e, t) (omega (arith, ahead_most s, ltb-false (position_or_len is s) (length s) t)))

  pub up_to_take : (s : List ℕ) → take (position_or_len is s) s ≡ up_to x s
  unfolding up_to
  up_to_take [] = refl
  up_to_take (y ∷ s) = by (eqb y x) (λ t. rw t) (λ t. ap (λ (n : ℕ). take n (y ∷ s)) (ahead_more y s t) ∙ rw t (ap (◌∷◌ y) (up_to_take s)))

  past_suc : (s : List ℕ) → drop (suc (position_or_len is s)) s ≡ past x s
  unfolding past
  past_suc [] = refl
  past_suc (y ∷ s) = by (eqb y x) (λ t. rw t) (λ t. ap (λ (n : ℕ). drop n s) (ahead_more y s t) ∙ rw t (past_suc s))

  pub past_drop : (s : List ℕ) → drop (position_or_len is s + 1) s ≡ past x s
  past_drop s = rw (add-one (position_or_len is s)) (past_suc s)
