-- The rules of a list, tested one container after another: what the loops find, and that it is the rules of specs/List.antt.
use mathlib.Core.Path.{◌≡◌, refl, sym, ap, ◌∙◌}
use mathlib.Core.Bool.{Bool, true, false, ◌&&◌}
use mathlib.Core.List.{List, [], ◌∷◌}
use Prim.Native.Nat.{ℕ, zero, suc, ◌+◌, ◌-◌, ◌≤◌, ◌<◌}
use native.Mathlib.Omega.{arith}
use lib.Dec.{leb, ltb, eqb}
use lib.ListN.{length, take, drop, get_or, length-drop}
use lib.Seq.{get_or-take, length-take-le}
use borrow.Author.Tests.{le-leb, lt-leb}
use Rattle.format.proofs.Tests.{by, T_true, true_T, and_l, and_r}
use Rattle.format.proofs.Arrays.{front_cons, front_end}
use Rattle.calendar.specs.declared.Stamp.{Stamp}
use Rattle.container.specs.declared.Container.{Container}
use Rattle.container.specs.Container.{container_ok}
use Rattle.container.specs.List.{each_ok, last_alone, one_offset, in_order, changes, qos_rule, list_ok}
use Rattle.container.specs.Private.Stepwise.{stands, all_stand, follows, all_follow, last_ends}

-- ---- the loops: one container more

module _ (v : List Container) (n : ℕ) (r : n ≤ length v) where
  module _ (z t i : ℕ) (d : Container) where
    stand_no : i < n → stands z t (get_or v i d) ≡ false → false ≡ all_stand z t (drop i (take n v))
    unfolding all_stand
    stand_no h e = rw (front_cons v n r i d h, e)

    stand_more : i < n → stands z t (get_or v i d) ≡ true → all_stand z (get_or v i d).time.seconds (drop (i + 1) (take n v)) ≡ all_stand z t (drop i (take n v))
    unfolding all_stand
    stand_more h e = rw (front_cons v n r i d h, e)

  stand_end : (z t i : ℕ) → n ≤ i → true ≡ all_stand z t (drop i (take n v))
  unfolding all_stand
  stand_end z t i h = rw (front_end v n r i h)

  module _ (i : ℕ) (d e : Container) (h : i + 1 < n) where
    two : drop i (take n v) ≡ get_or v i d ∷ get_or v (i + 1) e ∷ drop (i + 1 + 1) (take n v)
    two = front_cons v n r i d (omega arith) ∙ ap {B = List Container} (λ l. get_or v i d ∷ l) (front_cons v n r (i + 1) e h)

    follow_no : follows (get_or v i d) (get_or v (i + 1) e) ≡ false → false ≡ all_follow (drop i (take n v))
    unfolding all_follow
    follow_no q = rw (two, q)

    follow_more : follows (get_or v i d) (get_or v (i + 1) e) ≡ true → all_follow (drop (i + 1) (take n v)) ≡ all_follow (drop i (take n v))
    unfolding all_follow
    follow_more q = rw (two, front_cons v n r (i + 1) e h, q)

  follow_end : (i : ℕ) → n ≤ i + 1 → true ≡ all_follow (drop i (take n v))
  unfolding all_follow
  follow_end i h = single (drop i (take n v)) (omega (arith, length-drop i (take n v), length-take-le n v r))
    where
      single : (l : List Container) → length l ≤ 1 → true ≡ all_follow l
      single [] k = refl
      single (c ∷ []) k = refl
      single (c ∷ d ∷ l) k = absurd (omega arith)

-- ---- together they are the rules

shuffle : (a b c x y w : Bool) → ((a && b && c) && (x && y && w)) ≡ ((a && x) && (b && y) && (c && w))
shuffle false b c x y w = refl
shuffle true true true x y w = refl
shuffle true false c true y w = refl
shuffle true false c false y w = refl
shuffle true true false true true w = refl
shuffle true true false true false w = refl
shuffle true true false false y w = refl

all_stand_lem : (z t : ℕ) (cs : List Container) → all_stand z t cs ≡ (each_ok cs && one_offset z cs && in_order t cs)
unfolding all_stand stands each_ok one_offset in_order
all_stand_lem z t [] = refl
all_stand_lem z t (c ∷ cs) =
    ap (λ (b : Bool). stands z t c && b) (all_stand_lem z c.time.seconds cs)
    ∙ shuffle (container_ok c) (eqb c.time.zone z) (leb t c.time.seconds) (each_ok cs) (one_offset z cs) (in_order c.time.seconds cs)

linked : (a b f l p q : Bool) → (f && l) ≡ (p && q) → ((a && b && f) && l) ≡ ((a && p) && (b && q))
linked false b f l p q e = refl
linked true true f l p q e = e
linked true false f l true q e = refl
linked true false f l false q e = refl

all_follow_lem : (cs : List Container) → 1 ≤ length cs → (all_follow cs && last_ends cs) ≡ (last_alone cs && qos_rule cs)
unfolding all_follow last_ends last_alone qos_rule follows
all_follow_lem [] h = absurd (omega arith)
all_follow_lem (c ∷ []) h = and-true (eqb c.condition 2)
  where
    and-true : (b : Bool) → b ≡ (b && true)
    and-true true = refl
    and-true false = refl
all_follow_lem (c ∷ d ∷ cs) h =
    linked (ltb c.condition 2) (changes c d.qos) (all_follow (d ∷ cs)) (last_ends (d ∷ cs)) (last_alone (d ∷ cs)) (qos_rule (d ∷ cs))
    (all_follow_lem (d ∷ cs) (omega arith))

gather : (e l o i r f k : Bool) → (f && k) ≡ (l && r) → ((e && o && i) && f && k) ≡ (e && l && o && i && r)
gather false l o i r f k h = refl
gather true true true true r f k h = h
gather true true true false r f k h = refl
gather true true false i r f k h = refl
gather true false true true r f k h = h
gather true false true false r f k h = refl
gather true false false i r f k h = refl

pub last_at : (cs : List Container) (i : ℕ) (d : Container) → length cs ≡ suc i → eqb (get_or cs i d).condition 2 ≡ last_ends cs
unfolding last_ends
last_at [] i d h = absurd (omega arith)
last_at (c ∷ []) zero d h = refl
last_at (c ∷ []) (suc i) d h = absurd (omega arith)
last_at (c ∷ b ∷ cs) zero d h = absurd (omega arith)
last_at (c ∷ b ∷ cs) (suc i) d h = last_at (b ∷ cs) i d (omega arith)

module _ (v : List Container) (n : ℕ) (opening : Stamp) where
  pub ok_few : n < 1 → false ≡ (leb n 15 && list_ok opening (take n v))
  unfolding list_ok
  ok_few h = let e : n ≡ 0 = omega arith in rw e

  pub ok_many : 15 < n → false ≡ (leb n 15 && list_ok opening (take n v))
  ok_many h = rw (lt-leb n 15 h)

  ok_rules : (i : ℕ) (d : Container) {a b : Bool} → n ≡ suc i → n ≤ 15 → n ≤ length v
      → a ≡ all_stand opening.zone opening.seconds (take n v) → b ≡ all_follow (take n v)
      → (a && b && eqb (get_or v i d).condition 2) ≡ (leb n 15 && list_ok opening (take n v))
  unfolding list_ok
  ok_rules i d {a} {b} e h r p q =
      let cs = take n v in
      let l : length cs ≡ n = length-take-le n v r in
      let w : eqb (get_or v i d).condition 2 ≡ last_ends cs =
      ap (λ (c : Container). eqb c.condition 2) (sym (get_or-take n v i d (omega arith))) ∙ last_at cs i d (l ∙ e) in
      rw (p, q, w, all_stand_lem opening.zone opening.seconds cs, le-leb n 15 h, le-leb 1 (length cs) (omega arith), le-leb (length cs) 15 (omega arith))
      (gather (each_ok cs) (last_alone cs) (one_offset opening.zone cs) (in_order opening.seconds cs) (qos_rule cs) (all_follow cs) (last_ends cs)
      (all_follow_lem cs (omega arith)))

-- ---- the loop of `list_ok`

-- Where it stands at i, which is not past the last: what is left to look at, from the time t on, decides. (It began at the time f.)
pub record Turning (v : List Container) (n z f t i : ℕ) : Type 0 where
  pub before : i < n
  pub stood : all_stand z t (drop i (take n v)) ≡ all_stand z f (take n v)
  pub followed : all_follow (drop i (take n v)) ≡ all_follow (take n v)

pub turning_none : (v : List Container) (n z f : ℕ) → 1 ≤ n → Turning v n z f f 0
turning_none v n z f h = record { before = omega arith; stood = refl; followed = refl }

module _ (v : List Container) (n : ℕ) (r : n ≤ length v) {z f t i : ℕ} (s : Turning v n z f t i) (d : Container) where
  -- one container more
  pub turning_more : (e : Container) → i + 1 < n → {x : Bool} → x ≡ (stands z t (get_or v i d) && follows (get_or v i d) (get_or v (i + 1) e)) → x ≡ true
      → Turning v n z f (get_or v i d).time.seconds (i + 1)
  turning_more e h p q =
      let a = stands z t (get_or v i d) in
      let b = follows (get_or v i d) (get_or v (i + 1) e) in
      let w = true_T (a && b) (sym p ∙ q) in
      record {
        before = h;
        stood = stand_more v n r z t i d s.before (T_true a (and_l a b w)) ∙ s.stood;
        followed = follow_more v n r i d e h (T_true b (and_r a b w)) ∙ s.followed;
      }

  -- at the last one, it alone decides
  last_stands : n ≤ i + 1 → stands z t (get_or v i d) ≡ all_stand z f (take n v)
  last_stands h =
      by (stands z t (get_or v i d))
      (λ q. q ∙ stand_end v n r z (get_or v i d).time.seconds (i + 1) h ∙ stand_more v n r z t i d s.before q ∙ s.stood)
      (λ q. q ∙ stand_no v n r z t i d s.before q ∙ s.stood)

  last_follows : n ≤ i + 1 → true ≡ all_follow (take n v)
  last_follows h = follow_end v n r i h ∙ s.followed

-- what one test refuses, the rules do
refused : (a b s f l : Bool) → (a && b) ≡ false → (a ≡ false → false ≡ s) → (b ≡ false → false ≡ f) → false ≡ (s && f && l)
refused false b s f l e p q = ap (λ (x : Bool). x && f && l) (p refl)
refused true b s f l e p q = never s ∙ ap (λ (x : Bool). s && x && l) (q e)
  where
    never : (s : Bool) → false ≡ (s && false && l)
    never true = refl
    never false = refl

module _ (v : List Container) (n : ℕ) (opening : Stamp) (k : n ≤ 15) (r : n ≤ length v) {t i : ℕ} (s : Turning v n opening.zone opening.seconds t i)
    (d : Container) where
  pub turning_no : (e : Container) → i + 1 < n → {x : Bool} → x ≡ (stands opening.zone t (get_or v i d) && follows (get_or v i d) (get_or v (i + 1) e))
      → x ≡ false → false ≡ (leb n 15 && list_ok opening (take n v))
  turning_no e h p q =
      refused (stands opening.zone t (get_or v i d)) (follows (get_or v i d) (get_or v (i + 1) e)) _ _ (eqb (get_or v (n - 1) d).condition 2) (sym p ∙ q)
      (λ a. stand_no v n r opening.zone t i d s.before a ∙ s.stood)
      (λ b. follow_no v n r i d e h b ∙ s.followed)
      ∙ ok_rules v n opening (n - 1) d (omega (arith, s.before)) k r refl refl

  pub turning_end : {a : Bool} → n ≤ i + 1 → a ≡ stands opening.zone t (get_or v i d)
      → (a && eqb (get_or v i d).condition 2) ≡ (leb n 15 && list_ok opening (take n v))
  turning_end {a} h q =
      and-true a (eqb (get_or v i d).condition 2)
      ∙ ok_rules v n opening i d (omega (arith, s.before)) k r (q ∙ last_stands v n r s d h) (last_follows v n r s d h)
    where
      and-true : (a l : Bool) → (a && l) ≡ (a && true && l)
      and-true true l = refl
      and-true false l = refl
