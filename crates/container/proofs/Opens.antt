-- The containers of an open record: one more of them, the one that closes the record, what they leave of a limit.
use mathlib.Core.Path.{◌≡◌, refl, sym, ap, ◌∙◌}
use mathlib.Core.Bool.{Bool, true, false, ◌&&◌, and-true, and-false, and_assoc}
use mathlib.Core.List.{List, [], ◌∷◌, ◌++◌}
use Prim.Native.Nat.{ℕ, zero, suc, ◌+◌, ◌-◌, ◌≤◌, ◌<◌}
use native.Mathlib.Numerals.{add-one}
use native.Mathlib.Omega.{arith}
use lib.Dec.{leb, ltb, eqb}
use lib.ListN.{length, take, drop, get_or, length-append, drop_of_length-le}
use lib.Seq.{take-suc, take_all, take-append-le, drop-append-le, length-take-le}
use borrow.Author.Tests.{leb-true, ltb-true, ltb-false, le-leb, lt-ltb, le-ltb, eq-eqb}
use Rattle.format.proofs.Tests.{both}
use Rattle.std.specs.Prelude.{Option, None, Some}
use Rattle.format.specs.Maybe.{guard}
use Rattle.container.specs.declared.Qos.{Qos}
use Rattle.container.specs.declared.Container.{Container}
use Rattle.container.specs.declared.held.Run.{Run}
use Rattle.container.specs.Container.{container_ok}
use Rattle.container.specs.List.{each_ok, last_alone, one_offset, in_order, changes, qos_rule, list_ok, blanks, is_blank}
use Rattle.container.specs.Open.{midway, times_to, qos_run, open_ok, volume_of}
use Rattle.container.specs.Private.Held.{held_ok}
use Rattle.container.specs.Private.Stepwise.{precedes, looked}

-- ---- tests that pass together

-- five rules of a list, each with a rule of its last element
medial : (a p b q : Bool) → ((a && p) && (b && q)) ≡ ((a && b) && (p && q))
medial false p b q = refl
medial true true b q = refl
medial true false b q = sym (and-false b)

paired : (a b c d e p q r s t : Bool)
    → ((a && p) && (b && q) && (c && r) && (d && s) && (e && t)) ≡ ((a && b && c && d && e) && (p && q && r && s && t))
paired a b c d e p q r s t =
    rw (medial a p b q, medial (a && b) (p && q) c r, medial (a && b && c) (p && q && r) d s, medial (a && b && c && d) (p && q && r && s) e t)

-- ---- the rules of one container more, at the end

module _ (c : Container) where
  -- a rule of each container by itself
  each_more : (p : Container → Bool) (rule : List Container → Bool) → rule [] ≡ true
      → ((x : Container) (xs : List Container) → rule (x ∷ xs) ≡ (p x && rule xs))
      → (cs : List Container) → rule (cs ++ (c ∷ [])) ≡ (rule cs && p c)
  each_more p rule e f [] = f c [] ∙ rw (e, and-true (p c))
  each_more p rule e f (x ∷ cs) =
      f x (cs ++ (c ∷ [])) ∙ ap (λ (b : Bool). p x && b) (each_more p rule e f cs) ∙ sym (and_assoc (p x) (rule cs) (p c))
      ∙ ap (λ (b : Bool). b && p c) (sym (f x cs))

  values_more : (cs : List Container) → each_ok (cs ++ (c ∷ [])) ≡ (each_ok cs && container_ok c)
  unfolding each_ok
  values_more cs = each_more container_ok each_ok refl (λ x xs. refl) cs

  midway_more : (cs : List Container) → midway (cs ++ (c ∷ [])) ≡ (midway cs && ltb c.condition 2)
  unfolding midway
  midway_more cs = each_more (λ x. ltb x.condition 2) midway refl (λ x xs. refl) cs

  zone_more : (z : ℕ) (cs : List Container) → one_offset z (cs ++ (c ∷ [])) ≡ (one_offset z cs && eqb c.time.zone z)
  unfolding one_offset
  zone_more z cs = each_more (λ x. eqb x.time.zone z) (one_offset z) refl (λ x xs. refl) cs

  times_more : (t : ℕ) (cs : List Container) (now : ℕ) → times_to t (cs ++ (c ∷ [])) now ≡ (times_to t cs c.time.seconds && leb c.time.seconds now)
  unfolding times_to
  times_more t [] now = refl
  times_more t (x ∷ cs) now =
      ap (λ (b : Bool). leb t x.time.seconds && b) (times_more x.time.seconds cs now)
      ∙ sym (and_assoc (leb t x.time.seconds) (times_to x.time.seconds cs c.time.seconds) (leb c.time.seconds now))

  qos_more : (cs : List Container) (q : Qos) → qos_run (cs ++ (c ∷ [])) q ≡ (qos_run cs c.qos && changes c q)
  unfolding qos_run
  qos_more [] q = refl
  qos_more (x ∷ []) q = refl
  qos_more (x ∷ y ∷ cs) q =
      ap (λ (b : Bool). changes x y.qos && b) (qos_more (y ∷ cs) q) ∙ sym (and_assoc (changes x y.qos) (qos_run (y ∷ cs) c.qos) (changes c q))

  open_snoc : (z o : ℕ) (q : Qos) (now : ℕ) (cs : List Container)
      → open_ok z o q now (cs ++ (c ∷ [])) ≡ (open_ok z o c.qos c.time.seconds cs && precedes z q now c)
  unfolding open_ok precedes
  open_snoc z o q now cs =
      rw (values_more cs, midway_more cs, zone_more z cs, times_more o cs now, qos_more cs q)
      (paired (each_ok cs) (midway cs) (one_offset z cs) (times_to o cs c.time.seconds) (qos_run cs c.qos)
      (container_ok c) (ltb c.condition 2) (eqb c.time.zone z) (leb c.time.seconds now) (changes c q))

  -- the same of the one that closes the record
  last_more : (cs : List Container) → last_alone (cs ++ (c ∷ [])) ≡ (midway cs && eqb c.condition 2)
  unfolding last_alone midway
  last_more [] = refl
  last_more (x ∷ []) = ap (λ (b : Bool). b && eqb c.condition 2) (sym (and-true (ltb x.condition 2)))
  last_more (x ∷ y ∷ cs) =
      ap (λ (b : Bool). ltb x.condition 2 && b) (last_more (y ∷ cs)) ∙ sym (and_assoc (ltb x.condition 2) (midway (y ∷ cs)) (eqb c.condition 2))

  order_more : (t : ℕ) (cs : List Container) → in_order t (cs ++ (c ∷ [])) ≡ times_to t cs c.time.seconds
  unfolding in_order times_to
  order_more t [] = and-true (leb t c.time.seconds)
  order_more t (x ∷ cs) = ap (λ (b : Bool). leb t x.time.seconds && b) (order_more x.time.seconds cs)

  rule_more : (cs : List Container) → qos_rule (cs ++ (c ∷ [])) ≡ qos_run cs c.qos
  unfolding qos_rule qos_run
  rule_more [] = refl
  rule_more (x ∷ []) = and-true (changes x c.qos)
  rule_more (x ∷ y ∷ cs) = ap (λ (b : Bool). changes x y.qos && b) (rule_more (y ∷ cs))

  pub volume_more : (cs : List Container) → volume_of (cs ++ (c ∷ [])) ≡ volume_of cs + (c.uplink + c.downlink)
  unfolding volume_of
  volume_more [] = omega arith
  volume_more (x ∷ cs) = omega (arith, volume_more cs)

-- ---- what an open record's containers are

pub record Opened (z o : ℕ) (q : Qos) (now : ℕ) (cs : List Container) : Type 0 where
  pub each : each_ok cs ≡ true
  pub midway : midway cs ≡ true
  pub zone : one_offset z cs ≡ true
  pub times : times_to o cs now ≡ true
  pub qos : qos_run cs q ≡ true

module _ (z o : ℕ) (q : Qos) (now : ℕ) (cs : List Container) where
  pub opened : open_ok z o q now cs ≡ true → Opened z o q now cs
  unfolding open_ok
  opened h =
      let a = each_ok cs in
      let b = midway cs in
      let c = one_offset z cs in
      let d = times_to o cs now in
      let w = both (a && b && c && d) (qos_run cs q) h in
      let x = both (a && b && c) d w.0 in
      let y = both (a && b) c x.0 in
      let v = both a b y.0 in
      record { each = v.0; midway = v.1; zone = y.1; times = x.1; qos = w.1 }

  pub opened_is : Opened z o q now cs → open_ok z o q now cs ≡ true
  unfolding open_ok
  opened_is f = rw (f.each, f.midway, f.zone, f.times, f.qos)

times_later : (t : ℕ) (cs : List Container) (now later : ℕ) → times_to t cs now ≡ true → now ≤ later → times_to t cs later ≡ true
unfolding times_to
times_later t [] now later h k = le-leb t later (omega (arith, leb-true t now h))
times_later t (c ∷ cs) now later h k =
    let w = both (leb t c.time.seconds) (times_to c.time.seconds cs now) h in
    rw (w.0, times_later c.time.seconds cs now later w.1 k)

times_since : (t : ℕ) (cs : List Container) (now : ℕ) → times_to t cs now ≡ true → t ≤ now
unfolding times_to
times_since t [] now h = leb-true t now h
times_since t (c ∷ cs) now h =
    let w = both (leb t c.time.seconds) (times_to c.time.seconds cs now) h in
    omega (arith, leb-true t c.time.seconds w.0, times_since c.time.seconds cs now w.1)

-- nothing has ended yet
pub open_none : (z o : ℕ) (q : Qos) (now : ℕ) → o ≤ now → open_ok z o q now [] ≡ true
unfolding open_ok each_ok midway one_offset times_to qos_run
open_none z o q now h = rw (le-leb o now h)

module _ (z o : ℕ) (q : Qos) (now : ℕ) (cs : List Container) (h : open_ok z o q now cs ≡ true) where
  pub open_later : (later : ℕ) → now ≤ later → open_ok z o q later cs ≡ true
  open_later later k =
      let f = opened z o q now cs h in
      opened_is z o q later cs (record { each = f.each; midway = f.midway; zone = f.zone; times = times_later o cs now later f.times k; qos = f.qos })

  pub open_since : o ≤ now
  open_since = times_since o cs now (opened z o q now cs h).times

  module _ (c : Container) (ok : container_ok c ≡ true) (same : c.qos ≡ q) (zone : c.time.zone ≡ z) (since : now ≤ c.time.seconds) where
    upto : open_ok z o c.qos c.time.seconds cs ≡ true
    upto = rw same (open_later c.time.seconds since)

    -- a change ends the running container, and another begins
    pub open_more : c.condition < 2 → (q' : Qos) (later : ℕ) → c.time.seconds ≤ later → changes c q' ≡ true → open_ok z o q' later (cs ++ (c ∷ [])) ≡ true
    unfolding precedes
    open_more k q' later l e =
        rw (open_snoc c z o q' later cs, upto, ok, lt-ltb c.condition 2 k, eq-eqb c.time.zone z zone, le-leb c.time.seconds later l, e)

    -- the record closes, and the running container with it
    pub open_closes : c.condition ≡ 2 → length cs ≤ 14 → list_ok (record { seconds = o; zone = z }) (cs ++ (c ∷ [])) ≡ true
    unfolding list_ok
    open_closes k l =
        let f = opened z o c.qos c.time.seconds cs upto in
        let n : length (cs ++ (c ∷ [])) ≡ length cs + 1 = length-append cs (c ∷ []) in
        rw (
          le-leb 1 (length (cs ++ (c ∷ []))) (omega arith),
          le-leb (length (cs ++ (c ∷ []))) 15 (omega arith),
          values_more c cs,
          last_more c cs,
          zone_more c z cs,
          order_more c o cs,
          rule_more c cs,
          f.each,
          f.midway,
          f.zone,
          f.times,
          f.qos,
          ok,
          eq-eqb c.condition 2 k,
          eq-eqb c.time.zone z zone,
        )

-- ---- the loops

-- what is left of a limit once some is spent suffices for the rest where the limit suffices for all
pub below_left : (x u d limit : ℕ) → ltb (x + (u + d)) limit ≡ ltb x (limit - u - d)
below_left x u d limit = by (ltb x (limit - u - d)) refl
  where
    by : (b : Bool) → ltb x (limit - u - d) ≡ b → ltb (x + (u + d)) limit ≡ b
    by true h = lt-ltb (x + (u + d)) limit (omega (arith, ltb-true x (limit - u - d) h))
    by false h = le-ltb (x + (u + d)) limit (omega (arith, ltb-false x (limit - u - d) h))

last_first : (a p x : Bool) → (a && p && true && x) ≡ (a && true && x && p)
last_first false p x = refl
last_first true true x = sym (and-true x)
last_first true false x = sym (and-false x)

last_second : (a b p x : Bool) → (a && (b && p) && x) ≡ (a && b && x && p)
last_second false b p x = refl
last_second true false p x = refl
last_second true true true x = sym (and-true x)
last_second true true false x = sym (and-false x)

blanks_more : (c : Container) (cs : List Container) → blanks (cs ++ (c ∷ [])) ≡ (blanks cs && is_blank c)
unfolding blanks
blanks_more c cs = each_more c is_blank blanks refl (λ x xs. refl) cs

-- one place more of the array, at the end: one that is used, and one that is not
module _ (z o : ℕ) (q : Qos) (t left n : ℕ) (w : List Container) (c : Container) where
  held_used : length w < n → held_ok z o q t left n (w ++ (c ∷ [])) ≡
      (held_ok z o c.qos c.time.seconds (left - c.uplink - c.downlink) n w && precedes z q t c)
  unfolding held_ok blanks
  held_used h =
      let m : length (w ++ (c ∷ [])) ≤ n = omega (arith, length-append w (c ∷ [])) in
      rw (
        take_all n (w ++ (c ∷ [])) m,
        drop_of_length-le (w ++ (c ∷ [])) m,
        take_all n w (omega arith),
        drop_of_length-le w {i = n} (omega arith),
        open_snoc
            c z o q t w,
        volume_more c w,
        below_left (volume_of w) c.uplink c.downlink left,
      )
      (last_first (open_ok z o c.qos c.time.seconds w) (precedes z q t c) (ltb (volume_of w) (left - c.uplink - c.downlink)))

  held_unused : n ≤ length w → held_ok z o q t left n (w ++ (c ∷ [])) ≡ (held_ok z o q t left n w && is_blank c)
  unfolding held_ok
  held_unused h =
      rw (take-append-le n w (c ∷ []) h, drop-append-le n w (c ∷ []) h, blanks_more c (drop n w))
      (last_second (open_ok z o q t (take n w)) (blanks (drop n w)) (is_blank c) (ltb (volume_of (take n w)) left))

held_nil : (z o : ℕ) (q : Qos) (t left n : ℕ) → held_ok z o q t left n [] ≡ (leb o t && ltb 0 left)
unfolding held_ok open_ok each_ok midway one_offset times_to qos_run blanks volume_of
held_nil z o q t left zero = ap (λ (b : Bool). b && ltb 0 left) (and-true (leb o t && true) ∙ and-true (leb o t))
held_nil z o q t left (suc n) = ap (λ (b : Bool). b && ltb 0 left) (and-true (leb o t && true) ∙ and-true (leb o t))

-- the test goes from the last place to the first: those before i decide, with what the others leave to them
pub record Held (v : List Container) (z o : ℕ) (s₀ : Run) (n : ℕ) (s : Run) (i : ℕ) : Type 0 where
  pub most : i ≤ length v
  pub same : held_ok z o s.after s.until s.left n (take i v) ≡ held_ok z o s₀.after s₀.until s₀.left n v

pub held_all : {v : List Container} {z o : ℕ} {s : Run} {n i : ℕ} → length v ≡ i → Held v z o s n s i
held_all {v} {z} {o} {s} {n} {i} e = record { most = omega arith; same = ap (held_ok z o s.after s.until s.left n) (take_all i v (omega arith)) }

module _ {v : List Container} {z o : ℕ} {s₀ : Run} {n : ℕ} {s : Run} {i : ℕ} (k : Held v z o s₀ n s i) where
  -- what the places before are to be tested with, if there is no fault yet
  abbrev before : Option Run → Bool
  before None = false
  before (Some r) = held_ok z o r.after r.until r.left n (take (i - 1) v)

  before_guard : (t : Bool) (r : Run) → (before (Some r) && t) ≡ before (guard t r)
  before_guard true r = and-true (before (Some r))
  before_guard false r = and-false (before (Some r))

  module _ (d : Container) (h : 0 < i) {p : Option Run} (e : p ≡ looked z (ltb (i - 1) n) (get_or v (i - 1) d) s) where
    here : held_ok z o s.after s.until s.left n (take i v) ≡ before p
    unfolding looked
    here = ap (held_ok z o s.after s.until s.left n) w ∙ rw e (by (ltb (i - 1) n) refl)
      where
        x : Container
        x = get_or v (i - 1) d

        w : take i v ≡ take (i - 1) v ++ (x ∷ [])
        w =
            let f : suc (i - 1) ≡ i = omega arith in
            ap (λ (j : ℕ). take j v) (sym f) ∙ take-suc v (i - 1) d (omega (arith, k.most))

        m : length (take (i - 1) v) ≡ i - 1
        m = length-take-le (i - 1) v (omega (arith, k.most))

        by : (b : Bool) → ltb (i - 1) n ≡ b → held_ok z o s.after s.until s.left n (take (i - 1) v ++ (x ∷ [])) ≡ before (looked z b x s)
        by true f =
            held_used z o s.after s.until s.left n (take (i - 1) v) x (omega (arith, m, ltb-true (i - 1) n f))
            ∙ before_guard (precedes z s.after s.until x) (record { after = x.qos; until = x.time.seconds; left = s.left - x.uplink - x.downlink })
        by false f =
            held_unused z o s.after s.until s.left n (take (i - 1) v) x (omega (arith, m, ltb-false (i - 1) n f)) ∙ before_guard (is_blank x) s

    pub held_no : p ≡ None → false ≡ held_ok z o s₀.after s₀.until s₀.left n v
    held_no f = sym (sym k.same ∙ here ∙ ap before f)

    pub held_next : (r : Run) → p ≡ Some r → Held v z o s₀ n r (i - 1)
    held_next r f = record { most = omega (arith, k.most); same = sym (sym k.same ∙ here ∙ ap before f) }

  pub held_end : i ≤ 0 → (leb o s.until && ltb 0 s.left) ≡ held_ok z o s₀.after s₀.until s₀.left n v
  held_end h =
      let e : i ≡ 0 = omega arith in
      sym (held_nil z o s.after s.until s.left n) ∙ ap (λ (j : ℕ). held_ok z o s.after s.until s.left n (take j v)) (sym e) ∙ k.same

-- what one container more counts of a list
pub volume_next : (v : List Container) (i : ℕ) (d : Container) → i < length v
    → volume_of (take (i + 1) v) ≡ volume_of (take i v) + ((get_or v i d).uplink + (get_or v i d).downlink)
volume_next v i d h = rw (add-one i, take-suc v i d h) (volume_more (get_or v i d) (take i v))
