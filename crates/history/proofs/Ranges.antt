-- Some slots of an array, one after another: what stands there, how much is yielded and what is written so far.
use mathlib.Core.Path.{◌≡◌, refl, sym, ap, ◌∙◌}
use mathlib.Core.List.{List, [], ◌∷◌, ◌++◌, append_assoc, append-nil}
use Prim.Native.Nat.{ℕ, zero, suc, ◌+◌, ◌*◌, ◌≤◌, ◌<◌}
use native.Mathlib.Nat.{le_of_suc-le-suc, mul-suc}
use native.Mathlib.Numerals.{add-one}
use native.Mathlib.Omega.{arith}
use lib.ListN.{length, get_or, set, length-append}
use Rattle.history.specs.Slots.{across, along}

-- ---- one place more

module _ {A : Type 0} (f : A → A) where
  pub across_none : (a : ℕ) (xs : List A) → across a a f xs ≡ xs
  unfolding across
  across_none zero xs = refl
  across_none (suc a) [] = refl
  across_none (suc a) (x ∷ xs) = ap (λ (l : List A). x ∷ l) (across_none a xs)

  pub across_more : (a i : ℕ) (xs : List A) (d : A) → a ≤ i → i < length xs → across a (suc i) f xs ≡ set (across a i f xs) i (f (get_or xs i d))
  unfolding across
  across_more a i [] d h k = absurd (omega arith)
  across_more zero zero (x ∷ xs) d h k = refl
  across_more zero (suc i) (x ∷ xs) d h k = ap (λ (l : List A). f x ∷ l) (across_more zero i xs d (omega arith) (le_of_suc-le-suc k))
  across_more (suc a) zero (x ∷ xs) d h k = absurd (omega arith)
  across_more (suc a) (suc i) (x ∷ xs) d h k = ap (λ (l : List A). x ∷ l) (across_more a i xs d (le_of_suc-le-suc h) (le_of_suc-le-suc k))

  pub across_at : (a i : ℕ) (xs : List A) (d : A) → get_or (across a i f xs) i d ≡ get_or xs i d
  unfolding across
  across_at a zero xs d = refl
  across_at a (suc i) [] d = refl
  across_at zero (suc i) (x ∷ xs) d = across_at zero i xs d
  across_at (suc a) (suc i) (x ∷ xs) d = across_at a i xs d

  -- one place alone
  pub across_one : (i : ℕ) (xs : List A) (d : A) → i < length xs → across i (i + 1) f xs ≡ set xs i (f (get_or xs i d))
  across_one i xs d k = rw (add-one i) (across_more i i xs d (omega arith) k ∙ rw (across_none i xs))

module _ {A B : Type 0} (g : A → List B) where
  pub along_none : (a : ℕ) (xs : List A) → along a a g xs ≡ []
  unfolding along
  along_none zero xs = refl
  along_none (suc a) [] = refl
  along_none (suc a) (x ∷ xs) = along_none a xs

  pub along_more : (a i : ℕ) (xs : List A) (d : A) → a ≤ i → i < length xs → along a (suc i) g xs ≡ along a i g xs ++ g (get_or xs i d)
  unfolding along
  along_more a i [] d h k = absurd (omega arith)
  along_more zero zero (x ∷ xs) d h k = append-nil (g x)
  along_more zero (suc i) (x ∷ xs) d h k =
      ap (λ (l : List B). g x ++ l) (along_more zero i xs d (omega arith) (le_of_suc-le-suc k)) ∙ sym (append_assoc (g x) (along zero i g xs) (g (get_or xs i d)))
  along_more (suc a) zero (x ∷ xs) d h k = absurd (omega arith)
  along_more (suc a) (suc i) (x ∷ xs) d h k = along_more a i xs d (le_of_suc-le-suc h) (le_of_suc-le-suc k)

  -- what fewer places yield is no longer
  pub along_front : (a i b : ℕ) (xs : List A) → i ≤ b → length (along a i g xs) ≤ length (along a b g xs)
  unfolding along
  along_front a zero b xs h = omega arith
  along_front a (suc i) zero xs h = absurd (omega arith)
  along_front a (suc i) (suc b) [] h = omega arith
  along_front zero (suc i) (suc b) (x ∷ xs) h =
      omega (arith, along_front zero i b xs (le_of_suc-le-suc h), length-append (g x) (along zero i g xs), length-append (g x) (along zero b g xs))
  along_front (suc a) (suc i) (suc b) (x ∷ xs) h = along_front a i b xs (le_of_suc-le-suc h)

  -- one place alone
  pub along_one : (i : ℕ) (xs : List A) (d : A) → i < length xs → along i (i + 1) g xs ≡ g (get_or xs i d)
  along_one i xs d k = rw (add-one i) (along_more i i xs d (omega arith) k ∙ rw (along_none i xs))

-- ---- the loops: from the place from up to to, come to i

-- so much is yielded so far, by a bound of what each place yields
pub record Sizing {A B : Type 0} (bound : ℕ) (g : A → List B) (from to : ℕ) (xs : List A) (i n : ℕ) : Type 0 where
  pub least : from ≤ i
  pub most : i ≤ to
  pub is : n ≡ length (along from i g xs)
  pub few : n ≤ bound * i

-- this stands, with the places up to i served
pub record Standing {A : Type 0} (f : A → A) (from to : ℕ) (xs ys : List A) (i : ℕ) : Type 0 where
  pub least : from ≤ i
  pub most : i ≤ to
  pub values : ys ≡ across from i f xs

module _ {A B : Type 0} (g : A → List B) (from to : ℕ) (xs : List A) where
  pub along_next : {i : ℕ} (d : A) → i < to → to ≤ length xs → from ≤ i → along from (i + 1) g xs ≡ along from i g xs ++ g (get_or xs i d)
  along_next {i} d q all k = rw (add-one i) (along_more g from i xs d k (omega arith))

  -- what the next place yields fits where all does
  pub along_room : {i : ℕ} (d : A) → i < to → to ≤ length xs → from ≤ i
      → length (along from i g xs) + length (g (get_or xs i d)) ≤ length (along from to g xs)
  along_room {i} d q all k =
      let z = ap length (along_next d q all k) in
      omega (arith, along_front g from (i + 1) to xs (omega arith), length-append (along from i g xs) (g (get_or xs i d)))

  pub sizing_none : (bound : ℕ) → from ≤ to → Sizing bound g from to xs from 0
  sizing_none bound k = record { least = omega arith; most = k; is = rw (along_none g from xs); few = omega arith }

  pub sizing_more : {bound i n m : ℕ} (d : A) → i < to → to ≤ length xs → Sizing bound g from to xs i n → m ≡ length (g (get_or xs i d)) → m ≤ bound
      → Sizing bound g from to xs (i + 1) (n + m)
  sizing_more {bound} {i} {n} {m} d q all s e few =
      let z = s.is in
      let w : bound * (i + 1) ≡ bound * i + bound = rw (add-one i) (mul-suc bound i) in
      record {
        least = omega (arith, s.least);
        most = omega arith;
        is = rw (along_next d q all s.least) (omega (arith, length-append (along from i g xs) (g (get_or xs i d))));
        few = omega (arith, s.few);
      }

  pub sizing_end : {bound i n : ℕ} → to ≤ i → Sizing bound g from to xs i n → n ≡ length (along from to g xs)
  sizing_end {i = i} k s = let e : i ≡ to = omega (arith, s.most) in rw e at s.is

module _ {A : Type 0} (f : A → A) (from to : ℕ) (xs : List A) where
  pub standing_none : from ≤ to → Standing f from to xs xs from
  standing_none k = record { least = omega arith; most = k; values = sym (across_none f from xs) }

  module _ {ys : List A} {i : ℕ} (s : Standing f from to xs ys i) where
    -- the next place is as it was
    pub still : (d : A) → get_or ys i d ≡ get_or xs i d
    still d = ap (λ (l : List A). get_or l i d) s.values ∙ across_at f from i xs d

    pub standing_more : (d : A) → i < to → to ≤ length xs → {x : A} → x ≡ f (get_or xs i d) → Standing f from to xs (set ys i x) (i + 1)
    standing_more d q all {x} e = record {
      least = omega (arith, s.least);
      most = omega arith;
      values = rw (e, s.values) (sym (ap (λ (n : ℕ). across from n f xs) (add-one i) ∙ across_more f from i xs d s.least (omega arith)));
    }

    pub standing_end : to ≤ i → ys ≡ across from to f xs
    standing_end k = let e : i ≡ to = omega (arith, s.most) in rw e at s.values

-- ---- what stands and is written so far, each place writing where the last ended

-- A way to write: `Put x b b' at r` says that x was written at a place of the buffer b, which left b' and the place r after it.
pub record Writing {O Buf : Type 0} (Put : List O → Buf → Buf → ℕ → ℕ → Type 0) (size : Buf → ℕ) : Type 0 where
  pub empty : (b : Buf) → Put [] b b 0 0
  pub then : {x y : List O} {b b' b'' : Buf} {at mid r : ℕ} → Put x b b' at mid → Put y b' b'' mid r → Put (x ++ y) b b'' at r
  pub end : {x : List O} {b b' : Buf} {at r : ℕ} → Put x b b' at r → r ≡ at + length x
  pub same : {x : List O} {b b' : Buf} {at r : ℕ} → Put x b b' at r → size b' ≡ size b

module _ {A O Buf : Type 0} {Put : List O → Buf → Buf → ℕ → ℕ → Type 0} {size : Buf → ℕ} (W : Writing Put size)
    (next : A → A) (out : A → List O) (from to : ℕ) (xs : List A) where
  pub record Hearing (b b' : Buf) (ys : List A) (i at : ℕ) : Type 0 where
    pub standing : Standing next from to xs ys i
    pub written : Put (along from i out xs) b b' 0 at

  pub hearing_none : {b : Buf} → from ≤ to → Hearing b b xs from 0
  hearing_none {b} k = record { standing = standing_none next from to xs k; written = rw (along_none out from xs) (W.empty b) }

  module _ {b b' : Buf} {ys : List A} {i at : ℕ} (s : Hearing b b' ys i at) (d : A) (q : i < to) (all : to ≤ length xs) where
    -- where there is room for all, there is room for the next
    pub room : length (along from to out xs) ≤ size b → at + length (out (get_or xs i d)) ≤ size b'
    room k = omega (arith, W.end s.written, W.same s.written, along_room out from to xs d q all s.standing.least)

    pub hearing_more : {b'' : Buf} {got : A} {at' : ℕ} → got ≡ next (get_or xs i d) → Put (out (get_or xs i d)) b' b'' at at'
        → Hearing b b'' (set ys i got) (i + 1) at'
    hearing_more e w = record {
      standing = standing_more next from to xs s.standing d q all e;
      written = rw (along_next out from to xs d q all s.standing.least) (W.then s.written w);
    }

  pub hearing_end : {b b' : Buf} {ys : List A} {i at : ℕ} → to ≤ i → Hearing b b' ys i at
      → (ys ≡ across from to next xs) × Put (along from to out xs) b b' 0 at
  hearing_end {i = i} k s =
      let e : i ≡ to = omega (arith, s.standing.most) in
      (standing_end next from to xs s.standing k, rw e at s.written)
