-- An array of slots looked at: a test of each, the first place that passes one, what is read off each.
use mathlib.Core.Path.{◌≡◌, refl, sym, ap, ◌∙◌}
use mathlib.Core.Bool.{Bool, true, false, ◌&&◌}
use mathlib.Core.List.{List, [], ◌∷◌, map}
use Rattle.std.specs.Prelude.{None, Some, position, is_none}
use Rattle.std.specs.List.{position_from}
use Rattle.std.specs.Array.{IsMapOf}
use Rattle.std.proofs.lemmas.List.{ext_get_or}
use Rattle.std.specs.Fn.{Mut, Called}
use Rattle.std.proofs.lemmas.Iterator.Adapters.{position_from-zero}
use Prim.Native.Nat.{ℕ, zero, suc, ◌+◌, ◌<◌}
use native.Mathlib.Omega.{arith}
use lib.ListN.{length, get_or, length-map, get_or-map}
use Rattle.history.specs.Lists.{All}
use Rattle.history.specs.Slots.{Naming, bears, none_bears, distinct, through}
use Rattle.history.proofs.Lists.{by, both, none≢some}

-- ---- a rule of a list that looks at one element after another

-- of an element, with those after it, the rule asks p; of nothing, nothing
pub record Asks {A : Type 0} (rule : List A → Bool) (p : A → List A → Bool) : Type 0 where
  pub step : (x : A) (xs : List A) → rule (x ∷ xs) ≡ (p x xs && rule xs)
  pub none : rule [] ≡ true

-- a rule that asks the same of each element
module _ {A : Type 0} {rule : List A → Bool} {p : A → Bool} (k : Asks rule (λ x xs. p x)) where
  pub asks_all : (l : List A) → rule l ≡ true → All (λ x. p x ≡ true) l
  asks_all [] e = tt
  asks_all (x ∷ xs) e = let w = both (p x) (rule xs) (sym (k.step x xs) ∙ e) in (w.0, asks_all xs w.1)

  pub all_ask : (l : List A) → All (λ x. p x ≡ true) l → rule l ≡ true
  all_ask [] a = k.none
  all_ask (x ∷ xs) a = k.step x xs ∙ rw (a.0, all_ask xs a.1)

  pub asks_at : (l : List A) (i : ℕ) (d : A) → rule l ≡ true → i < length l → p (get_or l i d) ≡ true
  asks_at [] i d e h = absurd (omega arith)
  asks_at (x ∷ xs) zero d e h = (asks_all (x ∷ xs) e).0
  asks_at (x ∷ xs) (suc i) d e h = asks_at xs i d (both (p x) (rule xs) (sym (k.step x xs) ∙ e)).1 (omega arith)

-- ---- the first place that passes a test

-- the first element that passes stands at i
pub data First {A : Type 0} (q : A → Bool) : List A → ℕ → Type 0 where
  here : {c : A} {cs : List A} → q c ≡ true → First q (c ∷ cs) zero
  there : {c : A} {cs : List A} {i : ℕ} → q c ≡ false → First q cs i → First q (c ∷ cs) (suc i)

pub first_below : {A : Type 0} {q : A → Bool} {l : List A} {i : ℕ} → First q l i → i < length l
first_below (here e) = omega arith
first_below (there e f) = omega (arith, first_below f)

pub first_passes : {A : Type 0} {q : A → Bool} {l : List A} {i : ℕ} → First q l i → (d : A) → q (get_or l i d) ≡ true
first_passes (here e) d = e
first_passes (there e f) d = first_passes f d

module _ {A : Type 0} (p : A → Bool) where
  record FirstAt (k j : ℕ) (l : List A) : Type 0 where
    i : ℕ
    place : j ≡ k + i
    first : First p l i

  first_at : (k : ℕ) (l : List A) {j : ℕ} → position_from p k l ≡ Some j → FirstAt k j l
  first_at k [] {j} e = absurd (none≢some e)
  first_at k (a ∷ rest) {j} e =
      by (p a)
      (λ y.
      let f : Some k ≡ Some j = rw y at e in
      let z : k ≡ j = cc in
      record { i = 0; place = omega arith; first = here y })
      (λ n.
      let r = first_at (k + 1) rest (rw n at e) in
      record { i = suc r.i; place = omega (arith, r.place); first = there n r.first })

  none_from : (k : ℕ) (l : List A) → position_from p k l ≡ None → All (λ a. p a ≡ false) l
  none_from k [] e = tt
  none_from k (a ∷ rest) e =
      by (p a)
      (λ y. let f : Some k ≡ None = rw y at e in absurd (none≢some (sym f)))
      (λ n. (n, none_from (k + 1) rest (rw n at e)))

  -- looked for from the start of the table: the first place, or none passes
  pub first_is : (l : List A) {j : ℕ} → position p l ≡ Some j → First p l j
  first_is l {j} e =
      let f = first_at 0 l (sym (position_from-zero p l) ∙ e) in
      let z : f.i ≡ j = omega (arith, f.place) in rw z at f.first

  pub none_is : (l : List A) → position p l ≡ None → All (λ a. p a ≡ false) l
  none_is l e = none_from 0 l (sym (position_from-zero p l) ∙ e)

-- ---- a name that none bears, looked for

module _ {N A : Type 0} (D : Naming N A) (n : N) where
  none_found_from : (k : ℕ) (l : List A) → none_bears D n l ≡ is_none (position_from (bears D n) k l)
  unfolding none_bears
  none_found_from k [] = refl
  none_found_from k (a ∷ rest) = by (bears D n a) (λ y. rw y) (λ e. rw e (none_found_from (k + 1) rest))

  pub none_found : (l : List A) → none_bears D n l ≡ is_none (position (bears D n) l)
  none_found l = none_found_from 0 l ∙ ap is_none (sym (position_from-zero (bears D n) l))

-- ---- what f reads off the slots, looked at in their place

module _ {A C : Type 0} (f : C → A) where
  pub first_through : (p : A → Bool) (k : ℕ) (cs : List C) → position_from p k (map f cs) ≡ position_from (λ c. p (f c)) k cs
  first_through p k [] = refl
  first_through p k (c ∷ cs) = rw (first_through p (k + 1) cs)

  pub position_through : (p : A → Bool) (cs : List C) → position p (map f cs) ≡ position (λ c. p (f c)) cs
  position_through p cs = position_from-zero p (map f cs) ∙ first_through p 0 cs ∙ sym (position_from-zero (λ c. p (f c)) cs)

  module _ {N : Type 0} (D : Naming N A) where
    pub none_through : (n : N) (cs : List C) → none_bears D n (map f cs) ≡ none_bears (through D f) n cs
    unfolding none_bears
    none_through n [] = refl
    none_through n (c ∷ cs) = rw (none_through n cs)

    pub distinct_through : (cs : List C) → distinct D (map f cs) ≡ distinct (through D f) cs
    unfolding distinct
    distinct_through [] = refl
    distinct_through (c ∷ cs) = rw (none_through (D.name (f c)) cs, distinct_through cs)

-- ---- an array that `map` made

-- each call gave what f reads off the slot
pub mapped : {F A C : Type 0} {g : Mut F (C × Unit {0}) A} {k : F} (f : C → A) (d : C) {cs : List C} {xs : List A} {n : ℕ}
    → IsMapOf g k cs xs n → length cs ≡ n → ((p : F) (c : C) (x : A) (q : F) → Called g p (c, tt) x q → x ≡ f c) → xs ≡ map f cs
mapped f d {cs} {xs} m e gives =
    ext_get_or (f d) xs (map f cs) (omega (arith, m.long, length-map cs f))
    (λ i h. let w = m.at i d (f d) (omega (arith, m.long)) in gives w.0 _ _ w.1 w.2 ∙ sym (get_or-map f cs i d))
