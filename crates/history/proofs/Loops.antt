-- Loops over an array of slots: what is left to look at decides, the first place that passes a test, what is copied so far.
use mathlib.Core.Path.{◌≡◌, refl, sym, ap, ◌∙◌}
use mathlib.Core.Bool.{Bool, true, false, not, ◌&&◌, ◌||◌}
use mathlib.Core.List.{List, [], ◌∷◌, ◌++◌, map}
use Rattle.std.specs.Prelude.{None, Some}
use Rattle.std.specs.List.{position_from}
use Prim.Native.Nat.{ℕ, suc, ◌+◌, ◌≤◌, ◌<◌}
use native.Mathlib.Numerals.{add-one}
use native.Mathlib.Omega.{arith}
use lib.ListN.{length, take, drop, get_or, set, length-map, length-set, drop_of_length-le, get_or-map}
use lib.Seq.{drop-cons, take-suc, take-suc-set, take_all}
use Rattle.history.specs.Slots.{Naming, bears, none_bears, distinct}
use Rattle.history.proofs.Lists.{by}
use Rattle.history.proofs.Scans.{Asks}

-- ---- a rule of a list that looks at one element after another

-- come to i, the rule of what is left is the rule of all from a place on
pub record Rest {A : Type 0} (rule : List A → Bool) (l : List A) (from i : ℕ) : Type 0 where
  pub same : rule (drop i l) ≡ rule (drop from l)

pub rest_all : {A : Type 0} {rule : List A → Bool} {l : List A} {from : ℕ} → Rest rule l from from
rest_all = record { same = refl }

module _ {A : Type 0} {rule : List A → Bool} {p : A → List A → Bool} (k : Asks rule p) {l : List A} {from i : ℕ} (s : Rest rule l from i) where
  module _ (d : A) (h : i < length l) where
    here_asks : rule (drop i l) ≡ (p (get_or l i d) (drop (i + 1) l) && rule (drop (i + 1) l))
    here_asks = rw (drop-cons l i d h, add-one) (k.step (get_or l i d) (drop (suc i) l))

    pub rest_no : {r : Bool} → r ≡ p (get_or l i d) (drop (i + 1) l) → r ≡ false → false ≡ rule (drop from l)
    rest_no e t = sym (here_asks ∙ rw (sym e ∙ t)) ∙ s.same

    pub rest_next : {r : Bool} → r ≡ p (get_or l i d) (drop (i + 1) l) → r ≡ true → Rest rule l from (i + 1)
    rest_next e t = record { same = sym (here_asks ∙ rw (sym e ∙ t)) ∙ s.same }

  pub rest_end : length l ≤ i → true ≡ rule (drop from l)
  rest_end h = sym k.none ∙ ap rule (sym (drop_of_length-le l h)) ∙ s.same

-- ---- names that are distinct: what two loops, one in the other, ask

module _ {N A : Type 0} (D : Naming N A) where
  -- a slot that is free, or has a name that none of some others bears
  abbrev pub alone : A → List A → Bool
  alone a rest = not (D.active a) || none_bears D (D.name a) rest

  -- two active slots with one name
  abbrev pub clashes : A → A → Bool
  clashes a b = D.active a && bears D (D.name a) b

  pub alone_asks : (a : A) → Asks (alone a) (λ b rest. not (clashes a b))
  unfolding none_bears
  alone_asks a = record { step = λ b rest. one (D.active a) (bears D (D.name a) b) (none_bears D (D.name a) rest); none = nil (D.active a) }
    where
      one : (a b x : Bool) → (not a || (not b && x)) ≡ (not (a && b) && (not a || x))
      one true b x = refl
      one false b x = refl

      nil : (a : Bool) → (not a || true) ≡ true
      nil true = refl
      nil false = refl

  pub distinct_asks : Asks (distinct D) alone
  unfolding distinct
  distinct_asks = record { step = λ a rest. refl; none = refl }

-- ---- the first place that passes a test

-- come to i, it is the first from i on
pub record Scan {A : Type 0} (p : A → Bool) (l : List A) (i : ℕ) : Type 0 where
  pub same : position_from p 0 l ≡ position_from p i (drop i l)

pub scan_all : {A : Type 0} {p : A → Bool} {l : List A} → Scan p l 0
scan_all = record { same = refl }

module _ {A : Type 0} {p : A → Bool} {l : List A} {i : ℕ} (s : Scan p l i) where
  module _ (d : A) (h : i < length l) {r : Bool} (e : r ≡ p (get_or l i d)) where
    pub scan_here : r ≡ true → Some i ≡ position_from p 0 l
    scan_here t = sym (s.same ∙ rw (drop-cons l i d h) (rw (sym e ∙ t)))

    pub scan_next : r ≡ false → Scan p l (i + 1)
    scan_next t = record { same = s.same ∙ rw (drop-cons l i d h, add-one) (rw (sym e ∙ t)) }

  pub scan_end : length l ≤ i → None ≡ position_from p 0 l
  scan_end h = sym (s.same ∙ rw (drop_of_length-le l h))

-- ---- what f reads off the first i slots is copied

pub record Copied {A C : Type 0} (f : C → A) (cs : List C) (xs : List A) (i : ℕ) : Type 0 where
  pub size : length xs ≡ length cs
  pub front : take i xs ≡ take i (map f cs)

pub copied_none : {A C : Type 0} {f : C → A} {cs : List C} {xs : List A} → length xs ≡ length cs → Copied f cs xs 0
copied_none e = record { size = e; front = refl }

module _ {A C : Type 0} {f : C → A} {cs : List C} {xs : List A} {i : ℕ} (s : Copied f cs xs i) where
  pub copied_more : (d : C) → i < length cs → Copied f cs (set xs i (f (get_or cs i d))) (i + 1)
  copied_more d h =
      let x = f (get_or cs i d) in
      let w : take (suc i) (map f cs) ≡ take i (map f cs) ++ (x ∷ []) =
      take-suc (map f cs) i (f d) (omega (arith, length-map cs f)) ∙ rw (get_or-map f cs i d) in
      record {
        size = length-set xs i x ∙ s.size;
        front = rw (add-one, take-suc-set xs i x (omega (arith, s.size)), w, s.front);
      }

  pub copied_all : length cs ≤ i → xs ≡ map f cs
  copied_all h = sym (take_all i xs (omega (arith, s.size))) ∙ s.front ∙ take_all i (map f cs) (omega (arith, length-map cs f))

-- ---- both in one loop: what f reads off the slots is copied, and a rule asked of each

pub record Looking {A C : Type 0} (f : C → A) (rule : List C → Bool) (cs : List C) (xs : List A) (good : Bool) (i : ℕ) : Type 0 where
  pub copied : Copied f cs xs i
  pub left : (good && rule (drop i cs)) ≡ rule cs

pub looking_none : {A C : Type 0} {f : C → A} {rule : List C → Bool} {cs : List C} {xs : List A} → length xs ≡ length cs → Looking f rule cs xs true 0
looking_none e = record { copied = copied_none e; left = refl }

module _ {A C : Type 0} {f : C → A} {rule : List C → Bool} {p : C → Bool} (k : Asks rule (λ c cs. p c)) {cs : List C} {xs : List A} {good : Bool} {i : ℕ}
    (s : Looking f rule cs xs good i) where
  pub looking_more : (d : C) → i < length cs → {r : Bool} → r ≡ p (get_or cs i d) → Looking f rule cs (set xs i (f (get_or cs i d))) (good && r) (i + 1)
  looking_more d h {r} e =
      let z : rule (drop i cs) ≡ (r && rule (drop (suc i) cs)) = rw (drop-cons cs i d h, e) (k.step (get_or cs i d) (drop (suc i) cs)) in
      let w : (good && (r && rule (drop (suc i) cs))) ≡ rule cs = ap (λ (x : Bool). good && x) (sym z) ∙ s.left in
      record { copied = copied_more s.copied d h; left = rw (add-one i) (by good (λ g. rw g (rw g at w)) (λ g. rw g (rw g at w))) }

  pub looking_end : length cs ≤ i → (xs ≡ map f cs) × (good ≡ rule cs)
  looking_end h = (
    copied_all s.copied h,
    let w : (good && true) ≡ rule cs = ap (λ (x : Bool). good && x) (sym (ap rule (drop_of_length-le cs h) ∙ k.none)) ∙ s.left in
        by good (λ g. rw g (rw g at w)) (λ g. rw g (rw g at w)),
  )
