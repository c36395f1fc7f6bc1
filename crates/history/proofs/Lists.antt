-- Laws of lists and of what may be missing.
use Prim.Native.Nat.{ℕ, zero, suc, ◌+◌, ◌≤◌, ◌<◌}
use mathlib.Core.Path.{◌≡◌, refl, ap}
use mathlib.Core.Bool.{Bool, true, false, not, cond, ◌&&◌, false≢true}
use mathlib.Core.List.{List, [], ◌∷◌, ◌++◌, map, append_assoc, append-nil}
use Rattle.std.specs.Prelude.{Option, None, Some}
use native.Mathlib.Omega.{arith}
use lib.ListN.{length, get_or, length-append}
use Rattle.history.specs.Lists.{each, sum_of, All, if_any, count, NotFalling}

pub each_append : {A B : Type 0} (f : A → List B) (a b : List A) → each f (a ++ b) ≡ each f a ++ each f b
each_append f [] b = refl
each_append f (x ∷ xs) b = rw (append_assoc, each_append f xs b)

pub each_one : {A : Type 0} (a : List A) → each (λ x. x ∷ []) a ≡ a
each_one [] = refl
each_one (x ∷ xs) = rw (each_one xs)

-- of things of two kinds, those that are picked, and those that are passed over
pub each_picks : {A O : Type 0} (pick : O → List A) (f : A → O) → ((a : A) → pick (f a) ≡ a ∷ []) → (xs : List A) → each pick (map f xs) ≡ xs
each_picks pick f p [] = refl
each_picks pick f p (x ∷ xs) = rw (p x, each_picks pick f p xs)

pub each_passes : {A B O : Type 0} (pick : O → List A) (f : B → O) → ((b : B) → pick (f b) ≡ []) → (xs : List B) → each pick (map f xs) ≡ []
each_passes pick f p [] = refl
each_passes pick f p (x ∷ xs) = rw (p x, each_passes pick f p xs)

pub append_cancel : {A : Type 0} (a b c : List A) → a ++ b ≡ a ++ c → b ≡ c
append_cancel [] b c p = p
append_cancel (x ∷ xs) b c p = let q : xs ++ b ≡ xs ++ c = cc in append_cancel xs b c q

pub each_map : {A B : Type 0} (f : A → B) (a : List A) → each (λ x. f x ∷ []) a ≡ map f a
each_map f [] = refl
each_map f (x ∷ xs) = rw (each_map f xs)

pub map_append : {A B : Type 0} (f : A → B) (a b : List A) → map f (a ++ b) ≡ map f a ++ map f b
map_append f [] b = refl
map_append f (x ∷ xs) b = rw (map_append f xs b)

pub map_map : {A B C : Type 0} (f : B → C) (g : A → B) (a : List A) → map f (map g a) ≡ map (λ x. f (g x)) a
map_map f g [] = refl
map_map f g (x ∷ xs) = rw (map_map f g xs)

pub map_id : {A : Type 0} (a : List A) → map (λ x. x) a ≡ a
map_id [] = refl
map_id (x ∷ xs) = rw (map_id xs)

pub sum_of_append : {A : Type 0} (f : A → ℕ) (a b : List A) → sum_of f (a ++ b) ≡ sum_of f a + sum_of f b
sum_of_append f [] b = omega arith
sum_of_append f (x ∷ xs) b = omega (arith, sum_of_append f xs b)

pub length_ifAny : {A : Type 0} (a : List A) (o : Option ℕ) (f : ℕ → A) → length (a ++ if_any o f) ≡ count o (length a)
length_ifAny a None f = ap length (append-nil a)
length_ifAny a (Some k) f = omega (arith, length-append a (f k ∷ []))

pub both : (a b : Bool) → (a && b) ≡ true → (a ≡ true) × (b ≡ true)
both true b p = (refl, p)
both false b p = absurd (false≢true p)

-- what is shown where a test passes and where it fails, is shown
pub by : {X : Type 0} (t : Bool) → (t ≡ true → X) → (t ≡ false → X) → X
by true f g = f refl
by false f g = g refl

pub not-true : (a : Bool) → not a ≡ true → a ≡ false
not-true true p = absurd (false≢true p)
not-true false p = refl

pub cond_same : {A : Type 0} (b : Bool) (x : A) → cond b x x ≡ x
cond_same true x = refl
cond_same false x = refl

pub each_cond : {A B : Type 0} (f : A → List B) (b : Bool) (a : A) (rest : List A)
    → each f (cond b (a ∷ rest) rest) ≡ cond b (f a ++ each f rest) (each f rest)
each_cond f true a rest = refl
each_cond f false a rest = refl

pub none≢some : {A : Type 0} {k : A} → None ≡ Some k → ⊥
none≢some {k = k} p = let z : ◌≡◌ {A = ℕ} 0 1 = cc in omega arith

-- what holds of x holds of what a test let pass
pub kept : {A : Type 0} (P : A → Type 0) (b : Bool) (x e : A) → cond b (Some x) None ≡ Some e → P x → P e
kept P true x e p q = let i : x ≡ e = cc in rw i at q
kept P false x e p q = absurd (none≢some p)

pub all_append : {A : Type 0} (P : A → Type 0) (a b : List A) → All P a → All P b → All P (a ++ b)
all_append P [] b p q = q
all_append P (x ∷ xs) b p q = (p.0, all_append P xs b p.1 q)

pub all_map : {A : Type 0} (P Q : A → Type 0) → ((a : A) → P a → Q a) → (xs : List A) → All P xs → All Q xs
all_map P Q f [] p = tt
all_map P Q f (x ∷ xs) p = (f x p.0, all_map P Q f xs p.1)

pub all_of_map : {A B : Type 0} (P : A → Type 0) (Q : B → Type 0) (f : A → B) → ((a : A) → P a → Q (f a)) → (xs : List A) → All P xs → All Q (map f xs)
all_of_map P Q f g [] p = tt
all_of_map P Q f g (x ∷ xs) p = (g x p.0, all_of_map P Q f g xs p.1)

pub all_at : {A : Type 0} (P : A → Type 0) (xs : List A) → All P xs → (i : ℕ) (d : A) → i < length xs → P (get_or xs i d)
all_at P [] a i d h = absurd (omega arith)
all_at P (x ∷ xs) a zero d h = a.0
all_at P (x ∷ xs) a (suc i) d h = all_at P xs a.1 i d (omega arith)

pub all_both : {A : Type 0} (P Q : A → Type 0) (xs : List A) → All P xs → All Q xs → All (λ a. P a × Q a) xs
all_both P Q [] p q = tt
all_both P Q (x ∷ xs) p q = ((p.0, q.0), all_both P Q xs p.1 q.1)

pub each_of_map : {A B C : Type 0} (f : B → List C) (g : A → B) (a : List A) → each f (map g a) ≡ each (λ x. f (g x)) a
each_of_map f g [] = refl
each_of_map f g (x ∷ xs) = rw (each_of_map f g xs)

pub not_falling_append : (k m l : ℕ) (a b : List ℕ) → NotFalling k a m → NotFalling m b l → NotFalling k (a ++ b) l
not_falling_append k m l [] [] p q = omega arith
not_falling_append k m l [] (y ∷ b) p q = ((omega arith), q.1)
not_falling_append k m l (x ∷ a) b p q = (p.0, not_falling_append x m l a b p.1 q)

pub not_falling_whole : (k l : ℕ) (xs : List ℕ) → NotFalling k xs l → k ≤ l
not_falling_whole k l [] p = p
not_falling_whole k l (x ∷ xs) p = omega (arith, p.0, not_falling_whole x l xs p.1)
