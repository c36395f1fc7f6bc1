-- An array of slots: what is free, the lowest free slot filled, and names that stay distinct.
use mathlib.Core.Path.{◌≡◌, refl, sym, ap, ap₂, ◌∙◌}
use mathlib.Core.Logic.{◌↔◌}
use mathlib.Core.Bool.{Bool, true, false, not, ◌&&◌, ◌||◌, and-false, or-true, false≢true}
use mathlib.Core.List.{List, [], ◌∷◌, map}
use Prim.Native.Nat.{ℕ, suc}
use lib.ListN.{length, set}
use Rattle.history.specs.Lists.{All}
use Rattle.history.specs.Table.{fill, free}
use Rattle.history.specs.Slots.{Naming, bears, none_bears, distinct, seen, stood}
use Rattle.history.proofs.Lists.{by, both, not-true}
use Rattle.history.proofs.Scans.{First, here, there}

-- ---- names that are told apart

module _ {N : Type 0} (same : N → N → Bool) (exactly : (m n : N) → (same m n ≡ true) ↔ (m ≡ n)) where
  pub same_sym : (m n : N) → same m n ≡ same n m
  same_sym m n = by (same m n) (λ e. e ∙ sym ((exactly n m).1 (sym ((exactly m n).0 e)))) (λ e. e ∙ sym (other (same n m) refl e))
    where
      other : (b : Bool) → same n m ≡ b → same m n ≡ false → same n m ≡ false
      other true q e = absurd (false≢true (sym e ∙ (exactly m n).1 (sym ((exactly n m).0 q))))
      other false q e = q

pub neither : (a b : Bool) → (a || b) ≡ false → (a ≡ false) × (b ≡ false)
neither true b h = absurd (false≢true (sym h))
neither false b h = (refl, h)

not-false : (a : Bool) → not a ≡ false → a ≡ true
not-false true p = refl
not-false false p = absurd (false≢true (sym p))

-- ---- an array of slots: act says which are active, blank stands in those that are free

module _ {C : Type 0} (act : C → Bool) (blank : C) where
  -- a free slot holds nothing
  unfoldable pub Settled : C → Type 0
  Settled c = act c ≡ false → c ≡ blank

  stands : (c : C) → Settled c → stood blank (seen act c) ≡ c
  unfolding Settled
  stands c s = by (act c) (λ e. rw e) (λ e. rw e (sym (s e)))

  pub stand_all : (cs : List C) → All Settled cs → map (stood blank) (map (seen act) cs) ≡ cs
  stand_all [] s = refl
  stand_all (c ∷ cs) s = ap₂ {C = List C} (λ x l. x ∷ l) (stands c s.0) (stand_all cs s.1)

  -- what is free
  pub found_free : {cs : List C} {i : ℕ} → First (λ c. not (act c)) cs i → free (map (seen act) cs) ≡ true
  found_free (here {c} {cs} e) = rw (not-true (act c) e)
  found_free (there {c} {cs} e f) = rw (not-false (act c) e) (found_free f)

  pub none_free : (cs : List C) → All (λ c. not (act c) ≡ false) cs → free (map (seen act) cs) ≡ false
  none_free [] s = refl
  none_free (c ∷ cs) s = rw (not-false (act c) s.0) (none_free cs s.1)

  -- the lowest free slot is filled
  pub filled : (x : C) {cs : List C} {i : ℕ} → First (λ c. not (act c)) cs i → All Settled cs
      → map (stood blank) (fill x (map (seen act) cs)) ≡ set cs i x
  filled x (here {c} {cs} e) s = rw (not-true (act c) e) (ap (λ (l : List C). x ∷ l) (stand_all cs s.1))
  filled x (there {c} {cs} e f) s = rw (not-false (act c) e) (ap (λ (l : List C). c ∷ l) (filled x f s.1))

  -- ds is cs with x in its lowest free slot, or as it is where none is free
  pub data Filled (x : C) : List C → List C → Type 0 where
    full : Filled x [] []
    put : {c : C} {cs : List C} → act c ≡ false → Filled x (c ∷ cs) (x ∷ cs)
    past : {c : C} {cs ds : List C} → act c ≡ true → Filled x cs ds → Filled x (c ∷ cs) (c ∷ ds)

  pub fill_is : (x : C) (cs : List C) → All Settled cs → Filled x cs (map (stood blank) (fill x (map (seen act) cs)))
  fill_is x [] s = full
  fill_is x (c ∷ cs) s = by (act c) (λ e. rw e (past e (fill_is x cs s.1))) (λ e. rw (e, stand_all cs s.1) (put e))

  module _ {x : C} where
    -- what is true of each slot, and of x, stays so
    pub filled_all : (P : C → Type 0) {cs ds : List C} → Filled x cs ds → P x → All P cs → All P ds
    filled_all P full k h = tt
    filled_all P (put a) k h = (k, h.1)
    filled_all P (past a f) k h = (h.0, filled_all P f k h.1)

    pub filled_length : {cs ds : List C} → Filled x cs ds → length ds ≡ length cs
    filled_length full = refl
    filled_length (put a) = refl
    filled_length (past a f) = ap suc (filled_length f)

-- ---- two arrays slot by slot

pub data Pairs {C : Type 0} (R : C → C → Type 0) : List C → List C → Type 0 where
  end : Pairs R [] []
  next : {c d : C} {cs ds : List C} → R c d → Pairs R cs ds → Pairs R (c ∷ cs) (d ∷ ds)

module _ {C : Type 0} {R : C → C → Type 0} where
  pub pairs_length : {cs ds : List C} → Pairs R cs ds → length ds ≡ length cs
  pairs_length end = refl
  pairs_length (next r p) = ap suc (pairs_length p)

  pub pairs_all : (Q : C → Type 0) → ((c d : C) → R c d → Q d) → {cs ds : List C} → Pairs R cs ds → All Q ds
  pairs_all Q f end = tt
  pairs_all Q f (next {c} {d} r p) = (f c d r, pairs_all Q f p)

-- ---- names that stay distinct

module _ {N C : Type 0} (D : Naming N C) where
  -- d stands where c stood: it has its name, or the slot is free
  pub data Keeps (c d : C) : Type 0 where
    same : D.active d ≡ D.active c → D.name d ≡ D.name c → Keeps c d
    freed : D.active d ≡ false → Keeps c d

  keeps_none : (n : N) {c d : C} → Keeps c d → not (bears D n c) ≡ true → not (bears D n d) ≡ true
  keeps_none n (same a k) e = rw (a, k) e
  keeps_none n (freed a) e = rw a

  module _ {R : C → C → Type 0} (keeps : (c d : C) → R c d → Keeps c d) where
    pairs_none : (n : N) {cs ds : List C} → Pairs R cs ds → none_bears D n cs ≡ true → none_bears D n ds ≡ true
    unfolding none_bears
    pairs_none n end e = refl
    pairs_none n (next {c} {d} {cs} {ds} r p) e =
        let w = both (not (bears D n c)) (none_bears D n cs) e in
        rw (keeps_none n (keeps c d r) w.0, pairs_none n p w.1)

    pub pairs_distinct : {cs ds : List C} → Pairs R cs ds → distinct D cs ≡ true → distinct D ds ≡ true
    unfolding distinct
    pairs_distinct end e = refl
    pairs_distinct (next {c} {d} {cs} {ds} r p) e =
        let w = both (not (D.active c) || none_bears D (D.name c) cs) (distinct D cs) e in
        rw (pairs_distinct p w.1) (go (keeps c d r) w.0)
      where
        go : Keeps c d → (not (D.active c) || none_bears D (D.name c) cs) ≡ true → ((not (D.active d) || none_bears D (D.name d) ds) && true) ≡ true
        go (freed a) h = rw a
        go (same a k) h = rw (a, k) (by (D.active c) (λ i. rw (i, pairs_none (D.name c) p (rw i at h))) (λ i. rw i))

  -- a filled table, by a name that no slot bears
  module _ (exactly : (m n : N) → (D.same m n ≡ true) ↔ (m ≡ n)) (blank : C) {x : C} where
    filled_none : (n : N) {cs ds : List C} → Filled D.active blank x cs ds → D.same n (D.name x) ≡ false
        → none_bears D n cs ≡ true → none_bears D n ds ≡ true
    unfolding none_bears
    filled_none n full k e = refl
    filled_none n (put {c} {cs} a) k e = rw (k, and-false (D.active x), (both (not (bears D n c)) (none_bears D n cs) e).1)
    filled_none n (past {c} {cs} a f) k e =
        let w = both (not (bears D n c)) (none_bears D n cs) e in
        rw (w.0, filled_none n f k w.1)

    pub filled_distinct : {cs ds : List C} → Filled D.active blank x cs ds → none_bears D (D.name x) cs ≡ true → distinct D cs ≡ true → distinct D ds ≡ true
    unfolding distinct none_bears
    filled_distinct full n e = refl
    filled_distinct (put {c} {cs} a) n e =
        let w = both (not (bears D (D.name x) c)) (none_bears D (D.name x) cs) n in
        let v = both (not (D.active c) || none_bears D (D.name c) cs) (distinct D cs) e in
        rw (w.1, v.1, or-true (not (D.active x)))
    filled_distinct (past {c} {cs} {ds} a f) n e =
        let w = both (not (bears D (D.name x) c)) (none_bears D (D.name x) cs) n in
        let v = both (not (D.active c) || none_bears D (D.name c) cs) (distinct D cs) e in
        let i : D.same (D.name x) (D.name c) ≡ false = not-true (D.same (D.name x) (D.name c)) (rw a at w.0) in
        let j : D.same (D.name c) (D.name x) ≡ false = same_sym D.same exactly (D.name c) (D.name x) ∙ i in
        rw (a, filled_none (D.name c) f j (rw a at v.0), filled_distinct f w.1 v.1)
