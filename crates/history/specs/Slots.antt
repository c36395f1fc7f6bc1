-- A table of slots as a node stores it: an array of one kind of subject, in which each slot is active or free. Which slot bears a name,
-- whether names are distinct, and what each slot does; said once for every kind of subject.
use Rattle.std.specs.Prelude.{Bool, true, not, cond, ◌&&◌, ◌||◌, List, [], ◌∷◌, ◌++◌, ℕ, zero, suc, Option, None, Some}
use Rattle.history.specs.Table.{Handling}

-- ---- names

-- What names a slot: whether it is active, and its name then.
pub record Naming (N A : Type 0) : Type 0 where
  pub active : A → Bool
  pub name : A → N
  pub same : N → N → Bool

module _ {N A : Type 0} (D : Naming N A) where
  -- an active slot with this name
  abbrev pub bears : N → A → Bool
  bears n a = D.active a && D.same n (D.name a)

  -- no slot bears this name
  unfoldable pub none_bears : N → List A → Bool
  none_bears n [] = true
  none_bears n (a ∷ rest) = not (bears n a) && none_bears n rest

  -- The names of active slots are distinct: each slot is free, or none after it bears its name.
  unfoldable pub distinct : List A → Bool
  distinct [] = true
  distinct (a ∷ rest) = (not (D.active a) || none_bears (D.name a) rest) && distinct rest

-- Slots named by what f reads off them.
abbrev pub through : {N A C : Type 0} → Naming N A → (C → A) → Naming N C
through D f = record { active = λ c. D.active (f c); name = λ c. D.name (f c); same = D.same }

-- ---- a slot of the array as a slot of the table, and back: blank is what stands in a free one

abbrev pub seen : {C : Type 0} → (C → Bool) → C → Option C
seen active c = cond (active c) (Some c) None

abbrev pub stood : {C : Type 0} → C → Option C → C
stood blank None = blank
stood blank (Some c) = c

-- ---- a slot whose subject, if it has one, hears e at t

module _ {G N S E W C B : Type 0} (K : Handling G N S E W C B) (active : C → Bool) where
  -- how a kind names its slots
  abbrev pub naming : Naming N C
  naming = record { active = active; name = K.name; same = K.same }

  -- what then stands in it
  abbrev pub slot_next : C → G → ℕ → E → C → C
  slot_next blank g t e c = cond (active c) (stood blank (K.hear g c t e).next) c

  -- what it writes, by how records are written
  abbrev pub slot_out : {O : Type 0} → (List B → List O) → G → ℕ → E → C → List O
  slot_out written g t e c = cond (active c) (written (K.hear g c t e).out) []

-- ---- some slots, from one place up to another

-- f of each element from the place a up to b, the others as they are
unfoldable pub across : {A : Type 0} → ℕ → ℕ → (A → A) → List A → List A
across a zero f xs = xs
across a (suc b) f [] = []
across zero (suc b) f (x ∷ xs) = f x ∷ across zero b f xs
across (suc a) (suc b) f (x ∷ xs) = x ∷ across a b f xs

-- what those yield, in order
unfoldable pub along : {A B : Type 0} → ℕ → ℕ → (A → List B) → List A → List B
along a zero g xs = []
along a (suc b) g [] = []
along zero (suc b) g (x ∷ xs) = g x ++ along zero b g xs
along (suc a) (suc b) g (x ∷ xs) = along a b g xs
