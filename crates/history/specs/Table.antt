-- A node's table of slots for one kind of subject, and what accepted events do to it: a named event is heard by the subject of
-- that name, some events by all of them in slot order, an activation fills the lowest free slot, a release frees its slot.
use Rattle.std.specs.Prelude.{ℕ, Bool, true, false, not, cond, ◌||◌, List, [], ◌∷◌, ◌++◌}
use Rattle.std.specs.Prelude.{Option, None, Some}
use Rattle.history.specs.Log.{Accepted, Said, activates, tells, tells_all, nothing}

-- What hearing does to a subject: what is stored after it, if anything, and the records that it closes.
pub record Step (C B : Type 0) : Type 0 where
  pub next : Option C
  pub out : List B

-- How a node handles a kind of subject. C is what it stores of one, B its records as they are written.
pub record Handling (G N S E W C B : Type 0) : Type 0 where
  pub same : N → N → Bool
  pub name : C → N
  pub says : W → Said G N S E
  pub settles : G → W → G
  -- what is stored of a subject that was just activated
  pub opening : ℕ → N → S → C
  pub hear : G → C → ℕ → E → Step C B

-- The lowest free slot is filled.
abbrev pub fill : {C : Type 0} → C → List (Option C) → List (Option C)
fill c [] = []
fill c (None ∷ os) = Some c ∷ os
fill c (Some b ∷ os) = Some b ∷ fill c os

-- whether a slot is free
abbrev pub free : {C : Type 0} → List (Option C) → Bool
free [] = false
free (None ∷ os) = true
free (Some c ∷ os) = free os

module _ {G N S E W C B : Type 0} (K : Handling G N S E W C B) where
  -- whether a name is active
  abbrev pub active : N → List (Option C) → Bool
  active n [] = false
  active n (None ∷ os) = active n os
  active n (Some c ∷ os) = K.same n (K.name c) || active n os

  -- of what an event says: it is for a name that is not active; it activates a name that is active; it activates one, and no slot is free
  unfoldable pub not_active : Said G N S E → List (Option C) → Bool
  not_active (activates m s) os = false
  not_active (tells m e) os = not (active m os)
  not_active (tells_all e) os = false
  not_active nothing os = false

  unfoldable pub is_active : Said G N S E → List (Option C) → Bool
  is_active (activates m s) os = active m os
  is_active (tells m e) os = false
  is_active (tells_all e) os = false
  is_active nothing os = false

  unfoldable pub all_taken : Said G N S E → List (Option C) → Bool
  all_taken (activates m s) os = not (free os)
  all_taken (tells m e) os = false
  all_taken (tells_all e) os = false
  all_taken nothing os = false

  -- what the subject in a slot hears
  abbrev pub hears : N → Said G N S E → Option E
  hears n (activates m s) = None
  hears n (tells m e) = cond (K.same n m) (Some e) None
  hears n (tells_all e) = Some e
  hears n nothing = None

  abbrev pub listen : G → C → ℕ → Option E → Step C B
  listen g c t None = record { next = Some c; out = [] }
  listen g c t (Some e) = K.hear g c t e

  abbrev pub slot : G → ℕ → Said G N S E → Option C → Step C B
  slot g t w None = record { next = None; out = [] }
  slot g t w (Some c) = listen g c t (hears (K.name c) w)

  abbrev pub slots_hear : G → ℕ → Said G N S E → List (Option C) → List (Option C)
  slots_hear g t w [] = []
  slots_hear g t w (o ∷ os) = (slot g t w o).next ∷ slots_hear g t w os

  abbrev pub slots_write : G → ℕ → Said G N S E → List (Option C) → List B
  slots_write g t w [] = []
  slots_write g t w (o ∷ os) = (slot g t w o).out ++ slots_write g t w os

  -- the slots after an event, and what it writes
  abbrev pub slots_after : G → ℕ → Said G N S E → List (Option C) → List (Option C)
  slots_after g t (activates m s) os = fill (K.opening t m (s g)) os
  slots_after g t (tells m e) os = slots_hear g t (tells m e) os
  slots_after g t (tells_all e) os = slots_hear g t (tells_all e) os
  slots_after g t nothing os = os

  abbrev pub writes : G → ℕ → Said G N S E → List (Option C) → List B
  writes g t (activates m s) os = []
  writes g t (tells m e) os = slots_write g t (tells m e) os
  writes g t (tells_all e) os = slots_write g t (tells_all e) os
  writes g t nothing os = []

  -- the settings, the slots, and what is written, after accepted events
  abbrev pub settled : G → List (Accepted W) → G
  settled g [] = g
  settled g (c ∷ cs) = settled (K.settles g c.event) cs

  abbrev pub table : G → List (Option C) → List (Accepted W) → List (Option C)
  table g os [] = os
  table g os (c ∷ cs) = table (K.settles g c.event) (slots_after g c.time (K.says c.event) os) cs

  abbrev pub output : G → List (Option C) → List (Accepted W) → List B
  output g os [] = []
  output g os (c ∷ cs) = writes g c.time (K.says c.event) os
      ++ output (K.settles g c.event) (slots_after g c.time (K.says c.event) os) cs
