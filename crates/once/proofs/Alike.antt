-- A kind of subject that the node handles in its own words, and the same in the words of the histories: the table does the same, where a
-- subject hears the same and an activation stores the same. And the slots that are taken stay so.
use mathlib.Core.Path.{◌≡◌, refl, sym, ap, ◌∙◌}
use mathlib.Core.Bool.{Bool, true, false, cond}
use Rattle.std.specs.Prelude.{Option, None, Some}
use mathlib.Core.List.{List, [], ◌∷◌, map}
use Prim.Native.Nat.{ℕ}
use borrow.Author.Tests.{not-false}
use Rattle.history.specs.Lists.{All}
use Rattle.history.specs.Log.{Said, activates, tells, tells_all, nothing}
use Rattle.history.specs.Table.{Handling, fill, free, active, hears, listen, slot, slots_hear, slots_write, slots_after, writes, not_active, is_active, all_taken}
use Rattle.history.specs.Slots.{seen, stood}
use Rattle.history.proofs.Tables.{admits}

-- ---- the same in other words

-- what all subjects are told, if they are told anything
abbrev pub all_told : {G N S E : Type 0} → Option E → Said G N S E
all_told None = nothing
all_told (Some e) = tells_all e

-- What a subject is told by its name is one word for another; of what all are told, some may be nothing to the node (`all`).
module _ {G N S E W C B S' E' W' : Type 0} (K : Handling G N S E W C B) (K' : Handling G N S' E' W' C B) (words : E → E') (all : E → Option E')
    (same : (m : N) (c : C) → K'.same m (K'.name c) ≡ K.same m (K.name c))
    (same_too : (c : C) (m : N) → K'.same (K'.name c) m ≡ K.same (K.name c) m)
    (heard : (g : G) (c : C) (t : ℕ) (e : E) → K'.hear g c t (words e) ≡ K.hear g c t e)
    (heard_all : (g : G) (c : C) (t : ℕ) (e : E) → listen K' g c t (all e) ≡ K.hear g c t e) where
  active_alike : (m : N) (os : List (Option C)) → active K' m os ≡ active K m os
  active_alike m [] = refl
  active_alike m (None ∷ os) = active_alike m os
  active_alike m (Some c ∷ os) = rw (same m c, active_alike m os)

  -- what an event says, by what an activation brings
  module _ (brings : S → S') where
    abbrev pub said : Said G N S E → Said G N S' E'
    said (activates m s) = activates m (λ g. brings (s g))
    said (tells m e) = tells m (words e)
    said (tells_all e) = all_told (all e)
    said nothing = nothing

    module _ (g : G) (t : ℕ) where
      -- a slot hears the same
      listens : (c : C) (b : Bool) (e : E) → listen K' g c t (cond b (Some (words e)) None) ≡ listen K g c t (cond b (Some e) None)
      listens c true e = heard g c t e
      listens c false e = refl

      all_listens : (c : C) (o : Option E') → slot K' g t (all_told o) (Some c) ≡ listen K' g c t o
      all_listens c None = refl
      all_listens c (Some e) = refl

      slot_alike : (w : Said G N S E) (o : Option C) → slot K' g t (said w) o ≡ slot K g t w o
      slot_alike w None = refl
      slot_alike (activates m s) (Some c) = refl
      slot_alike (tells m e) (Some c) = rw (same_too c m) (listens c (K.same (K.name c) m) e)
      slot_alike (tells_all e) (Some c) = all_listens c (all e) ∙ heard_all g c t e
      slot_alike nothing (Some c) = refl

      hear_alike : (w : Said G N S E) (os : List (Option C)) → slots_hear K' g t (said w) os ≡ slots_hear K g t w os
      hear_alike w [] = refl
      hear_alike w (o ∷ os) = rw (slot_alike w o, hear_alike w os)

      write_alike : (w : Said G N S E) (os : List (Option C)) → slots_write K' g t (said w) os ≡ slots_write K g t w os
      write_alike w [] = refl
      write_alike w (o ∷ os) = rw (slot_alike w o, write_alike w os)

      -- what is nothing to the node changes no slot, and writes nothing
      still : (os : List (Option C)) → os ≡ slots_hear K' g t nothing os
      still [] = refl
      still (None ∷ os) = rw (← still os)
      still (Some c ∷ os) = rw (← still os)

      silent : (os : List (Option C)) → [] ≡ slots_write K' g t nothing os
      silent [] = refl
      silent (None ∷ os) = silent os
      silent (Some c ∷ os) = silent os

      all_after : (o : Option E') (os : List (Option C)) → slots_after K' g t (all_told o) os ≡ slots_hear K' g t (all_told o) os
      all_after None os = still os
      all_after (Some e) os = refl

      all_writes : (o : Option E') (os : List (Option C)) → writes K' g t (all_told o) os ≡ slots_write K' g t (all_told o) os
      all_writes None os = silent os
      all_writes (Some e) os = refl

      -- an activation stores the same
      abbrev pub Opens : Said G N S E → Type 0
      Opens (activates m s) = K'.opening t m (brings (s g)) ≡ K.opening t m (s g)
      Opens (tells m e) = Unit {0}
      Opens (tells_all e) = Unit {0}
      Opens nothing = Unit {0}

      pub after_alike : (w : Said G N S E) (os : List (Option C)) → Opens w → slots_after K' g t (said w) os ≡ slots_after K g t w os
      after_alike (activates m s) os o = ap (λ (c : C). fill c os) o
      after_alike (tells m e) os o = hear_alike (tells m e) os
      after_alike (tells_all e) os o = all_after (all e) os ∙ hear_alike (tells_all e) os
      after_alike nothing os o = refl

      pub writes_alike : (w : Said G N S E) (os : List (Option C)) → writes K' g t (said w) os ≡ writes K g t w os
      writes_alike (activates m s) os = refl
      writes_alike (tells m e) os = write_alike (tells m e) os
      writes_alike (tells_all e) os = all_writes (all e) os ∙ write_alike (tells_all e) os
      writes_alike nothing os = refl

    -- the table takes the event
    pub admitted : (w : Said G N S E) (os : List (Option C)) → not_active K' (said w) os ≡ false → is_active K' (said w) os ≡ false
        → all_taken K' (said w) os ≡ false → admits K w os ≡ true
    unfolding not_active is_active all_taken
    admitted (activates m s) os a i r = rw (← active_alike m os, i, not-false (free os) r)
    admitted (tells m e) os a i r = sym (active_alike m os) ∙ not-false (active K' m os) a
    admitted (tells_all e) os a i r = refl
    admitted nothing os a i r = refl

-- ---- the slots that are taken

module _ {G N S E W C B : Type 0} (K : Handling G N S E W C B) (act : C → Bool) where
  abbrev pub Taken : Option C → Type 0
  Taken None = Unit {0}
  Taken (Some c) = act c ≡ true

  abbrev pub Takens : List (Option C) → Type 0
  Takens os = All Taken os

  module _ (g : G) (keeps : (c : C) (t : ℕ) (e : E) → act c ≡ true → Taken (K.hear g c t e).next) (t : ℕ) where
    listen_taken : (c : C) (o : Option E) → act c ≡ true → Taken (listen K g c t o).next
    listen_taken c None e = e
    listen_taken c (Some x) e = keeps c t x e

    hear_taken : (w : Said G N S E) (os : List (Option C)) → Takens os → Takens (slots_hear K g t w os)
    hear_taken w [] z = tt
    hear_taken w (None ∷ os) z = (tt, hear_taken w os z.1)
    hear_taken w (Some c ∷ os) z = (listen_taken c (hears K (K.name c) w) z.0, hear_taken w os z.1)

    fill_taken : (c : C) (os : List (Option C)) → act c ≡ true → Takens os → Takens (fill c os)
    fill_taken c [] e z = tt
    fill_taken c (None ∷ os) e z = (e, z.1)
    fill_taken c (Some b ∷ os) e z = (z.0, fill_taken c os e z.1)

    pub after_taken : ((m : N) (s : S) → act (K.opening t m s) ≡ true) → (w : Said G N S E) (os : List (Option C)) → Takens os
        → Takens (slots_after K g t w os)
    after_taken o (activates m s) os z = fill_taken (K.opening t m (s g)) os (o m (s g)) z
    after_taken o (tells m e) os z = hear_taken (tells m e) os z
    after_taken o (tells_all e) os z = hear_taken (tells_all e) os z
    after_taken o nothing os z = z

  seen_one : (c : C) (b : Bool) → act c ≡ b → Taken (cond b (Some c) None)
  seen_one c true e = e
  seen_one c false e = tt

  pub slots_taken : (cs : List C) → Takens (map (seen act) cs)
  slots_taken [] = tt
  slots_taken (c ∷ cs) = (seen_one c _ refl, slots_taken cs)

  pub seen_stood : (blank : C) → act blank ≡ false → (os : List (Option C)) → Takens os → map (seen act) (map (stood blank) os) ≡ os
  seen_stood blank n [] z = refl
  seen_stood blank n (None ∷ os) z = rw (n, seen_stood blank n os z.1)
  seen_stood blank n (Some c ∷ os) z = rw (z.0, seen_stood blank n os z.1)
