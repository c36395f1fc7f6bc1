-- An array of slots hears an event: what the definition says of the whole table, slot by slot. Who is active; all hear; one hears.
use mathlib.Core.Path.{◌≡◌, refl, sym, ap, ap₂, ◌∙◌}
use mathlib.Core.Logic.{◌↔◌}
use mathlib.Core.Bool.{Bool, true, false, not, ◌||◌, or-true}
use mathlib.Core.List.{List, [], ◌∷◌, ◌++◌, map}
use Prim.Native.Nat.{ℕ, suc}
use lib.ListN.{length}
use Rattle.history.specs.Lists.{each, All}
use Rattle.history.specs.Log.{Said, tells, tells_all}
use Rattle.history.specs.Table.{Handling, active, slot, slots_hear, slots_write}
use Rattle.history.specs.Slots.{bears, none_bears, distinct, seen, stood, naming, slot_next, slot_out, across, along}
use Rattle.history.proofs.Lists.{by, both, not-true, each_append, all_append}
use Rattle.history.proofs.Scans.{First, here, there}
use Rattle.history.proofs.Slots.{same_sym, neither, Settled, Pairs, end, next}

-- K says how the node handles the kind, act which slots are active

module _ {G N S E W C B : Type 0} (K : Handling G N S E W C B) (act : C → Bool) where
  -- who is active
  pub found_active : (m : N) {cs : List C} {i : ℕ} → First (bears (naming K act) m) cs i → active K m (map (seen act) cs) ≡ true
  found_active m (here {c} {cs} e) = let w = both (act c) (K.same m (K.name c)) e in rw (w.0, w.1)
  found_active m (there {c} {cs} e f) = by (act c) (λ a. rw (a, found_active m f, or-true (K.same m (K.name c)))) (λ a. rw a (found_active m f))

  pub none_active : (m : N) (cs : List C) → All (λ c. bears (naming K act) m c ≡ false) cs → active K m (map (seen act) cs) ≡ false
  none_active m [] s = refl
  none_active m (c ∷ cs) s = by (act c) (λ a. rw (a, rw a at s.0) (none_active m cs s.1)) (λ a. rw a (none_active m cs s.1))

  -- a name that is not active is no slot's
  pub none_bears_lem : (m : N) (cs : List C) → active K m (map (seen act) cs) ≡ false → none_bears (naming K act) m cs ≡ true
  unfolding none_bears
  none_bears_lem m [] e = refl
  none_bears_lem m (c ∷ cs) e =
      by (act c)
      (λ a. let w = neither (K.same m (K.name c)) (active K m (map (seen act) cs)) (rw a at e) in rw (a, w.0, none_bears_lem m cs w.1))
      (λ a. rw (a, none_bears_lem m cs (rw a at e)))

  module _ (blank : C) (g : G) (t : ℕ) where
    abbrev pub after : Said G N S E → C → C
    after w c = stood blank (slot K g t w (seen act c)).next

    pub hear_after : (w : Said G N S E) (cs : List C) → map (stood blank) (slots_hear K g t w (map (seen act) cs)) ≡ map (after w) cs
    hear_after w [] = refl
    hear_after w (c ∷ cs) = ap (λ (l : List C). after w c ∷ l) (hear_after w cs)

    -- what each slot does is done by the table
    pub hear_pairs : (R : C → C → Type 0) (P : C → Type 0) (w : Said G N S E) → ((c : C) → P c → R c (after w c)) → (cs : List C) → All P cs
        → Pairs R cs (map (stood blank) (slots_hear K g t w (map (seen act) cs)))
    hear_pairs R P w f [] p = end
    hear_pairs R P w f (c ∷ cs) p = next (f c p.0) (hear_pairs R P w f cs p.1)

    pub hear_all : (Q : B → Type 0) (P : C → Type 0) (w : Said G N S E) → ((c : C) → P c → All Q (slot K g t w (seen act c)).out) → (cs : List C) → All P cs
        → All Q (slots_write K g t w (map (seen act) cs))
    hear_all Q P w f [] p = tt
    hear_all Q P w f (c ∷ cs) p =
        all_append Q (slot K g t w (seen act c)).out (slots_write K g t w (map (seen act) cs)) (f c p.0) (hear_all Q P w f cs p.1)

    module _ {O : Type 0} (written : B → List O) where
      abbrev outs : Said G N S E → C → List O
      outs w c = each written (slot K g t w (seen act c)).out

      hear_outs : (w : Said G N S E) (cs : List C) → each written (slots_write K g t w (map (seen act) cs)) ≡ each (outs w) cs
      hear_outs w [] = refl
      hear_outs w (c ∷ cs) =
          each_append written (slot K g t w (seen act c)).out (slots_write K g t w (map (seen act) cs)) ∙ ap (λ (l : List O). outs w c ++ l) (hear_outs w cs)

      module _ (e : E) where
        abbrev to : C → C
        to = slot_next K act blank g t e

        abbrev out : C → List O
        out = slot_out K act (λ rs. each written rs) g t e

        -- ---- all hear

        all_one : (c : C) → Settled act blank c → (after (tells_all e) c ≡ to c) × (outs (tells_all e) c ≡ out c)
        unfolding Settled
        all_one c s = by (act c) (λ a. (rw a, rw a)) (λ a. (rw a (sym (s a)), rw a))

        pub all_after : (cs : List C) → All (Settled act blank) cs
            → map (stood blank) (slots_hear K g t (tells_all e) (map (seen act) cs)) ≡ across 0 (length cs) to cs
        unfolding across
        all_after [] s = refl
        all_after (c ∷ cs) s = ap₂ {C = List C} (λ x l. x ∷ l) (all_one c s.0).0 (all_after cs s.1)

        pub all_outs : (cs : List C) → All (Settled act blank) cs
            → each written (slots_write K g t (tells_all e) (map (seen act) cs)) ≡ along 0 (length cs) out cs
        unfolding along
        all_outs cs s = hear_outs (tells_all e) cs ∙ go cs s
          where
            go : (cs : List C) → All (Settled act blank) cs → each (outs (tells_all e)) cs ≡ along 0 (length cs) out cs
            go [] s = refl
            go (c ∷ cs) s = ap₂ {C = List O} (λ x l. x ++ l) (all_one c s.0).1 (go cs s.1)

        -- ---- one hears

        module _ (exactly : (m n : N) → (K.same m n ≡ true) ↔ (m ≡ n)) (m : N) where
          abbrev named : C → Bool
          named c = bears (naming K act) m c

          told_one : (c : C) → named c ≡ true → (after (tells m e) c ≡ to c) × (outs (tells m e) c ≡ out c)
          told_one c q =
              let w = both (act c) (K.same m (K.name c)) q in
              let n : K.same (K.name c) m ≡ true = same_sym K.same exactly (K.name c) m ∙ w.1 in
              (rw (w.0, n), rw (w.0, n))

          other_one : (c : C) → Settled act blank c → named c ≡ false → (after (tells m e) c ≡ c) × (outs (tells m e) c ≡ [])
          unfolding Settled
          other_one c s q =
              by (act c)
              (λ a. let n : K.same (K.name c) m ≡ false = same_sym K.same exactly (K.name c) m ∙ (rw a at q) in (rw (a, n), rw (a, n)))
              (λ a. (rw a (sym (s a)), rw a))

          others : (cs : List C) → All (Settled act blank) cs → none_bears (naming K act) m cs ≡ true
              → (map (after (tells m e)) cs ≡ cs) × (each (outs (tells m e)) cs ≡ [])
          unfolding none_bears
          others [] s q = (refl, refl)
          others (c ∷ cs) s q =
              let w = both (not (named c)) (none_bears (naming K act) m cs) q in
              let v = other_one c s.0 (not-true (named c) w.0) in
              let r = others cs s.1 w.1 in
              (ap₂ {C = List C} (λ x l. x ∷ l) v.0 r.0, ap₂ {C = List O} (λ x l. x ++ l) v.1 r.1)

          -- the first with the name is the only one
          sole : (c : C) (cs : List C) → named c ≡ true → distinct (naming K act) (c ∷ cs) ≡ true → none_bears (naming K act) m cs ≡ true
          unfolding distinct
          sole c cs q d =
              let w = both (act c) (K.same m (K.name c)) q in
              let x = both (not (act c) || none_bears (naming K act) (K.name c) cs) (distinct (naming K act) cs) d in
              ap (λ (k : N). none_bears (naming K act) k cs) ((exactly m (K.name c)).0 w.1) ∙ (rw w.0 at x.0)

          later : (c : C) (cs : List C) → distinct (naming K act) (c ∷ cs) ≡ true → distinct (naming K act) cs ≡ true
          unfolding distinct
          later c cs d = (both (not (act c) || none_bears (naming K act) (K.name c) cs) (distinct (naming K act) cs) d).1

          one_hears : {cs : List C} {i : ℕ} → First named cs i → All (Settled act blank) cs → distinct (naming K act) cs ≡ true
              → (map (after (tells m e)) cs ≡ across i (suc i) to cs) × (each (outs (tells m e)) cs ≡ along i (suc i) out cs)
          unfolding across along
          one_hears (here {c} {cs} q) s d =
              let v = told_one c q in
              let r = others cs s.1 (sole c cs q d) in
              (ap₂ {C = List C} (λ x l. x ∷ l) v.0 r.0, ap₂ {C = List O} (λ x l. x ++ l) v.1 r.1)
          one_hears (there {c} {cs} q f) s d =
              let v = other_one c s.0 q in
              let r = one_hears f s.1 (later c cs d) in
              (ap₂ {C = List C} (λ x l. x ∷ l) v.0 r.0, ap₂ {C = List O} (λ x l. x ++ l) v.1 r.1)

          pub tells_after : {cs : List C} {i : ℕ} → First named cs i → All (Settled act blank) cs → distinct (naming K act) cs ≡ true
              → map (stood blank) (slots_hear K g t (tells m e) (map (seen act) cs)) ≡ across i (suc i) to cs
          tells_after {cs} f s d = hear_after (tells m e) cs ∙ (one_hears f s d).0

          pub tells_outs : {cs : List C} {i : ℕ} → First named cs i → All (Settled act blank) cs → distinct (naming K act) cs ≡ true
              → each written (slots_write K g t (tells m e) (map (seen act) cs)) ≡ along i (suc i) out cs
          tells_outs {cs} f s d = hear_outs (tells m e) cs ∙ (one_hears f s d).1
