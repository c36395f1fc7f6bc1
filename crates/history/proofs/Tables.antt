-- A table of slots seen under one name: what it holds and writes after an event is what the subjects of that name do.
use Prim.Native.Nat.{ℕ, suc}
use mathlib.Core.Path.{◌≡◌, refl, sym, ap, ◌∙◌}
use mathlib.Core.Logic.{◌↔◌}
use mathlib.Core.Bool.{Bool, true, false, not, cond, ◌&&◌, ◌||◌, false≢true}
use mathlib.Core.List.{List, [], ◌∷◌, ◌++◌, map, cons≢nil}
use Rattle.std.specs.Prelude.{Option, None, Some}
use Rattle.history.specs.Lists.{each, is_some}
use Rattle.history.specs.History.{History, start, ◌▸◌∶◌}
use Rattle.history.specs.Records.{Rules, Stretch, Record, Open, number, in_force, since_opening, closes, running, stretches, closings, records_at, leaves}
use Rattle.history.specs.Log.{Said, activates, tells, tells_all, nothing, Meaning, heard}
use Rattle.history.specs.Table.{Step, Handling, fill, free, active, hears, listen, slots_hear, slots_write}
use Rattle.history.specs.Demand.{Forms, under, held}
use Rattle.history.proofs.Lists.{each_cond}
use Rattle.history.proofs.Records.{leaves_closing, records_closing, records_none, leaves_change, leaves_plain}

-- what is in a slot
abbrev pub content : {C : Type 0} → Option C → List C
content None = []
content (Some c) = c ∷ []

pub content_cond : {C : Type 0} (b : Bool) (x : C) → content (cond b None (Some x)) ≡ cond b [] (x ∷ [])
content_cond true x = refl
content_cond false x = refl

pub under_append : {N B : Type 0} (same : N → N → Bool) (name_of : B → N) (n : N) (a b : List B)
    → under same name_of n (a ++ b) ≡ under same name_of n a ++ under same name_of n b
under_append same name_of n [] b = refl
under_append {B = B} same name_of n (r ∷ rs) b = rw (under_append same name_of n rs b) (go (same n (name_of r)) (under same name_of n rs) (under same name_of n b))
  where
    go : (x : Bool) (p q : List B) → cond x (r ∷ (p ++ q)) (p ++ q) ≡ cond x (r ∷ p) p ++ q
    go true p q = refl
    go false p q = refl

module _ {G N S E W C B : Type 0} (K : Handling G N S E W C B) where
  -- An activation is accepted only for a name that is not active, and with a free slot; a named event only for an active name.
  abbrev pub admits : Said G N S E → List (Option C) → Bool
  admits (activates m s) os = not (active K m os) && free os
  admits (tells m e) os = active K m os
  admits (tells_all e) os = true
  admits nothing os = true

module _ {G N S E W C B : Type 0} (K : Handling G N S E W C B) (name_of : B → N) where
  abbrev pub named : N → List (Option C) → List C
  named n os = under K.same K.name n (held os)

  abbrev pub of_name : N → List B → List B
  of_name n rs = under K.same name_of n rs

  -- ---- a step keeps the name

  abbrev pub NextIs : N → Option C → Type 0
  NextIs m None = Unit {0}
  NextIs m (Some c) = K.name c ≡ m

  abbrev pub OutIs : N → List B → Type 0
  OutIs m [] = Unit {0}
  OutIs m (r ∷ rs) = (name_of r ≡ m) × OutIs m rs

  pub record Bears (m : N) (s : Step C B) : Type 0 where
    pub next : NextIs m s.next
    pub out : OutIs m s.out

  pub bears_cond : (m : N) (b : Bool) (x y : Step C B) → Bears m x → Bears m y → Bears m (cond b x y)
  bears_cond m true x y p q = p
  bears_cond m false x y p q = q

  named_next : (n m : N) (b : Bool) (o : Option C) (os : List (Option C)) → K.same n m ≡ b → NextIs m o
      → named n (o ∷ os) ≡ cond b (content o ++ named n os) (named n os)
  named_next n m true None os p q = refl
  named_next n m false None os p q = refl
  named_next n m true (Some c) os p q = rw (q, p)
  named_next n m false (Some c) os p q = rw (q, p)

  of_name_out : (n m : N) (b : Bool) (rs ts : List B) → K.same n m ≡ b → OutIs m rs
      → of_name n (rs ++ ts) ≡ cond b (rs ++ of_name n ts) (of_name n ts)
  of_name_out n m true [] ts p q = refl
  of_name_out n m false [] ts p q = refl
  of_name_out n m true (r ∷ rs) ts p q = rw (ap (λ (x : N). K.same n x) q.0 ∙ p) (ap (λ (x : List B). r ∷ x) (of_name_out n m true rs ts p q.1))
  of_name_out n m false (r ∷ rs) ts p q = rw (ap (λ (x : N). K.same n x) q.0 ∙ p) (of_name_out n m false rs ts p q.1)

  module _ (bears : (g : G) (c : C) (t : ℕ) (e : E) → Bears (K.name c) (K.hear g c t e)) (g : G) (t : ℕ) (w : Said G N S E) (n : N) where
    bears_listen : (c : C) (o : Option E) → Bears (K.name c) (listen K g c t o)
    bears_listen c None = record { next = refl; out = tt }
    bears_listen c (Some e) = bears g c t e

    abbrev pub hearing : C → Step C B
    hearing c = listen K g c t (hears K (K.name c) w)

    pub named_hear : (os : List (Option C)) → named n (slots_hear K g t w os) ≡ each (λ c. content (hearing c).next) (named n os)
    named_hear [] = refl
    named_hear (None ∷ os) = named_hear os
    named_hear (Some c ∷ os) =
        named_next n (K.name c) (K.same n (K.name c)) (hearing c).next (slots_hear K g t w os) refl (bears_listen c (hears K (K.name c) w)).next
        ∙ rw (named_hear os) (sym (each_cond (λ c. content (hearing c).next) (K.same n (K.name c)) c (named n os)))

    pub of_name_hear : (os : List (Option C)) → of_name n (slots_write K g t w os) ≡ each (λ c. (hearing c).out) (named n os)
    of_name_hear [] = refl
    of_name_hear (None ∷ os) = of_name_hear os
    of_name_hear (Some c ∷ os) =
        of_name_out n (K.name c) (K.same n (K.name c)) (hearing c).out (slots_write K g t w os) refl (bears_listen c (hears K (K.name c) w)).out
        ∙ rw (of_name_hear os) (sym (each_cond (λ c. (hearing c).out) (K.same n (K.name c)) c (named n os)))

  -- what no subject hears changes no slot
  pub unheard_slots : (g : G) (t : ℕ) (os : List (Option C)) → slots_hear K g t nothing os ≡ os
  unheard_slots g t [] = refl
  unheard_slots g t (None ∷ os) = rw (unheard_slots g t os)
  unheard_slots g t (Some c ∷ os) = rw (unheard_slots g t os)

  pub unheard_out : (g : G) (t : ℕ) (os : List (Option C)) → slots_write K g t nothing os ≡ []
  unheard_out g t [] = refl
  unheard_out g t (None ∷ os) = unheard_out g t os
  unheard_out g t (Some c ∷ os) = unheard_out g t os

  -- ---- an activation

  named_some : (n : N) (c : C) (os : List (Option C)) (b : Bool) → K.same n (K.name c) ≡ b → (b || active K n os) ≡ false
      → (active K n os ≡ false → named n os ≡ []) → named n (Some c ∷ os) ≡ []
  named_some n c os true q p i = absurd (false≢true (sym p))
  named_some n c os false q p i = rw q (i p)

  pub inactive : (n : N) (os : List (Option C)) → active K n os ≡ false → named n os ≡ []
  inactive n [] p = refl
  inactive n (None ∷ os) p = inactive n os p
  inactive n (Some c ∷ os) p = named_some n c os (K.same n (K.name c)) refl p (λ a. inactive n os a)

  named_one : (n : N) (c : C) (os : List (Option C)) (b : Bool) → K.same n (K.name c) ≡ b → (b || active K n os) ≡ true
      → (active K n os ≡ true → named n os ≡ [] → ⊥) → named n (Some c ∷ os) ≡ [] → ⊥
  named_one n c os true q p i e = cons≢nil (rw q at e)
  named_one n c os false q p i e = i p (rw q at e)

  pub named_active : (n : N) (os : List (Option C)) → active K n os ≡ true → named n os ≡ [] → ⊥
  named_active n [] p e = absurd (false≢true p)
  named_active n (None ∷ os) p e = named_active n os p e
  named_active n (Some c ∷ os) p e = named_one n c os (K.same n (K.name c)) refl p (λ a i. named_active n os a i) e

  pub named_fill_other : (n : N) (c : C) (os : List (Option C)) → K.same n (K.name c) ≡ false → named n (fill c os) ≡ named n os
  named_fill_other n c [] p = refl
  named_fill_other n c (None ∷ os) p = rw p
  named_fill_other n c (Some b ∷ os) p = rw (named_fill_other n c os p)

  fill_some : (n : N) (b c : C) (os : List (Option C)) (x : Bool) → K.same n (K.name b) ≡ x
      → cond x (b ∷ named n os) (named n os) ≡ []
      → (named n os ≡ [] → named n (fill c os) ≡ c ∷ []) → cond x (b ∷ named n (fill c os)) (named n (fill c os)) ≡ c ∷ []
  fill_some n b c os true q i f = absurd (cons≢nil i)
  fill_some n b c os false q i f = f i

  pub named_fill : (n : N) (c : C) (os : List (Option C)) → K.same n (K.name c) ≡ true → free os ≡ true → named n os ≡ []
      → named n (fill c os) ≡ c ∷ []
  named_fill n c [] p f i = absurd (false≢true f)
  named_fill n c (None ∷ os) p f i = rw (p, i)
  named_fill n c (Some b ∷ os) p f i = fill_some n b c os (K.same n (K.name b)) refl i (λ j. named_fill n c os p f j)

-- ---- What a history says that hearing e at t does, and the same by cases.

module _ {N S E C B : Type 0} (R : Rules S E) (F : Forms N S E C B) (n : N) (h : History S E) (t : ℕ) (e : E) where
  abbrev pub told : Step C B
  told = record {
    next = cond (is_some (R.release e)) None (Some (F.as_stored n (leaves R (h ▸ t ∶ e))));
    out = map (F.as_written n) (records_at R h t e);
  }

  told_by : (o : Open S E) (rs : List (Record S E)) → leaves R (h ▸ t ∶ e) ≡ o → records_at R h t e ≡ rs
      → told ≡ record { next = cond (is_some (R.release e)) None (Some (F.as_stored n o)); out = map (F.as_written n) rs }
  told_by o rs p q = λ i. record { next = cond (is_some (R.release e)) None (Some (F.as_stored n (p i))); out = map (F.as_written n) (q i) }

  abbrev next_force : S
  next_force = R.after (in_force R h) e

  abbrev cut : ℕ → Stretch S E
  cut k = record { ran = running R h; time = t; event = e; condition = k }

  -- it closes
  pub told_closing : (c : ℕ) → closes R h t e ≡ Some c → told ≡ record {
    next = cond (is_some (R.release e)) None (Some (F.as_stored n (record
        { closed = suc (closings R h); past = start t next_force; stretches = []; running = start t next_force })));
    out = F.as_written n (record {
      number = number (closings R h) (is_some (R.release e));
      cause = c;
      past = since_opening R h;
      time = t;
      event = e;
      stretches = stretches R (since_opening R h) ++ (cut (R.last (R.change (in_force R h) e)) ∷ []);
    }) ∷ [];
  }
  told_closing c p = told_by _ _ (leaves_closing R h t e c p) (records_closing R h t e c p)

  -- it is a change, and does not close
  pub told_change : (k : ℕ) → closes R h t e ≡ None → R.change (in_force R h) e ≡ Some k → told ≡ record {
    next = cond (is_some (R.release e)) None (Some (F.as_stored n (record
        { closed = closings R h; past = since_opening R h ▸ t ∶ e; stretches = stretches R (since_opening R h) ++ (cut k ∷ []); running = start t next_force })));
    out = [];
  }
  told_change k p q = told_by _ _ (leaves_change R h t e k p q) (records_none R h t e p)

  -- it does neither
  pub told_plain : closes R h t e ≡ None → R.change (in_force R h) e ≡ None → told ≡ record {
    next = cond (is_some (R.release e)) None (Some (F.as_stored n (record
        { closed = closings R h; past = since_opening R h ▸ t ∶ e; stretches = stretches R (since_opening R h); running = running R h ▸ t ∶ e })));
    out = [];
  }
  told_plain p q = told_by _ _ (leaves_plain R h t e p q) (records_none R h t e p)

-- ---- A kind that a node handles as its histories say: `known` is the settings as what is in force knows them.

pub record Sound {G N S E W C B : Type 0} (R : Rules S E) (D : Meaning G N S E W) (F : Forms N S E C B) (K : Handling G N S E W C B) (name_of : B → N)
    (known : S → G) : Type 0 where
  -- names are told apart, and the node takes names and events as they are meant
  pub same_exactly : (m n : N) → (D.same m n ≡ true) ↔ (m ≡ n)
  pub same_meant : (m n : N) → K.same m n ≡ D.same m n
  pub says_meant : (v : W) → K.says v ≡ D.says v
  pub settles_meant : (g : G) (v : W) → K.settles g v ≡ D.settles g v
  -- what is stored bears its name, and so does what hearing leaves and writes
  pub stored_name : (n : N) (o : Open S E) → K.name (F.as_stored n o) ≡ n
  pub bears : (g : G) (c : C) (t : ℕ) (e : E) → Bears K name_of (K.name c) (K.hear g c t e)
  -- an activation stores, and hearing does, what the history says
  pub opens : (n : N) (t : ℕ) (s : S) → K.opening t n s ≡ F.as_stored n (leaves R (start t s))
  pub hears_told : (n : N) (h : History S E) (t : ℕ) (e : E)
      → K.hear (known (in_force R h)) (F.as_stored n (leaves R h)) t e ≡ told R F n h t e
  -- an event that changes the settings is in every history
  pub settings_activated : (g : G) (v : W) (m : N) (s : G → S) → D.says v ≡ activates m s → known (s g) ≡ D.settles g v
  pub settings_heard : (n : N) (s : S) (v : W) (e : E) → heard R D n (D.says v) ≡ Some e
      → known (R.after s e) ≡ D.settles (known s) v
  pub settings_unheard : (n : N) (g : G) (v : W) → heard R D n (D.says v) ≡ None → D.settles g v ≡ g
