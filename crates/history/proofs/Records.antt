-- Laws of one history, for every kind of subject: its stretches, read through its records, are charged once each.
use Prim.Native.Nat.{ℕ, zero, suc, ◌+◌}
use mathlib.Core.Path.{◌≡◌, refl, sym, ap, ◌∙◌}
use mathlib.Core.Logic.{◌↔◌}
use mathlib.Core.Bool.{true, false, false≢true}
use mathlib.Core.List.{List, [], ◌∷◌, ◌++◌, map, append_assoc, append-nil, cons≢nil}
use Rattle.std.specs.Prelude.{Option, None, Some}
use native.Mathlib.Omega.{arith}
use lib.ListN.{length}
use Rattle.history.specs.Lists.{each, sum_of, if_any, is_some, or_else, count}
use Rattle.history.specs.History.{History, start, ◌▸◌∶◌, events, began, began_with, total}
use Rattle.history.specs.Records.{Rules, Stretch, Record, whole, entire, or_anew, number, in_force, changes, cause_for, since_opening}
use Rattle.history.specs.Records.{closes, condition, cuts, running, stretches_at, stretches, closings, record_at, records_at, records, ended, leaves}
use Rattle.history.specs.Demand.{up_to, numbers, ClosesNow}
use Rattle.history.proofs.Lists.{each_append, map_append, sum_of_append, length_ifAny, append_cancel}

module _ {S E : Type 0} (R : Rules S E) where
  -- ---- the open record's past is a history with the same present

  in_force_or_anew : (o : Option ℕ) (r : History S E) (s : S) (t : ℕ) (e : E) → in_force R r ≡ s
      → in_force R (or_anew o r t e (R.after s e)) ≡ R.after s e
  in_force_or_anew None r s t e p = ap (λ (x : S). R.after x e) p
  in_force_or_anew (Some k) r s t e p = refl

  pub in_force_open : (h : History S E) → in_force R (since_opening R h) ≡ in_force R h
  in_force_open (start t s) = refl
  in_force_open (h ▸ t ∶ e) = in_force_or_anew (closes R h t e) (since_opening R h) (in_force R h) t e (in_force_open h)

  pub in_force_running : (h : History S E) → in_force R (running R h) ≡ in_force R h
  in_force_running (start t s) = refl
  in_force_running (h ▸ t ∶ e) = in_force_or_anew (cuts R h t e) (running R h) (in_force R h) t e (in_force_running h)

  open_step : (o : Option ℕ) (r : History S E) (t : ℕ) (e : E) (s : S) → since_opening R r ≡ r → cause_for R r t e ≡ o
      → since_opening R (or_anew o r t e s) ≡ or_anew o r t e s
  open_step None r t e s i p = rw (i, p)
  open_step (Some c) r t e s i p = refl

  pub open_open : (h : History S E) → since_opening R (since_opening R h) ≡ since_opening R h
  open_open (start t s) = refl
  open_open (h ▸ t ∶ e) = open_step (closes R h t e) (since_opening R h) t e (in_force R (h ▸ t ∶ e)) (open_open h) refl

  running_step : (o : Option ℕ) (h : History S E) (t : ℕ) (e : E) → closes R h t e ≡ o → running R (since_opening R h) ≡ running R h
      → running R (or_anew o (since_opening R h) t e (in_force R (h ▸ t ∶ e))) ≡ or_anew (condition R o (R.change (in_force R h) e)) (running R h) t e
      (in_force R (h ▸ t ∶ e))
  running_step None h t e p i = rw (open_open h, p, in_force_open h, i)
  running_step (Some c) h t e p i = refl

  pub running_open : (h : History S E) → running R (since_opening R h) ≡ running R h
  running_open (start t s) = refl
  running_open (h ▸ t ∶ e) = running_step (closes R h t e) h t e refl (running_open h)

  -- So an event cuts the open record as it cuts the history.
  pub stretches_at_open : (h : History S E) (t : ℕ) (e : E) → stretches_at R (since_opening R h) t e ≡ stretches_at R h t e
  stretches_at_open h t e = rw (open_open h, in_force_open h, running_open h)

  -- ---- the stretches, read through the closed records and then the open one

  read_at : (o : Option ℕ) (k : Option ℕ) (r : History S E) (t : ℕ) (e : E) (s : S)
      → each (λ (x : Record S E). x.stretches) (if_any o
      (λ c. record { number = k; cause = c; past = r; time = t; event = e; stretches = stretches R (r ▸ t ∶ e) }))
      ++ stretches R (or_anew o r t e s) ≡ stretches R (r ▸ t ∶ e)
  read_at None k r t e s = refl
  read_at (Some c) k r t e s = simp append-nil

  pub read : (h : History S E) → each (λ r. r.stretches) (records R h) ++ stretches R (since_opening R h) ≡ stretches R h
  read (start t s) = refl
  read (h ▸ t ∶ e) = rw (
    each_append,
    append_assoc,
    read_at (closes R h t e) (number (closings R h) (is_some (R.release e))) (since_opening R h) t e (in_force R (h ▸ t ∶ e)),
    stretches_at_open h,
    ← append_assoc,
    read h,
  )

  -- ---- the stretches make up the history

  all_at : (o : Option ℕ) (p : History S E) (t : ℕ) (e : E) (s : S)
      → each (λ x. events (whole x)) (if_any o (λ k. record { ran = p; time = t; event = e; condition = k })) ++ events (or_anew o p t e s) ≡ events p ++
      ((t, e) ∷ [])
  all_at None p t e s = refl
  all_at (Some k) p t e s = simp append-nil

  pub all : (h : History S E) → each (λ x. events (whole x)) (stretches R h) ++ events (running R h) ≡ events h
  all (start t s) = refl
  all (h ▸ t ∶ e) = rw (each_append, append_assoc, all_at (cuts R h t e) (running R h) t e (in_force R (h ▸ t ∶ e)), ← append_assoc, all h)

  module _ (counts : E → ℕ) where
    every_at : (o : Option ℕ) (p : History S E) (t : ℕ) (e : E) (s : S)
        → sum_of (λ x. total counts (whole x)) (if_any o (λ k. record { ran = p; time = t; event = e; condition = k })) + total counts (or_anew o p t e s) ≡
        total counts p + counts e
    every_at None p t e s = omega arith
    every_at (Some k) p t e s = omega arith

    pub every : (h : History S E) → sum_of (λ x. total counts (whole x)) (stretches R h) + total counts (running R h) ≡ total counts h
    every (start t s) = refl
    every (h ▸ t ∶ e) = omega (
      arith,
      every h,
      sum_of_append (λ x. total counts (whole x)) (stretches R h) (stretches_at R h t e),
      every_at (cuts R h t e) (running R h) t e (in_force R (h ▸ t ∶ e)),
    )

    -- the same of the open record alone
    pub every_open : (h : History S E)
        → sum_of (λ x. total counts (whole x)) (stretches R (since_opening R h)) + total counts (running R h) ≡ total counts (since_opening R h)
    every_open h = rw (running_open h) at (every (since_opening R h))

  -- ---- the numbers

  -- Nothing is heard after the release.
  abbrev pub Proper : History S E → Type 0
  Proper (start t s) = Unit {0}
  Proper (h ▸ t ∶ e) = (ended R h ≡ false) × Proper h

  numbered_at : (o p : Option ℕ) (k : ℕ)
      → up_to k ++ if_any (or_else o p) (λ c. number k (is_some o)) ≡ numbers (is_some o) (count (or_else o p) k)
  numbered_at None None k = append-nil (up_to k)
  numbered_at None (Some c) k = refl
  numbered_at (Some c) p zero = refl
  numbered_at (Some c) p (suc k) = refl

  number_at : (o k : Option ℕ) (r : History S E) (t : ℕ) (e : E) (x : List (Stretch S E))
      → map (λ (x : Record S E). x.number) (if_any o (λ c. record { number = k; cause = c; past = r; time = t; event = e; stretches = x })) ≡ if_any o (λ c. k)
  number_at None k r t e x = refl
  number_at (Some c) k r t e x = refl

  pub numbered : (h : History S E) → Proper h → map (λ r. r.number) (records R h) ≡ numbers (ended R h) (closings R h)
  numbered (start t s) p = refl
  numbered (h ▸ t ∶ e) p = rw (
    map_append,
    numbered h p.1,
    p.0,
    number_at (closes R h t e) (number (closings R h) (is_some (R.release e))) (since_opening R h) t e (stretches R (since_opening R h ▸ t ∶ e)),
  ) (numbered_at (R.release e) (R.closing (since_opening R h) t e) (closings R h))

  -- ---- openings

  module _ {A : Type 0} (first : History S E → A) (next : Record S E → A) (t : ℕ) (e : E) (h : History S E) where
    abbrev Chained : List (Record S E) → History S E → Type 0
    Chained rs r = map (λ x. first x.past) rs ++ (first r ∷ []) ≡ first h ∷ map next rs

    chained : (o k : Option ℕ) (rs : List (Record S E)) (r : History S E) (x : List (Stretch S E)) (s : S) → first (r ▸ t ∶ e) ≡ first r
        → ((c : ℕ) → first (start t s) ≡ next (record { number = k; cause = c; past = r; time = t; event = e; stretches = x })) → Chained rs r
        → Chained (rs ++ if_any o (λ c. record { number = k; cause = c; past = r; time = t; event = e; stretches = x })) (or_anew o r t e s)
    chained None k rs r x s p q i = rw (append-nil, p) i
    chained (Some c) k rs r x s p q i = rw (map_append, map_append, i, q c)

  pub opened : (h : History S E)
      → map (λ r. began r.past) (records R h) ++ (began (since_opening R h) ∷ []) ≡ began h ∷ map (λ r. r.time) (records R h)
  opened (start t s) = refl
  opened (h ▸ t ∶ e) = chained began (λ r. r.time) t e h (closes R h t e) (number (closings R h) (is_some (R.release e))) (records R h) (since_opening R h)
      (stretches R (since_opening R h ▸ t ∶ e)) (in_force R (h ▸ t ∶ e)) refl (λ c. refl) (opened h)

  pub opened_with : (h : History S E)
      → map (λ r. began_with r.past) (records R h) ++ (began_with (since_opening R h) ∷ []) ≡ began_with h ∷ map (λ r. in_force R (entire r)) (records R h)
  opened_with (start t s) = refl
  opened_with (h ▸ t ∶ e) =
      chained began_with (λ r. in_force R (entire r)) t e h (closes R h t e) (number (closings R h) (is_some (R.release e))) (records R h) (since_opening R h)
      (stretches R (since_opening R h ▸ t ∶ e)) (in_force R (h ▸ t ∶ e)) refl (λ c. rw (in_force_open h)) (opened_with h)

  -- ---- the open record has a finished stretch for each of its changes

  changed_step : (o : Option ℕ) (h : History S E) (t : ℕ) (e : E) (s : S) → closes R h t e ≡ o
      → changes R (since_opening R h) ≡ length (stretches R (since_opening R h))
      → changes R (or_anew o (since_opening R h) t e s) ≡ length (stretches R (or_anew o (since_opening R h) t e s))
  changed_step None h t e s p i =
      let r : History S E = since_opening R h in
      let c : cuts R r t e ≡ R.change (in_force R r) e = rw (open_open h, p) in
      let j : count (cuts R r t e) (length (stretches R r)) ≡ count (R.change (in_force R r) e) (changes R r) = rw (c, i) in
      sym (length_ifAny (stretches R r) (cuts R r t e) (λ k. record { ran = running R r; time = t; event = e; condition = k }) ∙ j)
  changed_step (Some c) h t e s p i = refl

  pub changed : (h : History S E) → changes R (since_opening R h) ≡ length (stretches R (since_opening R h))
  changed (start t s) = refl
  changed (h ▸ t ∶ e) = changed_step (closes R h t e) h t e (in_force R (h ▸ t ∶ e)) refl (changed h)

  -- ---- closings, exactly

  exactly_at : (o k : Option ℕ) (r : History S E) (t : ℕ) (e : E) (x : List (Stretch S E)) (c : ℕ) (d : Record S E)
      → if_any o (λ c. record { number = k; cause = c; past = r; time = t; event = e; stretches = x }) ≡ d ∷ [] → d.cause ≡ c → o ≡ Some c
  exactly_at None k r t e x c d p q = absurd (cons≢nil (sym p))
  exactly_at (Some a) k r t e x c d p q =
      let i : record { number = k; cause = a; past = r; time = t; event = e; stretches = x } ≡ d = cc in
      ap (λ (n : ℕ). Some n) (ap (λ (y : Record S E). y.cause) i ∙ q)

  pub exactly : (h : History S E) (t : ℕ) (e : E) (cause : ℕ) → ClosesNow R h t e cause ↔ (closes R h t e ≡ Some cause)
  exactly h t e cause = (
    (λ c. exactly_at (closes R h t e) (number (closings R h) (is_some (R.release e))) (since_opening R h) t e (stretches R (since_opening R h ▸ t ∶ e)) cause
        c.closed
        (append_cancel (records R h) (records_at R h t e) (c.closed ∷ []) c.added) c.for),
    (λ p. record {
      closed = record_at R h t e cause;
      added = rw p;
      for = refl;
    }),
  )

  -- the same, where a kind says its closing conditions one by one, as a relation
  pub exactly_when : (P : History S E → ℕ → E → ℕ → Type 0)
      → ((r : History S E) (t : ℕ) (e : E) (c : ℕ) → (cause_for R r t e ≡ Some c) ↔ P r t e c)
      → (h : History S E) (t : ℕ) (e : E) (cause : ℕ) → ClosesNow R h t e cause ↔ P (since_opening R h) t e cause
  exactly_when P f h t e cause = (
    (λ c. (f (since_opening R h) t e cause).0 ((exactly h t e cause).0 c)),
    (λ p. (exactly h t e cause).1 ((f (since_opening R h) t e cause).1 p)),
  )

  -- Once a release has ended it, nothing is open: no stretch waits, and nothing runs.
  pub ended_open : (h : History S E) → ended R h ≡ true → stretches R (since_opening R h) ≡ []
  ended_open (start t s) p = refl
  ended_open (h ▸ t ∶ e) p = go (R.release e) refl p
    where
      go : (o : Option ℕ) → R.release e ≡ o → is_some o ≡ true → stretches R (since_opening R (h ▸ t ∶ e)) ≡ []
      go None q i = absurd (false≢true i)
      go (Some c) q i = rw q

  pub ended_running : (counts : E → ℕ) (h : History S E) → ended R h ≡ true → total counts (running R h) ≡ 0
  ended_running counts (start t s) p = refl
  ended_running counts (h ▸ t ∶ e) p = go (R.release e) refl p
    where
      go : (o : Option ℕ) → R.release e ≡ o → is_some o ≡ true → total counts (running R (h ▸ t ∶ e)) ≡ 0
      go None q i = absurd (false≢true i)
      go (Some c) q i = rw q

  -- ---- what one more event does, by cases: for the proof that a stored subject hears as its history says

  module _ (h : History S E) (t : ℕ) (e : E) where
    abbrev next : S
    next = R.after (in_force R h) e

    abbrev cut : ℕ → Stretch S E
    cut k = record { ran = running R h; time = t; event = e; condition = k }

    -- it closes
    pub leaves_closing : (c : ℕ) → closes R h t e ≡ Some c
        → leaves R (h ▸ t ∶ e) ≡ record { closed = suc (closings R h); past = start t next; stretches = []; running = start t next }
    leaves_closing c p = rw p

    pub records_closing : (c : ℕ) → closes R h t e ≡ Some c → records_at R h t e ≡ record {
      number = number (closings R h) (is_some (R.release e));
      cause = c;
      past = since_opening R h;
      time = t;
      event = e;
      stretches = stretches R (since_opening R h) ++ (cut (R.last (R.change (in_force R h) e)) ∷ []);
    } ∷ []
    records_closing c p = rw (p, stretches_at_open h, p)

    -- it does not close
    pub records_none : closes R h t e ≡ None → records_at R h t e ≡ []
    records_none p = rw p

    -- it is a change, and does not close
    pub leaves_change : (k : ℕ) → closes R h t e ≡ None → R.change (in_force R h) e ≡ Some k → leaves R (h ▸ t ∶ e)
        ≡ record { closed = closings R h; past = since_opening R h ▸ t ∶ e; stretches = stretches R (since_opening R h) ++ (cut k ∷ []); running = start t next }
    leaves_change k p q = rw (p, stretches_at_open h, p, q)

    -- it does neither
    pub leaves_plain : closes R h t e ≡ None → R.change (in_force R h) e ≡ None → leaves R (h ▸ t ∶ e)
        ≡ record { closed = closings R h; past = since_opening R h ▸ t ∶ e; stretches = stretches R (since_opening R h); running = running R h ▸ t ∶ e }
    leaves_plain p q = rw (p, stretches_at_open h, p, q, append-nil)
