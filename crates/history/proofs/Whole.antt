-- Laws of one history, for every kind of subject: its records, each with the event that closed it, and then the open one are the
-- whole history; the stretches that a record lists are that whole record; container times do not fall; and a part of what is in
-- force that no event changes is the same in every part of it.
use Prim.Native.Nat.{ℕ, ◌≤◌}
use mathlib.Core.Path.{◌≡◌, refl, sym, ap, ◌∙◌}
use mathlib.Core.List.{List, [], ◌∷◌, ◌++◌, map, append_assoc, append-nil}
use Rattle.std.specs.Prelude.{Option, None, Some}
use native.Mathlib.Omega.{arith}
use Rattle.history.specs.Lists.{each, All, if_any, is_some, NotFalling}
use Rattle.history.specs.History.{History, start, ◌▸◌∶◌, collect, events, began, began_with, latest, InOrder}
use Rattle.history.specs.Records.{Rules, Stretch, Record, whole, entire, or_anew, number, in_force, since_opening, closes, cuts, running}
use Rattle.history.specs.Records.{stretches_at, stretches, closings, record_at, records_at, records}
use Rattle.history.specs.Demand.{OnceEach, InTime, Unchanged}
use Rattle.history.proofs.Lists.{each_append, map_append, all_append, not_falling_append}
use Rattle.history.proofs.Records.{in_force_open, in_force_running, open_open, read, all, every, Proper, numbered, opened, opened_with, changed, exactly}

module _ {S E : Type 0} (R : Rules S E) where
  -- ---- what holds of each stretch, and of each record

  all_ifAny : {A : Type 0} (P : A → Type 0) (o : Option ℕ) (f : ℕ → A) → ((k : ℕ) → o ≡ Some k → P (f k)) → All P (if_any o f)
  all_ifAny P None f holds = tt
  all_ifAny P (Some k) f holds = (holds k refl, tt)

  -- Q is what the history has all along.
  module _ (Q : History S E → Type 0) (earlier : (h : History S E) (t : ℕ) (e : E) → Q (h ▸ t ∶ e) → Q h) where
    all_collect : {A : Type 0} (P : A → Type 0) (f : History S E → ℕ → E → List A)
        → ((h : History S E) (t : ℕ) (e : E) → Q (h ▸ t ∶ e) → All P (f h t e)) → (h : History S E) → Q h → All P (collect f h)
    all_collect P f holds (start t s) q = tt
    all_collect P f holds (h ▸ t ∶ e) q = all_append P (collect f h) (f h t e) (all_collect P f holds h (earlier h t e q)) (holds h t e q)

    -- What holds of a stretch wherever one is cut holds of each, and what holds of a record wherever one closes holds of each.
    pub all_stretches_while : (P : Stretch S E → Type 0)
        → ((h : History S E) (t : ℕ) (e : E) (k : ℕ) → Q (h ▸ t ∶ e) → P (record { ran = running R h; time = t; event = e; condition = k }))
        → (h : History S E) → Q h → All P (stretches R h)
    all_stretches_while P holds = all_collect P (stretches_at R)
        (λ h t e q. all_ifAny P (cuts R h t e) (λ k. record { ran = running R h; time = t; event = e; condition = k }) (λ k p. holds h t e k q))

    pub all_records_while : (P : Record S E → Type 0)
        → ((h : History S E) (t : ℕ) (e : E) (c : ℕ) → Q (h ▸ t ∶ e) → closes R h t e ≡ Some c → P (record_at R h t e c))
        → (h : History S E) → Q h → All P (records R h)
    all_records_while P holds = all_collect P (records_at R) (λ h t e q. all_ifAny P (closes R h t e) (record_at R h t e) (λ c p. holds h t e c q p))

  pub all_records : (P : Record S E → Type 0) → ((h : History S E) (t : ℕ) (e : E) (c : ℕ) → closes R h t e ≡ Some c → P (record_at R h t e c))
      → (h : History S E) → All P (records R h)
  all_records P holds h = all_records_while (λ h. Unit {0}) (λ h t e q. tt) P (λ h t e c q p. holds h t e c p) h tt

  -- ---- the records make up the history

  whole_at : (o k : Option ℕ) (r : History S E) (t : ℕ) (e : E) (x : List (Stretch S E)) (s : S)
      → each (λ (y : Record S E). events (entire y)) (if_any o (λ c. record { number = k; cause = c; past = r; time = t; event = e; stretches = x }))
      ++ events (or_anew o r t e s) ≡ events r ++ ((t, e) ∷ [])
  whole_at None k r t e x s = refl
  whole_at (Some c) k r t e x s = simp append-nil

  pub partition : (h : History S E) → each (λ r. events (entire r)) (records R h) ++ events (since_opening R h) ≡ events h
  partition (start t s) = refl
  partition (h ▸ t ∶ e) = rw (
    each_append,
    append_assoc,
    whole_at (closes R h t e) (number (closings R h) (is_some (R.release e))) (since_opening R h) t e (stretches R (since_opening R h ▸ t ∶ e))
        (in_force R (h ▸ t ∶ e)),
    ← append_assoc,
    partition h,
  )

  -- ---- a record's stretches make up the record

  -- where it closes, nothing runs on
  stops : (h : History S E) (t : ℕ) (e : E) (c : ℕ) → closes R h t e ≡ Some c
      → running R (since_opening R h ▸ t ∶ e) ≡ start t (R.after (in_force R (since_opening R h)) e)
  stops h t e c p = rw (open_open R h, p)

  pub listed : (h : History S E) → All (λ r. each (λ x. events (whole x)) r.stretches ≡ events (entire r)) (records R h)
  listed h = all_records (λ r. each (λ x. events (whole x)) r.stretches ≡ events (entire r))
      (λ h t e c p. sym (append-nil _) ∙ rw (stops h t e c p) at (all R (since_opening R h ▸ t ∶ e))) h

  -- ---- times do not fall

  cut_time : (o : Option ℕ) (p : History S E) (k t : ℕ) (e : E) → k ≤ t
      → NotFalling k (map (λ (x : Stretch S E). x.time) (if_any o (λ c. record { ran = p; time = t; event = e; condition = c }))) t
  cut_time None p k t e q = q
  cut_time (Some c) p k t e q = (q, omega arith)

  times : (h : History S E) → InOrder h → NotFalling (began h) (map (λ x. x.time) (stretches R h)) (latest h)
  times (start t s) p = omega arith
  times (h ▸ t ∶ e) p = rw map_append (
      not_falling_append (began h) (latest h) t (map (λ x. x.time) (stretches R h)) (map (λ x. x.time) (stretches_at R h t e))
      (times h p.1) (cut_time (cuts R h t e) (running R h) (latest h) t e p.0))

  -- the open record's past is in order too
  record OpenInOrder (r : History S E) (t : ℕ) : Type 0 where
    order : InOrder r
    until : latest r ≡ t

  anew_order : (o : Option ℕ) (r : History S E) (k t : ℕ) (e : E) (s : S) → OpenInOrder r k → k ≤ t → OpenInOrder (or_anew o r t e s) t
  anew_order None r k t e s p q = record { order = ((omega (arith, p.until)), p.order); until = refl }
  anew_order (Some c) r k t e s p q = record { order = tt; until = refl }

  open_order : (h : History S E) → InOrder h → OpenInOrder (since_opening R h) (latest h)
  open_order (start t s) p = record { order = tt; until = refl }
  open_order (h ▸ t ∶ e) p = anew_order (closes R h t e) (since_opening R h) (latest h) t e (in_force R (h ▸ t ∶ e)) (open_order h p.1) p.0

  pub in_time : (h : History S E) → InOrder h → InTime R h
  in_time h p =
      let o = open_order h p in
      record {
        throughout = times h p;
        in_records = all_records_while InOrder (λ h t e q. q.1) (λ r. NotFalling (began r.past) (map (λ x. x.time) r.stretches) r.time)
            (λ h t e c q i. let z = open_order h q.1 in times (since_opening R h ▸ t ∶ e) ((omega (arith, z.until)), z.order)) h p;
        in_open = rw o.until at (times (since_opening R h) o.order);
      }

  -- ---- what no event changes

  module _ {A : Type 0} (part : S → A) (kept : (s : S) (e : E) → part (R.after s e) ≡ part s) where
    same_now : (h : History S E) → part (in_force R h) ≡ part (began_with h)
    same_now (start t s) = refl
    same_now (h ▸ t ∶ e) = kept (in_force R h) e ∙ same_now h

    pub unchanged : (h : History S E) → Unchanged R part h
    unchanged h = record {
      now = same_now h;
      in_stretches = all_stretches_while (λ x. part (began_with x) ≡ part (began_with h)) (λ x t e q. q) (λ x. part (in_force R x.ran) ≡ part (began_with h))
          (λ x t e k q. ap part (in_force_running R x) ∙ same_now x ∙ q) h refl;
      in_records = all_records_while (λ x. part (began_with x) ≡ part (began_with h)) (λ x t e q. q) (λ r. part (in_force R r.past) ≡ part (began_with h))
          (λ x t e c q p. ap part (in_force_open R x) ∙ same_now x ∙ q) h refl;
      in_open = ap part (in_force_open R h) ∙ same_now h;
      in_running = ap part (in_force_running R h) ∙ same_now h;
    }

  -- ---- all of it

  pub once : (h : History S E) → Proper R h → OnceEach R h
  once h p = record {
    read = read R h;
    all = all R h;
    every = λ counts. every R counts h;
    partition = partition h;
    listed = listed h;
    numbered = numbered R h p;
    opened = opened R h;
    opened_with = opened_with R h;
    changed = changed R h;
    exactly = exactly R h;
  }
