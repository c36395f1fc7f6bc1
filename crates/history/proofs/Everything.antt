-- Demand 3 read over a whole run: under a name, the containers written and then those stored are the finished stretches of all
-- its histories, once each, in order; with what runs they make up all that was reported.
-- `entries` is what a finished stretch becomes in a record: one container, or nothing where a kind does not list it.
use Prim.Native.Nat.{ℕ, ◌+◌}
use mathlib.Core.Path.{◌≡◌, refl, sym, ap, ◌∙◌}
use mathlib.Core.Bool.{Bool, true, false, cond}
use mathlib.Core.List.{List, [], ◌∷◌, ◌++◌, map, append_assoc, append-nil}
use native.Mathlib.Omega.{arith}
use Rattle.history.specs.Lists.{each, sum_of, Earlier}
use Rattle.history.specs.History.{History, total}
use Rattle.history.specs.Records.{Rules, Stretch, Record, Open, whole, stretches, records, ended, leaves}
use Rattle.history.specs.Log.{tells_all, Meaning, reported}
use Rattle.history.specs.Run.{Machine, run, all_written, log}
use Rattle.history.specs.Demand.{Forms, Sight, under, held, histories_of, Demand3}
use Rattle.history.proofs.Lists.{each_append, sum_of_append}
use Rattle.history.proofs.Records.{read, every, ended_open, ended_running}

module _ {N S E C B A : Type 0} (R : Rules S E) (F : Forms N S E C B) (n : N) (entries : Stretch S E → List A) (of_record : B → List A) (ofStored : C → List A)
    (records-carry : (r : Record S E) → of_record (F.as_written n r) ≡ each entries r.stretches)
    (stored-carry : (o : Open S E) → ofStored (F.as_stored n o) ≡ each entries o.stretches) where
  abbrev pub made : History S E → List B
  made h = map (F.as_written n) (records R h)

  abbrev pub leaving : Bool → History S E → List C
  leaving b h = cond b [] (F.as_stored n (leaves R h) ∷ [])

  each_made : (rs : List (Record S E)) → each of_record (map (F.as_written n) rs) ≡ each entries (each (λ r. r.stretches) rs)
  each_made [] = refl
  each_made (r ∷ rs) = rw (records-carry r, each_made rs, each_append)

  -- one history: through its records, and then through what it leaves
  pub read_one : (h : History S E) (b : Bool) → ended R h ≡ b
      → each of_record (made h) ++ each ofStored (leaving b h) ≡ each entries (stretches R h)
  read_one h true p =
      let q : each (λ r. r.stretches) (records R h) ≡ stretches R h = sym (append-nil _) ∙ rw (ended_open R h p) at (read R h) in
      rw (each_made (records R h), append-nil, q)
  read_one h false p = rw (each_made (records R h), stored-carry (leaves R h), append-nil, ← each_append, read R h)

  -- one after another, each but the last released
  read_all : (hs : List (History S E)) → Earlier (λ h. ended R h ≡ true) hs
      → each of_record (each made hs) ++ each ofStored (each (λ h. leaving (ended R h) h) hs) ≡ each (λ h. each entries (stretches R h)) hs
  read_all [] p = refl
  read_all (h ∷ []) p = rw (append-nil (made h), append-nil (leaving (ended R h) h), append-nil (each entries (stretches R h))) (read_one h (ended R h) refl)
  read_all (h ∷ (x ∷ hs)) p =
      let q : each of_record (made h) ≡ each entries (stretches R h) = sym (append-nil _) ∙ read_one h true p.0 in
      let i : each of_record (each made (x ∷ hs)) ++ each ofStored (each (λ h. leaving (ended R h) h) (x ∷ hs)) ≡ each (λ h. each entries (stretches R h))
      (x ∷ hs) = read_all (x ∷ hs) p.1 in
      rw (p.0, each_append of_record (made h) (each made (x ∷ hs)), append_assoc, q) (ap (λ (y : List A). each entries (stretches R h) ++ y) i)

  -- Whatever is counted: `octets` reads it from a container, `runs` the running count from what is stored.
  module _ (counts : E → ℕ) (octets : A → ℕ) (runs : C → ℕ) (carry : (x : Stretch S E) → sum_of octets (entries x) ≡ total counts (whole x))
      (run-carry : (o : Open S E) → runs (F.as_stored n o) ≡ total counts o.running) where
    octets_of_lem : (xs : List (Stretch S E)) → sum_of octets (each entries xs) ≡ sum_of (λ x. total counts (whole x)) xs
    octets_of_lem [] = refl
    octets_of_lem (x ∷ xs) = omega (arith, carry x, octets_of_lem xs, sum_of_append octets (entries x) (each entries xs))

    pub count_one : (h : History S E) (b : Bool) → ended R h ≡ b
        → sum_of octets (each entries (stretches R h)) + sum_of runs (leaving b h) ≡ total counts h
    count_one h true p = omega (arith, octets_of_lem (stretches R h), every R counts h, ended_running R counts h p)
    count_one h false p = omega (arith, octets_of_lem (stretches R h), every R counts h, run-carry (leaves R h))

    count_all : (hs : List (History S E))
        → sum_of octets (each (λ h. each entries (stretches R h)) hs) + sum_of runs (each (λ h. leaving (ended R h) h) hs) ≡ sum_of (λ h. total counts h) hs
    count_all [] = refl
    count_all (h ∷ hs) = omega (
      arith,
      count_one h (ended R h) refl,
      count_all hs,
      sum_of_append octets (each entries (stretches R h)) (each (λ h. each entries (stretches R h)) hs),
      sum_of_append runs (leaving (ended R h) h) (each (λ h. leaving (ended R h) h) hs),
    )

  -- ---- of a run that meets the demand

  module _ {G W M I O : Type 0} (D : Meaning G N S E W) (L : Sight N C B M O) (X : Machine M I W O) (fresh : M) (settings : G) (calls : List I)
      (d : Demand3 R D F L X fresh settings calls n) where
    -- what was written under n, and what is stored under it
    abbrev pub written_under : List B
    written_under = under D.same L.name_of n (each L.kindred (all_written X fresh calls))

    abbrev pub stored_under : List C
    stored_under = under D.same L.name n (held (L.slots (run X fresh calls)))

    pub containers_once : each of_record written_under ++ each ofStored stored_under ≡ each (λ h. each entries (stretches R h))
        (histories_of R D F L X fresh settings calls n)
    containers_once = rw (d.closed, d.open_now) (read_all (histories_of R D F L X fresh settings calls n) d.released)

    pub octets_once : (counts : E → ℕ) → ((v : W) (e : E) → D.says v ≡ tells_all e → counts e ≡ 0) → (octets : A → ℕ) (runs : C → ℕ)
        → ((x : Stretch S E) → sum_of octets (entries x) ≡ total counts (whole x))
        → ((o : Open S E) → runs (F.as_stored n o) ≡ total counts o.running)
        → sum_of octets (each of_record written_under ++ each ofStored stored_under) + sum_of runs stored_under ≡ reported R D n counts (log X fresh calls)
    octets_once counts z octets runs p q =
        rw (containers_once, d.open_now) (count_all counts octets runs p q (histories_of R D F L X fresh settings calls n)) ∙ d.all_reported counts z
