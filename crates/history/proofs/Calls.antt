-- Demand 3 of one call, from demand 3 of the calls before it and of these with it.
use Prim.Native.Nat.{ℕ}
use mathlib.Core.Path.{◌≡◌, refl, sym, ap, ◌∙◌}
use mathlib.Core.Bool.{Bool, true, false, cond}
use mathlib.Core.List.{List, [], ◌∷◌, ◌++◌, map, append_assoc, append-nil}
use Rattle.std.specs.Prelude.{Option, None, Some}
use Rattle.history.specs.Lists.{each, Earlier}
use Rattle.history.specs.History.{History, start}
use Rattle.history.specs.Records.{Rules, Record, records, ended}
use Rattle.history.specs.Log.{Accepted, Said, activates, tells, tells_all, nothing, Meaning, grown, heard, grow, follow, starts_by, histories}
use Rattle.history.specs.Table.{Handling}
use Rattle.history.specs.Run.{Machine, applied, run, all_written, log}
use Rattle.history.specs.Demand.{Forms, Sight, under, held, histories_of, Demand3}
use Rattle.history.specs.Calls.{open_one, closes_in, closed_at, closed_by, settings_after, applied_then, writes_under, started_then, OneCall}
use Rattle.history.proofs.Lists.{each_append, map_append, append_cancel}
use Rattle.history.proofs.Tables.{under_append, Sound}
use Rattle.history.proofs.Runs.{Serves}
use Rattle.history.proofs.Demand.{demand3}

module _ {G N S E W : Type 0} (R : Rules S E) (D : Meaning G N S E W) (n : N) where
  -- ---- what a history closes by one more event, and by more of them

  grown_records : (b : Bool) (h : History S E) (t : ℕ) (o : Option E)
      → records R (cond b h (grown h t o)) ≡ records R h ++ closes_in R (cond b None (Some h)) t o
  grown_records true h t o = sym (append-nil _)
  grown_records false h t None = sym (append-nil _)
  grown_records false h t (Some e) = refl

  grow_records : (c : Accepted W) (h : History S E) → records R (grow R D n c h) ≡ records R h ++ closed_at R D n c h
  grow_records c h = grown_records (ended R h) h c.time (heard R D n (D.says c.event))

  pub follow_records : (cs : List (Accepted W)) (h : History S E) → records R (follow R D n cs h) ≡ records R h ++ closed_by R D n cs h
  follow_records [] h = sym (append-nil _)
  follow_records (c ∷ cs) h = follow_records cs (grow R D n c h) ∙ rw (grow_records c h, append_assoc)

  -- ---- the histories of a longer log

  follow_append : (cs ds : List (Accepted W)) (h : History S E) → follow R D n (cs ++ ds) h ≡ follow R D n ds (follow R D n cs h)
  follow_append [] ds h = refl
  follow_append (c ∷ cs) ds h = follow_append cs ds (grow R D n c h)

  map_follow : (cs ds : List (Accepted W)) (hs : List (History S E))
      → map (follow R D n (cs ++ ds)) hs ≡ map (follow R D n ds) (map (follow R D n cs) hs)
  map_follow cs ds [] = refl
  map_follow cs ds (h ∷ hs) = rw (follow_append cs ds h, map_follow cs ds hs)

  pub histories_append : (cs ds : List (Accepted W)) (g : G)
      → histories R D n g (cs ++ ds) ≡ map (follow R D n ds) (histories R D n g cs) ++ histories R D n (settings_after D g cs) ds
  histories_append [] ds g = refl
  histories_append (c ∷ cs) ds g = rw (
    map_follow cs ds,
    histories_append cs ds (D.settles g c.event),
    map_append (follow R D n ds) (map (follow R D n cs) (starts_by R D n g c.time (D.says c.event))) (histories R D n (D.settles g c.event) cs),
    append_assoc,
  )

  -- ---- a history that has ended hears nothing

  at_ended : (c : Accepted W) (h : History S E) → ended R h ≡ true → closed_at R D n c h ≡ []
  at_ended c h p = rw p

  closed_ended : (cs : List (Accepted W)) (h : History S E) → ended R h ≡ true → closed_by R D n cs h ≡ []
  closed_ended [] h p = refl
  closed_ended (c ∷ cs) h p = rw p (closed_ended cs h p)

  follow_ended : (cs : List (Accepted W)) (h : History S E) → ended R h ≡ true → follow R D n cs h ≡ h
  follow_ended [] h p = refl
  follow_ended (c ∷ cs) h p = rw p (follow_ended cs h p)

  -- ---- what histories make

  module _ {B : Type 0} (form : Record S E → B) where
    abbrev made : History S E → List B
    made h = map form (records R h)

    abbrev makes : List (Accepted W) → History S E → List B
    makes cs h = map form (closed_by R D n cs h)

    made_follow : (cs : List (Accepted W)) (h : History S E) → made (follow R D n cs h) ≡ made h ++ makes cs h
    made_follow cs h = ap (λ (x : List (Record S E)). map form x) (follow_records cs h) ∙ map_append form (records R h) (closed_by R D n cs h)

    -- one after another, each but the last released: what they make later comes after all that they made before
    made_then : (cs : List (Accepted W)) (hs : List (History S E)) → Earlier (λ h. ended R h ≡ true) hs
        → each made (map (follow R D n cs) hs) ≡ each made hs ++ each (makes cs) hs
    made_then cs [] p = refl
    made_then cs (h ∷ []) p = rw (append-nil (made (follow R D n cs h)), append-nil (made h), append-nil (makes cs h)) (made_follow cs h)
    made_then cs (h ∷ (x ∷ hs)) p =
        let z : makes cs h ≡ [] = ap (λ (y : List (Record S E)). map form y) (closed_ended cs h p.0) in
        let f : follow R D n cs h ≡ h = follow_ended cs h p.0 in
        let i : each made (map (follow R D n cs) (x ∷ hs)) ≡ each made (x ∷ hs) ++ each (makes cs) (x ∷ hs) = made_then cs (x ∷ hs) p.1 in
        rw (z, f) (ap (λ (y : List B). made h ++ y) i ∙ sym (append_assoc (made h) (each made (x ∷ hs)) (each (makes cs) (x ∷ hs))))

    -- what starts with an event has made nothing yet
    started_none : (g : G) (t : ℕ) (w : Said G N S E) → each made (map (follow R D n []) (starts_by R D n g t w) ++ []) ≡ []
    started_none g t (activates m s) = go (D.same n m)
      where
        go : (b : Bool) → each made (map (follow R D n []) (cond b (start t (s g) ∷ []) []) ++ []) ≡ []
        go true = refl
        go false = refl
    started_none g t (tells m e) = refl
    started_none g t (tells_all e) = refl
    started_none g t nothing = refl

    makes_none : (hs : List (History S E)) → each (makes []) hs ≡ []
    makes_none [] = refl
    makes_none (h ∷ hs) = makes_none hs

    -- one event closes in the open one alone
    makes_one : (c : Accepted W) (hs : List (History S E)) → Earlier (λ h. ended R h ≡ true) hs
        → each (makes (c ∷ [])) hs ≡ map form (closes_in R (open_one R hs) c.time (heard R D n (D.says c.event)))
    makes_one c [] p = refl
    makes_one c (h ∷ []) p = rw (append-nil (closed_at R D n c h), append-nil (map form (closed_at R D n c h)))
    makes_one c (h ∷ (x ∷ hs)) p = rw (append-nil (closed_at R D n c h), at_ended c h p.0) (makes_one c (x ∷ hs) p.1)

-- ---- one more call

module _ {M I W O : Type 0} (X : Machine M I W O) where
  written_then : (calls : List I) (a : M) (i : I) → all_written X a (calls ++ (i ∷ [])) ≡ all_written X a calls ++ X.writes (run X a calls) i
  written_then [] a i = append-nil _
  written_then (j ∷ calls) a i = rw (written_then calls (X.after a j) i, append_assoc)

  log_then : (calls : List I) (a : M) (i : I) → log X a (calls ++ (i ∷ [])) ≡ log X a calls ++ applied X (run X a calls) i
  log_then [] a i = append-nil _
  log_then (j ∷ calls) a i = rw (log_then calls (X.after a j) i, append_assoc)

module _ {G N S E W C B M I O : Type 0} (R : Rules S E) (D : Meaning G N S E W) (F : Forms N S E C B) (L : Sight N C B M O)
    (X : Machine M I W O) (fresh : M) (settings : G) (n : N) (met : (calls : List I) → Demand3 R D F L X fresh settings calls n) where
  module _ (calls : List I) (i : I) where
    abbrev before : List (History S E)
    before = histories_of R D F L X fresh settings calls n

    abbrev cs : List (Accepted W)
    cs = applied_then R D F L X fresh settings calls i

    abbrev started : List (History S E)
    started = started_then R D F L X fresh settings calls i n

    -- the records that all calls write of the kind, under n
    abbrev all : List I → List B
    all is = under D.same L.name_of n (each L.kindred (all_written X fresh is))

    abbrev out : List B
    out = writes_under R D F L X fresh settings calls i n

    abbrev made_by : List (History S E) → List B
    made_by hs = each (λ h. map (F.as_written n) (records R h)) hs

    abbrev closed_then : List B
    closed_then = each (λ h. map (F.as_written n) (closed_by R D n cs h)) before

    grows : histories_of R D F L X fresh settings (calls ++ (i ∷ [])) n ≡ map (follow R D n cs) before ++ started
    grows = ap (λ (x : List (Accepted W)). histories R D n settings x) (log_then X calls fresh i) ∙ histories_append R D n (log X fresh calls) cs settings

    -- all that is written with this call, read in two ways
    all_then : all (calls ++ (i ∷ [])) ≡ all calls ++ out
    all_then =
        let w : List O = X.writes (run X fresh calls) i in
        rw (written_then X calls fresh i, each_append L.kindred (all_written X fresh calls) w)
        (under_append D.same L.name_of n (each L.kindred (all_written X fresh calls)) (each L.kindred w))

    made_all : made_by (map (follow R D n cs) before ++ started) ≡ (made_by before ++ closed_then) ++ made_by started
    made_all =
        each_append (λ h. map (F.as_written n) (records R h)) (map (follow R D n cs) before) started
        ∙ rw (made_then R D n (F.as_written n) cs before (met calls).released)

    wrote : out ≡ closed_then ++ made_by started
    wrote = append_cancel (made_by before) out (closed_then ++ made_by started) (
        ap (λ (x : List B). x ++ out) (sym (met calls).closed) ∙ sym all_then ∙ (met (calls ++ (i ∷ []))).closed
        ∙ ap made_by grows ∙ made_all ∙ append_assoc (made_by before) closed_then (made_by started)
        )

  -- Of every run that meets the demand: each call of it.
  pub one_call : (calls : List I) (i : I) → OneCall R D F L X fresh settings calls i n
  one_call calls i = record {
    grows = grows calls i;
    wrote = wrote calls i;
    silent = λ p. wrote calls i ∙ rw (p, append-nil) (makes_none R D n (F.as_written n) (before calls i));
    one = λ c p.
        wrote calls i
        ∙ rw (p, started_none R D n (F.as_written n) (settings_after D settings (log X fresh calls)) c.time (D.says c.event), append-nil)
        (makes_one R D n (F.as_written n) c (before calls i) (met calls).released);
  }

-- Of every node that handles a kind as its histories say, as in `demand3`.
pub each_call : {G N S E W C B M I O : Type 0} (R : Rules S E) (D : Meaning G N S E W) (F : Forms N S E C B) (K : Handling G N S E W C B)
    (L : Sight N C B M O) (X : Machine M I W O) (known : S → G) → Sound R D F K L.name_of known → (settings : M → G) (clock : M → ℕ)
    → Serves K L X settings clock
    → (fresh : M) → held (L.slots fresh) ≡ [] → (calls : List I) (i : I) (n : N) → OneCall R D F L X fresh (settings fresh) calls i n
each_call R D F K L X known Z settings clock Y fresh empty calls i n =
    one_call R D F L X fresh (settings fresh) n (λ cs. demand3 R D F K L X known Z settings clock Y fresh empty cs n) calls i
