-- Demand 3 of one call: what a call writes under a name, after any calls, is exactly what the events that it applied close in the
-- histories of that name. A call may apply any number of events.
use Rattle.std.specs.Prelude.{ℕ, ◌≡◌, cond, List, [], ◌∷◌, ◌++◌, map}
use Rattle.std.specs.Prelude.{Option, None, Some}
use Rattle.history.specs.Lists.{each}
use Rattle.history.specs.History.{History}
use Rattle.history.specs.Records.{Rules, Record, records_at, records, ended}
use Rattle.history.specs.Log.{Accepted, Meaning, heard, grow, follow, histories}
use Rattle.history.specs.Run.{Machine, applied, run, log}
use Rattle.history.specs.Demand.{Forms, Sight, under, histories_of}

module _ {S E : Type 0} (R : Rules S E) where
  -- The open one of a name's histories, if there is one: the last, unless a release has ended it.
  abbrev pub open_one : List (History S E) → Option (History S E)
  open_one [] = None
  open_one (h ∷ []) = cond (ended R h) None (Some h)
  open_one (h ∷ (x ∷ hs)) = open_one (x ∷ hs)

  -- The records that close by what is heard at t: none where no history is open, and none where nothing is heard.
  abbrev pub closes_in : Option (History S E) → ℕ → Option E → List (Record S E)
  closes_in None t o = []
  closes_in (Some h) t None = []
  closes_in (Some h) t (Some e) = records_at R h t e

module _ {G N S E W : Type 0} (R : Rules S E) (D : Meaning G N S E W) (n : N) where
  -- the records that one more accepted event closes in h, and those that accepted events close in it one after another
  abbrev pub closed_at : Accepted W → History S E → List (Record S E)
  closed_at c h = closes_in R (open_one R (h ∷ [])) c.time (heard R D n (D.says c.event))

  abbrev pub closed_by : List (Accepted W) → History S E → List (Record S E)
  closed_by [] h = []
  closed_by (c ∷ cs) h = closed_at c h ++ closed_by cs (grow R D n c h)

-- the settings after accepted events
abbrev pub settings_after : {G N S E W : Type 0} → Meaning G N S E W → G → List (Accepted W) → G
settings_after D g [] = g
settings_after D g (c ∷ cs) = settings_after D (D.settles g c.event) cs

module _ {G N S E W C B M I O : Type 0} (R : Rules S E) (D : Meaning G N S E W) (F : Forms N S E C B) (L : Sight N C B M O)
    (X : Machine M I W O) (fresh : M) (settings : G) where
  -- the events that the call i applies after these calls
  abbrev pub applied_then : List I → I → List (Accepted W)
  applied_then calls i = applied X (run X fresh calls) i

  -- what it writes under n
  abbrev pub writes_under : List I → I → N → List B
  writes_under calls i n = under D.same L.name_of n (each L.kindred (X.writes (run X fresh calls) i))

  -- the histories of n that start in it
  abbrev pub started_then : List I → I → N → List (History S E)
  started_then calls i n = histories R D n (settings_after D settings (log X fresh calls)) (applied_then calls i)

  -- A call i after any calls from a fresh node, and a name:
  pub record OneCall (calls : List I) (i : I) (n : N) : Type 0 where
    -- the histories after it are those before it, each grown by the events that it applied, and then those that start in it;
    pub grows : histories_of R D F L X fresh settings (calls ++ (i ∷ [])) n
        ≡ map (follow R D n (applied_then calls i)) (histories_of R D F L X fresh settings calls n) ++ started_then calls i n
    -- what it writes under the name is exactly the records that those events close in them;
    pub wrote : writes_under calls i n
        ≡ each (λ h. map (F.as_written n) (closed_by R D n (applied_then calls i) h)) (histories_of R D F L X fresh settings calls n)
        ++ each (λ h. map (F.as_written n) (records R h)) (started_then calls i n)
    -- a call that applies nothing writes nothing;
    pub silent : applied_then calls i ≡ [] → writes_under calls i n ≡ []
    -- and one that applies one event writes exactly what this event closes in the open history.
    pub one : (c : Accepted W) → applied_then calls i ≡ c ∷ [] → writes_under calls i n
        ≡ map (F.as_written n) (closes_in R (open_one R (histories_of R D F L X fresh settings calls n)) c.time (heard R D n (D.says c.event)))
