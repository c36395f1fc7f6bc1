-- Demand 3: every octet once.
use Rattle.std.specs.Prelude.{ℕ, zero, suc, ◌+◌, ◌≡◌, ◌↔◌, Bool, true, false, cond, List, [], ◌∷◌, ◌++◌, map, length}
use Rattle.std.specs.Prelude.{Option, None, Some}
use Rattle.history.specs.Lists.{each, sum_of, All, Earlier, NotFalling}
use Rattle.history.specs.History.{History, ◌▸◌∶◌, events, began, began_with, latest, total, InOrder}
use Rattle.history.specs.Records.{
  Rules,
  Record,
  Open,
  whole,
  entire,
  in_force,
  changes,
  since_opening,
  closes,
  running,
  stretches,
  closings,
  records,
  ended,
  leaves,
}
use Rattle.history.specs.Log.{tells_all, Meaning, histories, reported}
use Rattle.history.specs.Run.{Machine, run, all_written, log}

-- ---- what one history must be

-- 1, 2, 3 .. k
abbrev pub up_to : ℕ → List (Option ℕ)
up_to zero = []
up_to (suc k) = up_to k ++ (Some (suc k) ∷ [])

-- The numbers of k closed records, by whether a release has ended the history: a sole record has none.
abbrev pub numbers : Bool → ℕ → List (Option ℕ)
numbers false k = up_to k
numbers true zero = []
numbers true (suc zero) = None ∷ []
numbers true (suc (suc k)) = up_to (suc (suc k))

-- Hearing e at t right after h closes a record, with this cause.
pub record ClosesNow {S E : Type 0} (R : Rules S E) (h : History S E) (t : ℕ) (e : E) (cause : ℕ) : Type 0 where
  pub closed : Record S E
  pub added : records R (h ▸ t ∶ e) ≡ records R h ++ (closed ∷ [])
  pub for : closed.cause ≡ cause

pub record OnceEach {S E : Type 0} (R : Rules S E) (h : History S E) : Type 0 where
  -- The stretches, read through the closed records and then the open one, are those that the cuts make: once each, in order.
  pub read : each (λ r. r.stretches) (records R h) ++ stretches R (since_opening R h) ≡ stretches R h
  -- They and then the running one are the whole history, event by event.
  pub all : each (λ x. events (whole x)) (stretches R h) ++ events (running R h) ≡ events h
  -- Whatever is counted: with the running stretch they make up all that was reported.
  pub every : (counts : E → ℕ) → sum_of (λ x. total counts (whole x)) (stretches R h) + total counts (running R h) ≡ total counts h
  -- The records' pasts, each with the event that closed it, and then the open record's past are the whole history, event by event.
  pub partition : each (λ r. events (entire r)) (records R h) ++ events (since_opening R h) ≡ events h
  -- Each record's stretches are its own past with the event that closed it, event by event.
  pub listed : All (λ r. each (λ x. events (whole x)) r.stretches ≡ events (entire r)) (records R h)
  -- The closed records have the numbers 1, 2, 3, and a sole record none.
  pub numbered : map (λ r. r.number) (records R h) ≡ numbers (ended R h) (closings R h)
  -- Each record opens when the one before it closes, with what is then in force; the first with the history.
  pub opened : map (λ r. began r.past) (records R h) ++ (began (since_opening R h) ∷ []) ≡ began h ∷ map (λ r. r.time) (records R h)
  pub opened_with : map (λ r. began_with r.past) (records R h) ++ (began_with (since_opening R h) ∷ [])
      ≡ began_with h ∷ map (λ r. in_force R (entire r)) (records R h)
  -- The open record has a finished stretch for each of its changes.
  pub changed : changes R (since_opening R h) ≡ length (stretches R (since_opening R h))
  -- Whatever is heard next closes a record exactly when a closing condition holds, read since the last opening.
  pub exactly : (t : ℕ) (e : E) (cause : ℕ) → ClosesNow R h t e cause ↔ (closes R h t e ≡ Some cause)

-- Times in a history that is in order: those of its stretches, and so of its containers, do not fall.
pub record InTime {S E : Type 0} (R : Rules S E) (h : History S E) : Type 0 where
  -- from its start to the last thing heard, through all its records;
  pub throughout : NotFalling (began h) (map (λ x. x.time) (stretches R h)) (latest h)
  -- within each record, from its opening to its closing;
  pub in_records : All (λ r. NotFalling (began r.past) (map (λ x. x.time) r.stretches) r.time) (records R h)
  -- and within the open one, from its opening on.
  pub in_open : NotFalling (began (since_opening R h)) (map (λ x. x.time) (stretches R (since_opening R h))) (latest h)

-- A part of what is in force that no event changes: wherever it is looked at, it is what it was at the start.
pub record Unchanged {S E A : Type 0} (R : Rules S E) (part : S → A) (h : History S E) : Type 0 where
  pub now : part (in_force R h) ≡ part (began_with h)
  pub in_stretches : All (λ x. part (in_force R x.ran) ≡ part (began_with h)) (stretches R h)
  pub in_records : All (λ r. part (in_force R r.past) ≡ part (began_with h)) (records R h)
  pub in_open : part (in_force R (since_opening R h)) ≡ part (began_with h)
  pub in_running : part (in_force R (running R h)) ≡ part (began_with h)

-- ---- what a node must do

-- How a kind's records are written and its subjects stored, by what the history says. C is what is stored, B what is written.
pub record Forms (N S E C B : Type 0) : Type 0 where
  pub as_written : N → Record S E → B
  pub as_stored : N → Open S E → C

-- Where a node M has the slots of a kind, and which of the records that it writes are of the kind.
pub record Sight (N C B M O : Type 0) : Type 0 where
  pub slots : M → List (Option C)
  pub name : C → N
  pub kindred : O → List B
  pub name_of : B → N

-- What stands under a name, among records or among contexts, and what slots hold.
abbrev pub under : {N B : Type 0} → (N → N → Bool) → (B → N) → N → List B → List B
under same name_of n [] = []
under same name_of n (r ∷ rs) = cond (same n (name_of r)) (r ∷ under same name_of n rs) (under same name_of n rs)

abbrev pub held : {C : Type 0} → List (Option C) → List C
held [] = []
held (None ∷ os) = held os
held (Some c ∷ os) = c ∷ held os

module _ {G N S E W C B M I O : Type 0} (R : Rules S E) (D : Meaning G N S E W) (F : Forms N S E C B) (L : Sight N C B M O)
    (X : Machine M I W O) (fresh : M) (settings : G) where
  -- the histories of a name after calls from a fresh node
  abbrev pub histories_of : List I → N → List (History S E)
  histories_of calls n = histories R D n settings (log X fresh calls)

  -- what a history leaves stored: nothing once a release has ended it
  abbrev pub left : N → History S E → List C
  left n h = cond (ended R h) [] (F.as_stored n (leaves R h) ∷ [])

  -- After any calls from a fresh node, refused ones among them, and for every name:
  pub record Demand3 (calls : List I) (n : N) : Type 0 where
    -- the records written under it are exactly those that its histories make, one activation after another, in order;
    pub closed : under D.same L.name_of n (each L.kindred (all_written X fresh calls))
        ≡ each (λ h. map (F.as_written n) (records R h)) (histories_of calls n)
    -- what is stored under it is what its histories leave,
    pub open_now : under D.same L.name n (held (L.slots (run X fresh calls))) ≡ each (left n) (histories_of calls n)
    -- and that is what the last one leaves, since a release has ended each before it;
    pub released : Earlier (λ h. ended R h ≡ true) (histories_of calls n)
    -- all that the accepted events reported of it by name is in them, whatever is counted, save in what every subject hears;
    pub all_reported : (counts : E → ℕ) → ((v : W) (e : E) → D.says v ≡ tells_all e → counts e ≡ 0)
        → sum_of (λ h. total counts h) (histories_of calls n) ≡ reported R D n counts (log X fresh calls)
    -- time does not go back in any of them, so container times do not fall;
    pub in_order : All InOrder (histories_of calls n)
    pub in_time : All (InTime R) (histories_of calls n)
    -- and each of them is charged once in every part.
    pub once : All (OnceEach R) (histories_of calls n)
