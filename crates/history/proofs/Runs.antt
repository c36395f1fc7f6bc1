-- A node's run is the run of its table over the events that its calls applied.
use Prim.Native.Nat.{ℕ, ◌≤◌}
use mathlib.Core.Path.{◌≡◌, refl, sym, ap, ◌∙◌}
use mathlib.Core.Bool.{Bool, true}
use mathlib.Core.List.{List, [], ◌∷◌, ◌++◌, map, append_assoc, append-nil}
use lib.ListN.{length, take}
use Rattle.std.specs.Prelude.{Option}
use native.Mathlib.Omega.{arith}
use Rattle.history.specs.Lists.{each}
use Rattle.history.specs.Log.{Accepted}
use Rattle.history.specs.Table.{Handling, slots_after, writes, settled, table, output}
use Rattle.history.specs.Run.{Machine, applied, run, all_written, log, up_to_refusal}
use Rattle.history.specs.Demand.{Sight}
use Rattle.history.proofs.Lists.{by, each_append}
use Rattle.history.proofs.Tables.{admits}
use Rattle.history.proofs.Told.{Admitted}
use Rattle.history.proofs.Histories.{Ordered, ordered_append}

-- The slots of one kind in a node: each call does to them, and writes of that kind, what the handling says of the events that it
-- applied. A call that applied none leaves them as they are and writes nothing.
pub record Serves {G N S E W C B M I O : Type 0} (K : Handling G N S E W C B) (L : Sight N C B M O) (X : Machine M I W O)
    (settings : M → G) (clock : M → ℕ) : Type 0 where
  pub names : (c : C) → K.name c ≡ L.name c
  pub slots_after_lem : (a : M) (i : I) → L.slots (X.after a i) ≡ table K (settings a) (L.slots a) (applied X a i)
  pub settings_after_lem : (a : M) (i : I) → settings (X.after a i) ≡ settled K (settings a) (applied X a i)
  pub wrote : (a : M) (i : I) → each L.kindred (X.writes a i) ≡ output K (settings a) (L.slots a) (applied X a i)
  pub admitted : (a : M) (i : I) → Admitted K (settings a) (L.slots a) (applied X a i)
  pub timely : (a : M) (i : I) → Ordered (clock a) (applied X a i) (clock (X.after a i))

module _ {G N S E W C B M I O : Type 0} (K : Handling G N S E W C B) (L : Sight N C B M O) (X : Machine M I W O) (settings : M → G) (clock : M → ℕ)
    (Y : Serves K L X settings clock) where
  table_append : (cs ds : List (Accepted W)) (g : G) (os : List (Option C))
      → table K g os (cs ++ ds) ≡ table K (settled K g cs) (table K g os cs) ds
  table_append [] ds g os = refl
  table_append (c ∷ cs) ds g os = table_append cs ds _ _

  output_append : (cs ds : List (Accepted W)) (g : G) (os : List (Option C))
      → output K g os (cs ++ ds) ≡ output K g os cs ++ output K (settled K g cs) (table K g os cs) ds
  output_append [] ds g os = refl
  output_append (c ∷ cs) ds g os = rw (append_assoc, output_append cs ds)

  admitted_append : (cs ds : List (Accepted W)) (g : G) (os : List (Option C)) → Admitted K g os cs
      → Admitted K (settled K g cs) (table K g os cs) ds → Admitted K g os (cs ++ ds)
  admitted_append [] ds g os p q = q
  admitted_append (c ∷ cs) ds g os p q = (p.0, admitted_append cs ds _ _ p.1 q)

  settled_append : (cs ds : List (Accepted W)) (g : G) → settled K g (cs ++ ds) ≡ settled K (settled K g cs) ds
  settled_append [] ds g = refl
  settled_append (c ∷ cs) ds g = settled_append cs ds _

  pub record Runs (a : M) (is : List I) : Type 0 where
    pub settings_now : settings (run X a is) ≡ settled K (settings a) (log X a is)
    pub slots : L.slots (run X a is) ≡ table K (settings a) (L.slots a) (log X a is)
    pub wrote : each L.kindred (all_written X a is) ≡ output K (settings a) (L.slots a) (log X a is)
    pub admitted : Admitted K (settings a) (L.slots a) (log X a is)
    pub timely : Ordered (clock a) (log X a is) (clock (run X a is))

  pub runs : (is : List I) (a : M) → Runs a is
  runs [] a = record { settings_now = refl; slots = refl; wrote = refl; admitted = tt; timely = omega arith }
  runs (i ∷ is) a =
      let r = runs is (X.after a i) in
      record {
        settings_now = r.settings_now ∙ rw (settled_append, Y.settings_after_lem a i);
        slots = r.slots ∙ rw (table_append, Y.settings_after_lem a i, Y.slots_after_lem a i);
        wrote = rw (each_append, output_append, Y.wrote a i, ← Y.settings_after_lem a i, ← Y.slots_after_lem a i, r.wrote);
        admitted = admitted_append (applied X a i) (log X (X.after a i) is) (settings a) (L.slots a) (Y.admitted a i)
            (rw (← Y.settings_after_lem a i, ← Y.slots_after_lem a i) r.admitted);
        timely =
            ordered_append (clock a) (clock (X.after a i)) (clock (run X (X.after a i) is)) (applied X a i) (log X (X.after a i) is) (Y.timely a i)
            r.timely;
      }

-- ---- A node whose calls do what some other calls do one by one: a batch, and its pairs.

module _ {G N S E W C B M I J O : Type 0} (K : Handling G N S E W C B) (L : Sight N C B M O) (settings : M → G) (clock : M → ℕ) (X : Machine M I W O)
    (Z : Machine M J W O) where
  pub record OneByOne (a : M) (i : I) : Type 0 where
    pub calls : List J
    pub events : applied X a i ≡ log Z a calls
    pub node : X.after a i ≡ run Z a calls
    pub wrote : X.writes a i ≡ all_written Z a calls

  pub serves_too : Serves K L Z settings clock → ((a : M) (i : I) → OneByOne a i) → Serves K L X settings clock
  serves_too Y f = record {
    names = Y.names;
    slots_after_lem = λ a i. rw ((f a i).events, (f a i).node) (runs K L Z settings clock Y (f a i).calls a).slots;
    settings_after_lem = λ a i. rw ((f a i).events, (f a i).node) (runs K L Z settings clock Y (f a i).calls a).settings_now;
    wrote = λ a i. rw ((f a i).events, (f a i).wrote) (runs K L Z settings clock Y (f a i).calls a).wrote;
    admitted = λ a i. rw (f a i).events (runs K L Z settings clock Y (f a i).calls a).admitted;
    timely = λ a i. rw ((f a i).events, (f a i).node) (runs K L Z settings clock Y (f a i).calls a).timely;
  }

-- Calls of one event each, done one by one up to the first that is refused: what was applied is the log of those that were done.
module _ {M J W O : Type 0} (Z : Machine M J W O) (accepts : M → J → Bool) (event : J → Accepted W) (holds-one : (j : J) → Z.holds j ≡ event j ∷ [])
    (applies-one : (a : M) (j : J) → accepts a j ≡ true → Z.applies a j ≡ 1) where
  pub done_log : (a : M) (js : List J) → take (length (up_to_refusal Z accepts a js)) (map event js) ≡ log Z a (up_to_refusal Z accepts a js)
  done_log a [] = refl
  done_log a (j ∷ js) =
      by (accepts a j)
      (λ e. rw (e, applies-one a j e, holds-one j) (ap (λ (l : List (Accepted W)). event j ∷ l) (done_log (Z.after a j) js)))
      (λ e. rw e)

-- ---- A node whose calls apply one event or none.

module _ {G N S E W C B M I O : Type 0} (K : Handling G N S E W C B) (L : Sight N C B M O) (X : Machine M I W O) (settings : M → G) (clock : M → ℕ) where
  -- the call applied c
  pub record Applied (a : M) (i : I) (c : Accepted W) : Type 0 where
    pub events : applied X a i ≡ c ∷ []
    pub admitted : admits K (K.says c.event) (L.slots a) ≡ true
    pub since : clock a ≤ c.time
    pub clock_after : c.time ≤ clock (X.after a i)
    pub slots_after_lem : L.slots (X.after a i) ≡ slots_after K (settings a) c.time (K.says c.event) (L.slots a)
    pub settings_after_lem : settings (X.after a i) ≡ K.settles (settings a) c.event
    pub wrote : each L.kindred (X.writes a i) ≡ writes K (settings a) c.time (K.says c.event) (L.slots a)

  -- the call was refused: the node is as it was, and nothing is written
  pub record Refused (a : M) (i : I) : Type 0 where
    pub events : applied X a i ≡ []
    pub kept : X.after a i ≡ a
    pub silent : X.writes a i ≡ []

  pub data Outcome (a : M) (i : I) : Type 0 where
    did : (c : Accepted W) → Applied a i c → Outcome a i
    refused : Refused a i → Outcome a i

  record Served (a : M) (i : I) (cs : List (Accepted W)) : Type 0 where
    slots_after_lem : L.slots (X.after a i) ≡ table K (settings a) (L.slots a) cs
    settings_after_lem : settings (X.after a i) ≡ settled K (settings a) cs
    wrote : each L.kindred (X.writes a i) ≡ output K (settings a) (L.slots a) cs
    admitted : Admitted K (settings a) (L.slots a) cs
    timely : Ordered (clock a) cs (clock (X.after a i))

  served : (a : M) (i : I) → Outcome a i → Served a i (applied X a i)
  served a i (did c d) = rw d.events (record {
    slots_after_lem = d.slots_after_lem;
    settings_after_lem = d.settings_after_lem;
    wrote = d.wrote ∙ sym (append-nil _);
    admitted = (d.admitted, tt);
    timely = (d.since, d.clock_after);
  })
  served a i (refused d) = rw d.events (record {
    slots_after_lem = rw d.kept;
    settings_after_lem = rw d.kept;
    wrote = rw d.silent;
    admitted = tt;
    timely = rw d.kept (omega arith);
  })

  pub serves : ((c : C) → K.name c ≡ L.name c) → ((a : M) (i : I) → Outcome a i) → Serves K L X settings clock
  serves names f = record {
    names = names;
    slots_after_lem = λ a i. (served a i (f a i)).slots_after_lem;
    settings_after_lem = λ a i. (served a i (f a i)).settings_after_lem;
    wrote = λ a i. (served a i (f a i)).wrote;
    admitted = λ a i. (served a i (f a i)).admitted;
    timely = λ a i. (served a i (f a i)).timely;
  }
