-- What every octet once says of all that is billed and stored under a name, whatever records it is met by: the containers in the
-- records and then in the stored context are the finished stretches of its histories, once each, in order; with what runs they make
-- up all that was reported of it by name, up and down. And a record's duration is what the history says.
use mathlib.Core.Path.{◌≡◌, refl, sym, ◌∙◌}
use Rattle.std.specs.Prelude.{Option}
use mathlib.Core.List.{List, [], ◌∷◌, ◌++◌, map}
use Prim.Native.Nat.{ℕ, ◌+◌, ◌-◌}
use native.Mathlib.Nat.{add-zero}
use native.Mathlib.Omega.{arith}
use lib.Dec.{eqb}
use Rattle.format.proofs.Tests.{by}
use Rattle.container.specs.declared.Container.{Container}
use Rattle.scdr.specs.declared.Record as scdr
use Rattle.cdrs.specs.Cdr.{Cdr}
use Rattle.scdr.specs.Rules.{last_time, duration}
use Rattle.container.proofs.Padded.{take_padded}
use Rattle.profile.specs.declared.Profile.{Profile}
use Rattle.event.specs.declared.Name.{Name}
use Rattle.event.specs.Fields.{kind_of}
use Rattle.context.specs.declared.Context.{Context}
use Rattle.context.specs.Context.{used}
use Rattle.history.specs.Lists.{each, sum_of, All, is_some}
use Rattle.history.specs.History.{History, began}
use Rattle.history.specs.Records.{Rules, Stretch, Record, Open, number, since_opening, running, stretches, closings, records}
use Rattle.history.specs.Log.{tells_all, reported}
use Rattle.history.specs.Run.{Machine, run, all_written, log}
use Rattle.history.specs.Demand as demand
use Rattle.history.proofs.Lists.{each_map, map_append}
use Rattle.history.proofs.Records.{stretches_at_open}
use Rattle.history.proofs.Whole.{all_records}
use Rattle.history.proofs.Everything as everything
use Rattle.node.specs.declared.Node.{Node}
use Rattle.node.specs.Sound.{fresh_node}
use Rattle.node.specs.Run.{Call}
use Rattle.limits.specs.declared.LimitSet.{LimitSet}
use Rattle.once.specs.Charging.{Force, Heard, says, same, meaning, up, down, releases, rules, container, record_from, context_from, forms, number_of, new_set, settings_of}
use Rattle.once.specs.Once.{machine, sight, Once}
use Rattle.once.specs.Activations.{containers_of}

-- ---- what every context hears reports nothing

module _ (counts : Heard → ℕ) (tariff : counts Heard.tariff ≡ 0) (tick : counts Heard.tick ≡ 0)
    (replaces : (i : ℕ) (x : LimitSet) → counts (Heard.replaces i x) ≡ 0) where
  uncounted : (s : List ℕ) (e : Heard) → says s ≡ tells_all e → counts e ≡ 0
  unfolding says
  uncounted s e i =
      let k = kind_of s in
      by (eqb k 1) (λ a. let j = rw a at i in absurd (let z : ◌≡◌ {A = ℕ} 0 1 = cc in omega arith))
      (λ a. by (eqb k 2) (λ b. let j = rw (a, b) at i in absurd (let z : ◌≡◌ {A = ℕ} 0 1 = cc in omega arith))
      (λ b. by (eqb k 3) (λ c. let j = rw (a, b, c) at i in absurd (let z : ◌≡◌ {A = ℕ} 0 1 = cc in omega arith))
      (λ c. by (eqb k 4) (λ d. let j = rw (a, b, c, d) at i in let q : Heard.tariff ≡ e = cc in rw q at tariff)
      (λ d. by (eqb k 5) (λ f. let j = rw (a, b, c, d, f) at i in absurd (let z : ◌≡◌ {A = ℕ} 0 1 = cc in omega arith))
      (λ f. by (eqb k 6) (λ g. let j = rw (a, b, c, d, f, g) at i in let q : Heard.tick ≡ e = cc in rw q at tick)
      (λ g. by (eqb k 7) (λ h. let j = rw (a, b, c, d, f, g, h) at i in absurd (let z : ◌≡◌ {A = ℕ} 0 1 = cc in omega arith))
      (λ h. by (eqb k 12)
      (λ l. let j = rw (a, b, c, d, f, g, h, l) at i in let q : Heard.replaces (number_of s) (new_set s) ≡ e = cc in rw q at (replaces (number_of s) (new_set s)))
      (λ l. let j = rw (a, b, c, d, f, g, h, l) at i in absurd (let z : ◌≡◌ {A = ℕ} 0 1 = cc in omega arith)))))))))

-- ---- of any calls

-- A stretch becomes one container; an S-CDR, and a context, has those of its stretches.
abbrev pub entry : Profile → Stretch Force Heard → List Container
entry p x = container p x ∷ []

module _ (p : Profile) (n : Name) where
  pub carried : (r : Record Force Heard) → containers_of (record_from p n r) ≡ each (entry p) r.stretches
  carried r = take_padded (map (container p) r.stretches) ∙ sym (each_map (container p) r.stretches)

  pub carries : (s : Open Force Heard) → used (context_from p n s) ≡ each (entry p) s.stretches
  carries s = take_padded (map (container p) s.stretches) ∙ sym (each_map (container p) s.stretches)

module _ (p : Profile) (o : Once p) (cs : List Call) (n : Name) where
  abbrev X : Machine Node Call (List ℕ) Cdr
  X = machine o.records_by

  -- the records billed under the name, and the context stored under it, if there is one
  abbrev pub billed : List scdr.Record
  billed = demand.under same sight.name_of n (each sight.kindred (all_written X (fresh_node p) cs))

  abbrev pub kept : List Context
  kept = demand.under same sight.name n (demand.held (sight.slots (run X (fresh_node p) cs)))

  abbrev pub histories : List (History Force Heard)
  histories = demand.histories_of rules meaning (forms p) sight X (fresh_node p) (settings_of p) cs n

  pub containers_once : each containers_of billed ++ each used kept ≡ each (λ h. map (container p) (stretches rules h)) histories
  containers_once =
      everything.containers_once rules (forms p) n (entry p) containers_of used (carried p n) (carries p n)
      meaning sight X (fresh_node p) (settings_of p) cs (o.sessions.demand cs n)
      ∙ go histories
    where
      go : (hs : List (History Force Heard))
          → each (λ h. each (entry p) (stretches rules h)) hs ≡ each (λ h. map (container p) (stretches rules h)) hs
      go [] = refl
      go (h ∷ hs) = rw (each_map (container p) (stretches rules h), go hs)

  -- octets up, and octets down
  pub uplink_once : sum_of (λ c. c.uplink) (each containers_of billed ++ each used kept) + sum_of (λ c. c.current.uplink) kept
      ≡ reported rules meaning n up (log X (fresh_node p) cs)
  uplink_once =
      everything.octets_once rules (forms p) n (entry p) containers_of used (carried p n) (carries p n)
      meaning sight X (fresh_node p) (settings_of p) cs (o.sessions.demand cs n) up
      (uncounted up refl refl (λ i x. refl)) (λ c. c.uplink) (λ c. c.current.uplink) (λ x. add-zero _) (λ s. refl)

  pub downlink_once : sum_of (λ c. c.downlink) (each containers_of billed ++ each used kept) + sum_of (λ c. c.current.downlink) kept
      ≡ reported rules meaning n down (log X (fresh_node p) cs)
  downlink_once =
      everything.octets_once rules (forms p) n (entry p) containers_of used (carried p n) (carries p n)
      meaning sight X (fresh_node p) (settings_of p) cs (o.sessions.demand cs n) down
      (uncounted down refl refl (λ i x. refl)) (λ c. c.downlink) (λ c. c.current.downlink) (λ x. add-zero _) (λ s. refl)

-- ---- durations: from a record's opening to the event that closed it

last_time_lem : (xs : List Container) (x : Container) (t : ℕ) → last_time t (xs ++ (x ∷ [])) ≡ x.time.seconds
unfolding last_time
last_time_lem [] x t = refl
last_time_lem (y ∷ xs) x t = last_time_lem xs x y.time.seconds

module _ (p : Profile) (n : Name) where
  abbrev R : Rules Force Heard
  R = rules

  abbrev pub Lasts : Record Force Heard → Type 0
  Lasts r = duration (record_from p n r) ≡ r.time - began r.past

  lasts : (k : Option ℕ) (c : ℕ) (r : History Force Heard) (xs : List (Stretch Force Heard)) (x : Stretch Force Heard)
      → Lasts (record { number = k; cause = c; past = r; time = x.time; event = x.event; stretches = xs ++ (x ∷ []) })
  unfolding duration
  lasts k c r xs x =
      rw (take_padded (map (container p) (xs ++ (x ∷ []))), map_append (container p) xs (x ∷ []), last_time_lem (map (container p) xs) (container p x) (began r))

  pub durations : (h : History Force Heard) → All Lasts (records R h)
  durations = all_records R Lasts (λ h t e c q. rw (stretches_at_open R h, q)
      (lasts (number (closings R h) (is_some (releases e))) c (since_opening R h) (stretches R (since_opening R h))
      (record { ran = running R h; time = t; event = e; condition = 2 })))
