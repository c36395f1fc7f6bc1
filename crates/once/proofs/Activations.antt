-- Demand 3, activation by activation, over the octets: the theorem.
use mathlib.Core.Path.{◌≡◌, refl, sym, ◌∙◌}
use mathlib.Core.Bool.{true, cond}
use mathlib.Core.List.{List, [], ◌∷◌, map}
use Prim.Native.Nat.{ℕ, ◌+◌, ◌-◌, ◌≤◌}
use native.Mathlib.Nat.{add-zero}
use native.Mathlib.Omega.{arith}
use Rattle.scdr.specs.declared.Record as scdr
use Rattle.scdr.specs.Rules.{duration}
use Rattle.container.proofs.Padded.{take_padded}
use Rattle.profile.specs.declared.Profile.{Profile}
use Rattle.profile.specs.Profile.{profile_ok}
use Rattle.event.specs.declared.Name.{Name}
use Rattle.context.specs.Context.{used}
use Rattle.history.specs.Lists.{each, All, NotFalling}
use Rattle.history.specs.History.{History, began}
use Rattle.history.specs.Records.{Rules, Record, stretches, records, ended, leaves}
use Rattle.history.specs.Run.{all_written}
use Rattle.history.specs.Demand.{InTime}
use Rattle.history.proofs.Lists.{each_map, map_map, map_id, each_of_map, all_of_map, all_both, not_falling_whole}
use Rattle.history.proofs.Everything.{read_one, count_one}
use Rattle.node.specs.Sound.{fresh_node}
use Rattle.node.specs.Run.{Call, Given}
use Rattle.node.specs.Held.{HeldProfile}
use Rattle.once.specs.Charging.{Force, Heard, up, down, rules, container, record_from, context_from, forms}
use Rattle.once.specs.Once.{machine, contexts, activations}
use Rattle.once.specs.Activations.{containers_of, Activation, containers_read, ChargedOnce, PerActivation}
use Rattle.once.proofs.EachCall.{run_same, log_same}
use Rattle.once.proofs.Billed.{entry, carried, carries, Lasts, durations}
use Rattle.once.proofs.Once.{every_octet_once}

back : (a b : ℕ) → a ≤ b → a + (b - a) ≡ b
back a b h = omega arith

-- ---- one activation

module _ (p : Profile) (name : Name) where
  abbrev R : Rules Force Heard
  R = rules

  abbrev activation : History Force Heard → Activation
  activation h = record {
    history = h;
    closed = map (record_from p name) (records R h);
    still_open = cond (ended R h) [] (context_from p name (leaves R h) ∷ []);
  }

  read : (h : History Force Heard) → containers_read (activation h) ≡ each (entry p) (stretches R h)
  read h = read_one R (forms p) name (entry p) containers_of used (carried p name) (carries p name) h (ended R h) refl

  containers_are : (h : History Force Heard) → containers_read (activation h) ≡ map (container p) (stretches R h)
  containers_are h = read h ∙ each_map (container p) (stretches R h)

  -- within a record
  abbrev Timed : Record Force Heard → Type 0
  Timed r = NotFalling (began r.past) (map (λ x. x.time) r.stretches) r.time

  abbrev Timely : scdr.Record → Type 0
  Timely r = NotFalling r.opening.seconds (map (λ c. c.time.seconds) (containers_of r)) (r.opening.seconds + duration r)

  timely : (r : Record Force Heard) → Timed r × Lasts p name r → Timely (record_from p name r)
  timely r z =
      let e : began r.past + (r.time - began r.past) ≡ r.time
      = back (began r.past) r.time (not_falling_whole (began r.past) r.time (map (λ x. x.time) r.stretches) z.0) in
      rw (take_padded (map (container p) r.stretches), map_map (λ c. c.time.seconds) (container p) r.stretches, z.1, e) z.0

  charged_once : (h : History Force Heard) → InTime R h → ChargedOnce p name (activation h)
  charged_once h z = record {
    made = refl;
    left = refl;
    containers = containers_are h;
    times = rw (containers_are h, map_map (λ c. c.time.seconds) (container p) (stretches R h)) z.throughout;
    times_within = all_of_map (λ r. Timed r × Lasts p name r) Timely (record_from p name) timely (records R h)
        (all_both Timed (Lasts p name) (records R h) z.in_records (durations p name h));
    uplink = rw (read h) (count_one R (forms p) name (entry p) containers_of used (carried p name) (carries p name) up
        (λ c. c.uplink) (λ c. c.current.uplink) (λ x. add-zero _) (λ o. refl) h (ended R h) refl);
    downlink = rw (read h) (count_one R (forms p) name (entry p) containers_of used (carried p name) (carries p name) down
        (λ c. c.downlink) (λ c. c.current.downlink) (λ x. add-zero _) (λ o. refl) h (ended R h) refl);
  }

-- ---- all of a name's

-- For every profile in range that the code can hold, all calls, of one event with octets for it and of lists of reports, and every name.
pub each_activation_once : (p : Profile) → profile_ok p ≡ true → HeldProfile p → (calls : List Call) → All Given calls
    → (name : Name) → PerActivation p calls name
each_activation_once p ok h calls octets name =
    let o = every_octet_once p ok in
    let d = o.sessions.demand calls name in
    let hs = activations (contexts p) p calls name in
    let same_log = log_same o.records_by calls (fresh_node p) in
    let all = all_written (machine o.records_by) (fresh_node p) calls in
    record {
      output = all;
      read = o.reads h calls octets;
      one_each = map (activation p name) hs;
      histories = map_map (λ a. a.history) (activation p name) hs ∙ map_id hs;
      closed_under =
          rw same_log at d.closed
          ∙ sym (each_of_map (λ a. a.closed) (activation p name) hs);
      open_under =
          rw (run_same o.records_by calls (fresh_node p), same_log) at d.open_now
          ∙ sym (each_of_map (λ a. a.still_open) (activation p name) hs);
      charged = all_of_map (InTime rules) (ChargedOnce p name) (activation p name) (charged_once p name) hs (rw same_log at d.in_time);
    }
