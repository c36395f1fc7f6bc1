-- Demand 3 read over the octets, activation by activation: its containers, read through its closed records and then its open one,
-- are the containers of its stretches. Nothing is lost, and nothing is there twice.
use Rattle.std.specs.Prelude.{◌≡◌, cond, List, [], ◌∷◌, ◌++◌, map, ◌+◌, take}
use Rattle.std.specs.Prelude.{Some}
use Rattle.container.specs.declared.Container.{Container}
use Rattle.scdr.specs.declared.Record as scdr
use Rattle.scdr.specs.Rules.{duration}
use Rattle.cdrs.specs.Cdr.{Cdr}
use Rattle.cdrs.specs.List.{record_list}
use Rattle.profile.specs.declared.Profile.{Profile}
use Rattle.event.specs.declared.Name.{Name}
use Rattle.context.specs.declared.Context.{Context}
use Rattle.context.specs.Context.{used}
use Rattle.history.specs.Lists.{each, sum_of, All, NotFalling}
use Rattle.history.specs.History.{History, began, latest, total}
use Rattle.history.specs.Records.{stretches, records, ended, leaves}
use Rattle.history.specs.Demand.{under, held}
use Rattle.node.specs.Sound.{fresh_node}
use Rattle.node.specs.Run.{Call}
use Rattle.once.specs.Charging.{Force, Heard, same, up, down, rules, container, record_from, context_from}
use Rattle.once.specs.Once.{sessions, sight, outputs, node_then, contexts, activations}

-- the containers of an S-CDR: as many of its places as it counts
abbrev pub containers_of : scdr.Record → List Container
containers_of r = take r.count r.containers

-- An activation: its history, its closed records, and its open one: the context that is stored for it until it is released.
pub record Activation : Type 0 where
  pub history : History Force Heard
  pub closed : List scdr.Record
  pub still_open : List Context

-- its containers, read through its closed records and then its open one
abbrev pub containers_read : Activation → List Container
containers_read a = each containers_of a.closed ++ each used a.still_open

pub record ChargedOnce (p : Profile) (name : Name) (a : Activation) : Type 0 where
  -- The records are those that its history makes, and the context is what it leaves, unless a release has ended it.
  pub made : a.closed ≡ map (record_from p name) (records rules a.history)
  pub left : a.still_open
      ≡ cond (ended rules a.history) [] (context_from p name (leaves rules a.history) ∷ [])
  -- Its containers are those of its stretches, once each, in order.
  pub containers : containers_read a ≡ map (container p) (stretches rules a.history)
  -- Their times do not fall: from its start on, through all its records, and within each record from its opening to its end.
  pub times : NotFalling (began a.history) (map (λ c. c.time.seconds) (containers_read a)) (latest a.history)
  pub times_within : All (λ r. NotFalling r.opening.seconds (map (λ c. c.time.seconds) (containers_of r)) (r.opening.seconds + duration r))
      a.closed
  -- What they count, and what still runs, is all that was reported of it, up and down.
  pub uplink : sum_of (λ c. c.uplink) (containers_read a) + sum_of (λ c. c.current.uplink) a.still_open ≡ total up a.history
  pub downlink : sum_of (λ c. c.downlink) (containers_read a) + sum_of (λ c. c.current.downlink) a.still_open ≡ total down a.history

-- Any calls, of one event and of lists of reports, from a fresh node with this profile, and a name.
pub record PerActivation (p : Profile) (calls : List Call) (name : Name) : Type 0 where
  -- All the octets that the calls wrote, read mark by mark, are these records.
  pub output : List Cdr
  pub read : record_list (outputs (fresh_node p) calls) ≡ Some output
  -- There is one of these for each activation of the name, first to last.
  pub one_each : List Activation
  pub histories : map (λ a. a.history) one_each ≡ activations (contexts p) p calls name
  -- The S-CDRs under the name are theirs, one run for each, in order; and so is what is stored under it.
  pub closed_under : under same sight.name_of name (each sessions output) ≡ each (λ a. a.closed) one_each
  pub open_under : under same sight.name name (held (sight.slots (node_then p calls))) ≡ each (λ a. a.still_open) one_each
  -- Each of them is charged once.
  pub charged : All (ChargedOnce p name) one_each
