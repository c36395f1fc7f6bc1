-- Demand 3 read over the octets, attachment by attachment (02, W4): "location changes in place of containers". Its location changes, read
-- through its closed records and then its open one, are the changes of its history. Nothing is lost, and nothing is there twice.
use Rattle.std.specs.Prelude.{◌≡◌, cond, List, [], ◌∷◌, ◌++◌, map, ℕ, ◌+◌, eqb}
use Rattle.std.specs.Prelude.{Some}
use Rattle.ber.specs.Field.{or_zero}
use Rattle.mcdr.specs.declared.Place.{Place}
use Rattle.mcdr.specs.declared.Change.{Change}
use Rattle.mcdr.specs.declared.MmRecord.{MmRecord}
use Rattle.mcdr.specs.Change.{same_place}
use Rattle.mcdr.specs.Changes.{place_now}
use Rattle.mcdr.specs.Rules.{used}
use Rattle.cdrs.specs.Cdr.{Cdr}
use Rattle.cdrs.specs.List.{record_list}
use Rattle.profile.specs.declared.Profile.{Profile}
use Rattle.subscriber.specs.declared.Subscriber.{Subscriber}
use Rattle.subscriber.specs.Subscriber as subscriber
use Rattle.history.specs.Lists.{each, All}
use Rattle.history.specs.History.{History, collect, began, began_with, standing}
use Rattle.history.specs.Records.{since_opening, closings, records, ended, leaves}
use Rattle.history.specs.Demand.{numbers, under, held}
use Rattle.node.specs.Sound.{fresh_node}
use Rattle.node.specs.Run.{Call}
use Rattle.once.specs.Charging.{time_in}
use Rattle.once.specs.Attaching.{Noted, moved, managed, detached, after, rules, record_from, subscriber_from}
use Rattle.once.specs.Once.{mobility, mm_sight, outputs, node_then, subscribers, activations}

-- The changes of a history, in time order: each event that says another place than the one in force. No word of cuts or records.
abbrev pub change_at : Profile → History Place Noted → ℕ → Noted → List Change
change_at p h t (moved q) = cond (same_place (standing after h) q) [] (record { place = q; time = time_in p t } ∷ [])
change_at p h t managed = []
change_at p h t (detached cause) = []

abbrev pub moves : Profile → History Place Noted → List Change
moves p h = collect (change_at p) h

-- An attachment: its history, its closed records, and its open one: the subscriber that is stored for it until it detaches.
pub record Attachment : Type 0 where
  pub history : History Place Noted
  pub closed : List MmRecord
  pub still_open : List Subscriber

-- its location changes, read through its closed records and then its open one
abbrev pub changes_read : Attachment → List Change
changes_read a = each used a.closed ++ each subscriber.used a.still_open

-- when a record closed, and where
abbrev pub closed_at : MmRecord → ℕ
closed_at r = r.opening.seconds + r.duration

abbrev pub closed_in : MmRecord → Place
closed_in r = place_now r.place (used r)

pub record AttachedOnce (p : Profile) (name : ℕ) (a : Attachment) : Type 0 where
  -- The records are those that its history makes, and the subscriber is what it leaves, unless a detach has ended it.
  pub made : a.closed ≡ map (record_from p name) (records rules a.history)
  pub left : a.still_open ≡ cond (ended rules a.history) [] (subscriber_from p name (leaves rules a.history) ∷ [])
  -- Its location changes are the changes of its history, once each, in order.
  pub changes : changes_read a ≡ moves p a.history
  -- The closed records have the numbers 1, 2, 3, and a sole record none.
  pub numbered : map (λ r. r.number) a.closed ≡ map or_zero (numbers (ended rules a.history) (closings rules a.history))
  -- Each record opens when and where the one before it closed, the first one when and where it attached; and so does what is open after them.
  pub when : map (λ r. r.opening.seconds) a.closed ++ (began (since_opening rules a.history) ∷ []) ≡ began a.history ∷ map closed_at a.closed
  pub where_to : map (λ r. r.place) a.closed ++ (began_with (since_opening rules a.history) ∷ []) ≡ began_with a.history ∷ map closed_in a.closed

-- Any calls, of one event and of lists of reports, from a fresh node with this profile, and a name.
pub record PerAttachment (p : Profile) (calls : List Call) (name : ℕ) : Type 0 where
  -- All the octets that the calls wrote, read mark by mark, are these records.
  pub output : List Cdr
  pub read : record_list (outputs (fresh_node p) calls) ≡ Some output
  -- There is one of these for each attachment of the name, first to last.
  pub one_each : List Attachment
  pub histories : map (λ a. a.history) one_each ≡ activations (subscribers p) p calls name
  -- The M-CDRs under the name are theirs, one run for each, in order; and so is what is stored under it.
  pub closed_under : under eqb mm_sight.name_of name (each mobility output) ≡ each (λ a. a.closed) one_each
  pub open_under : under eqb mm_sight.name name (held (mm_sight.slots (node_then p calls))) ≡ each (λ a. a.still_open) one_each
  -- Each of them is charged once.
  pub charged : All (AttachedOnce p name) one_each
