-- A fresh node is sound, and whatever calls are made on it one after another, it stays so: none of them is ever answered 13.
use mathlib.Core.Path.{◌≡◌, refl, sym, ◌∙◌}
use mathlib.Core.Bool.{true, false}
use mathlib.Core.List.{List, [], ◌∷◌, map}
use lib.Dec.{eqb}
use Prim.Native.Nat.{ℕ, zero, suc}
use lib.ListN.{replicate, length-replicate}
use Rattle.limits.specs.Sets.{first_editions, sets_ok}
use Rattle.profile.proofs.Ranges.{parts}
use Rattle.profile.specs.declared.Profile.{Profile}
use Rattle.profile.specs.Profile.{profile_ok}
use Rattle.event.specs.declared.Name.{Name}
use Rattle.event.specs.Fields.{time_of}
use Rattle.context.specs.Context.{no_context}
use Rattle.context.specs.Sound.{slots_ok}
use Rattle.context.specs.Slots.{slot_of, distinct}
use Rattle.history.specs.Slots as S
use Rattle.history.specs.Lists.{All}
use Rattle.keys.specs.Slots as keys
use Rattle.subscriber.specs.Subscriber.{slot_of as imsiSlot, no_subscriber}
use Rattle.subscriber.specs.Sound.{slots_ok as subscribersOk}
use Rattle.subscriber.specs.Held.{HeldSubscriber}
use Rattle.subscriber.proofs.Sounds.{blank_ok}
use Rattle.subscriber.proofs.Helds.{blank_held}
use Rattle.node.specs.declared.Node.{Node}
use Rattle.node.specs.Sound.{sound, fresh_node, no_node}
use Rattle.node.specs.Step.{records_of, mm_records_of, said_of, step_of}
use Rattle.node.specs.Held.{Octets, HeldContext, HeldProfile, Held, Whole}
use Rattle.node.specs.Batch.{batch_of}
use Rattle.node.specs.Run.{Call, step, batch, after_one, after, Given}
use Rattle.node.proofs.Demands.{answered}
use Rattle.node.proofs.ContextKept.{Fine}
use Rattle.node.proofs.TableKept.{nothing_ok, nothing_held}
use Rattle.node.proofs.SubscribersKept.{MmFine}
use Rattle.node.proofs.NodeKept.{records_good, mm_records_good}
use Rattle.node.proofs.StepKept.{step_kept, not_13}
use Rattle.node.proofs.BatchKept.{batch_kept, batch_not_13}

-- ---- a fresh node

module _ (l z clock accepted : ℕ) where
  free_slots : (k : ℕ) → slots_ok l z clock accepted (replicate k no_context) ≡ true
  free_slots zero = refl
  free_slots (suc k) = rw (nothing_ok l z clock accepted, free_slots k)

free_distinct : (k : ℕ) → distinct (map slot_of (replicate k no_context)) ≡ true
unfolding S.distinct
free_distinct zero = refl
free_distinct (suc k) = rw (free_distinct k)

-- the same of subscribers
nobody : (zone clock accepted k : ℕ) → subscribersOk zone clock accepted (replicate k no_subscriber) ≡ true
nobody zone clock accepted zero = refl
nobody zone clock accepted (suc k) = rw (blank_ok zone clock accepted, nobody zone clock accepted k)

nobody_distinct : (k : ℕ) → keys.distinct eqb (map imsiSlot (replicate k no_subscriber)) ≡ true
unfolding S.distinct
nobody_distinct zero = refl
nobody_distinct (suc k) = rw (nobody_distinct k)

nobody_held : (k : ℕ) → All HeldSubscriber (replicate k no_subscriber)
nobody_held zero = tt
nobody_held (suc k) = (blank_held, nobody_held k)

free_held : (k : ℕ) → All HeldContext (replicate k no_context)
free_held zero = tt
free_held (suc k) = (nothing_held, free_held k)

module _ (p : Profile) where
  pub fresh_sound : profile_ok p ≡ true → sound (fresh_node p) ≡ true
  unfolding sound
  fresh_sound ok = rw (ok, (parts p ok).sets, free_distinct 16, free_slots p.sets p.zone 0 0 16, nobody_distinct 16, nobody p.zone 0 0 16)

  pub fresh_held : HeldProfile p → Held (fresh_node p)
  fresh_held h = record {
    profile = h;
    size = length-replicate 16 no_context;
    contexts = free_held 16;
    places = length-replicate 16 no_subscriber;
    subscribers = nobody_held 16;
  }

  pub fresh_whole : profile_ok p ≡ true → HeldProfile p → Whole (fresh_node p)
  fresh_whole ok h = record { sound = fresh_sound ok; held = fresh_held h }

-- what is handed back with 12 is not sound
pub no_node_lem : sound no_node ≡ false
unfolding sound profile_ok first_editions sets_ok
no_node_lem = refl

-- ---- calls one after another

-- a call of either kind
pub one_kept : (n : Node) (c : Call) → Whole n → Given c → Whole (after_one n c)
unfolding after_one
one_kept n (step s b) w o = step_kept n s b w o
one_kept n (batch m t vs b) w o = batch_kept n m t vs b w

pub after_kept : (n : Node) (cs : List Call) → Whole n → All Given cs → Whole (after n cs)
unfolding after
after_kept n [] w o = w
after_kept n (c ∷ cs) w o = after_kept (after_one n c) cs (one_kept n c w o.0) o.1

module _ (p : Profile) (ok : profile_ok p ≡ true) (h : HeldProfile p) (cs : List Call) (o : All Given cs) where
  -- from a fresh node, after any calls
  pub run_kept : Whole (after (fresh_node p) cs)
  run_kept = after_kept (fresh_node p) cs (fresh_whole p ok h) o

  pub never_13 : (s b : List ℕ) → (step_of (after (fresh_node p) cs) s b).0 ≡ 13 → ⊥
  never_13 s b e = not_13 (after (fresh_node p) cs) s b run_kept.sound e

  pub batch_never_13 : (m : Name) (t : ℕ) (vs b : List ℕ) → (batch_of (after (fresh_node p) cs) m t vs b).answer ≡ 13 → ⊥
  batch_never_13 m t vs b e = batch_not_13 (after (fresh_node p) cs) m t vs b run_kept e

  -- what the next one writes, where it is accepted
  pub run_records : (s b : List ℕ) → Octets s → (step_of (after (fresh_node p) cs) s b).0 ≡ 0 → All Fine (records_of (after (fresh_node p) cs) (time_of s) (said_of s))
  run_records s b k e = let n = after (fresh_node p) cs in records_good n s b run_kept.held k (sym (answered n s b) ∙ e)

  pub run_mm_records : (s b : List ℕ) → Octets s → (step_of (after (fresh_node p) cs) s b).0 ≡ 0
      → All MmFine (mm_records_of (after (fresh_node p) cs) (time_of s) (said_of s))
  run_mm_records s b k e = let n = after (fresh_node p) cs in mm_records_good n s b run_kept.held k (sym (answered n s b) ∙ e)
